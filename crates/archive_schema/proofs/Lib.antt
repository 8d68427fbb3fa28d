pub mod Archives
pub mod PlanAnswers
pub mod SchemaDefinitions
pub mod Given
pub mod Examples
