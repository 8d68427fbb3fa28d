-- Plans, with what they stand for.
pub mod Plans
