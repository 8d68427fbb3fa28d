-- What a plan is: how an expression with its definitions is compiled to nodes, and what the nodes stand for.
pub mod BoundedSizes
pub mod Compilable
pub mod CompileQueue
pub mod Compiled
pub mod Extents
pub mod Names
pub mod NodeCounts
pub mod NodeNumbers
pub mod PackedPlans
pub mod PlanGrowth
pub mod Planned
pub mod Represents
pub mod Shallow
pub mod SoundPlans
