-- What is said of a check's context: its range, its shared positions, and the regions that it enters.
pub mod Ranges
pub mod EnteredRegions
pub mod Pushes
pub mod PositionStates
pub mod FreshContexts
pub mod SharedPositions
pub mod RecalledPositions
pub mod FirstPositions
pub mod InSubtree
pub mod Validators
pub mod Contexts
