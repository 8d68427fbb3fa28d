-- Views that are compared.
pub mod Compared
pub mod ComparedValues
pub mod LevelRuns
pub mod SaidOrder
pub mod FollowedPointers
pub mod OneReading
pub mod MeantOrder
