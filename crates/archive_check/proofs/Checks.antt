-- How a check goes: its walk, or the fault that it finds.
pub mod TestedAnswers
pub mod PlainRuns
pub mod Subtrees
pub mod Depths
pub mod RangeLevels
pub mod Walks
pub mod WalksBack
pub mod AcceptedWalks
pub mod FaultyNotWalked
pub mod WithoutLimit
pub mod FaultUnique
