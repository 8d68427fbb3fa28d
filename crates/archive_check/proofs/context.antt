-- Lemmas on what a check keeps.
pub mod PowersOfTwo
pub mod SharedPositions
pub mod FirstPositions
pub mod RecalledPositions
pub mod SubtreeSteps
pub mod EnteredRegions
