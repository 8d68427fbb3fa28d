pub mod Wholes
pub mod EditedParts
pub mod TwoPools
pub mod CircleShape
pub mod LoopShape
