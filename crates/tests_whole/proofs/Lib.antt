pub mod TwoPools
pub mod Loops
