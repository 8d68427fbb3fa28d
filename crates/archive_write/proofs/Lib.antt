pub mod Padding
pub mod FinishedKeys
