-- Shared values and what points to them.
pub mod SharedPlans
pub mod Shared
pub mod SharedCauses
pub mod SharedWritten
pub mod SharedViews
pub mod SharedBytes
pub mod KeyStates
