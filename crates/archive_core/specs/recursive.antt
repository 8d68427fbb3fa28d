-- What is said of the calls that write, check and read back recursive types.
pub mod ChainSteps
pub mod Chains
pub mod Expressed
pub mod Held
pub mod HeldLists
pub mod HeldMaps
pub mod HeldOptions
pub mod Hollow
pub mod SharedParts
pub mod PooledParts
