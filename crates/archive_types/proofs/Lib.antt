pub mod Comparing
pub mod Viewing
pub mod Writing
pub mod Planning
pub mod SharedValues
pub mod Reading
pub mod Copying
pub mod Maps
