-- How writes go as planned, and why they are refused.
pub mod Causes
pub mod Planned
pub mod Unhindered
pub mod Owners
pub mod PlannedMaps
pub mod PlansForward
pub mod PlannedParts
pub mod Runs
pub mod SilentPlans
