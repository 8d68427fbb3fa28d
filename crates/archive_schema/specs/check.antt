-- How a check goes over a plan, and what each of its turns keeps.
pub mod Entered
pub mod Hollow
pub mod Lists
pub mod LoopInvariant
pub mod Paid
pub mod PlanChecks
pub mod Runs
pub mod Through
pub mod Turns
