-- Types that check themselves.
pub mod Ways
pub mod Layouts
pub mod Regions
pub mod Steps
pub mod Elements
pub mod Parts
pub mod Variants
pub mod Laws
pub mod Orders
pub mod Roots
pub mod Outcomes
pub mod Spent
pub mod Arrays
