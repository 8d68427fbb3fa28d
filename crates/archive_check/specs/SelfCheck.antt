-- Types that check themselves.
pub mod Ways
pub mod Laws
pub mod Orders
pub mod Regions
pub mod Owners
pub mod Arrays
pub mod Lone
pub mod Steps
pub mod Maps
