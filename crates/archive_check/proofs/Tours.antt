-- Tours, and the bytes and regions on them.
pub mod Seen
pub mod RegionsApart
pub mod ReadingUnique
pub mod JoinedTours
pub mod PartsInside
pub mod EqualBytes
pub mod EqualTours
pub mod StandingBytes
pub mod CleanRegions
pub mod Tightness
pub mod UniqueBefore
pub mod OpenPaths
