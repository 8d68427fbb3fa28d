-- Maps: their entries, and the order of their keys.
pub mod Entries
pub mod KeptOrder
pub mod KeyOrder
pub mod CheckedEntries
pub mod FreeRegions
pub mod FreeClosed
pub mod NoKeySealed
