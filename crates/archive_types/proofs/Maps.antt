-- Sorted maps: what their views show, and how their keys are found.
pub mod EntriesShown
pub mod AscendingKeys
pub mod Halving
pub mod PairsLeft
pub mod InsertedPairs
pub mod MapsRead
pub mod NativePairs
