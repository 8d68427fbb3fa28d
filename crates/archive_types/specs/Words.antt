-- Short words that clauses use.
pub mod BulkCopies
pub mod WrittenPointers
pub mod PlacedParts
pub mod Seen
pub mod ReadBack
pub mod SharedPointers
pub mod OffsetsWritten
pub mod SeenEntries
