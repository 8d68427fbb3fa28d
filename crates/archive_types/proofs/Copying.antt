-- Values that are copied.
pub mod Copies
pub mod ArrayCopies
pub mod CopiedLeaves
pub mod BulkWritten
