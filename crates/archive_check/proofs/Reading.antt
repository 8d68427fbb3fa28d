-- What is read back of an archive.
pub mod ReadBack
pub mod ReadOwners
pub mod ReadVariants
pub mod ReadShared
pub mod ReadParts
