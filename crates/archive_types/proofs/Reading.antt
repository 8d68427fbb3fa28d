-- What is read back.
pub mod ReadElements
pub mod FirstRead
pub mod ReadRecords
pub mod OwnersRead
