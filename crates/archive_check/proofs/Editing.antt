-- What a write over a leaf changes.
pub mod RevisedMeanings
pub mod RevisedTour
pub mod RevisedValues
pub mod EditedArchives
pub mod Texts
pub mod EditedBytes
