-- Views of parts of an archive.
pub mod Viewed
pub mod ViewedValues
pub mod ViewedPayloads
pub mod ViewedVariants
