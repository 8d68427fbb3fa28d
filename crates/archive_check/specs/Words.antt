-- Short words that clauses use.
pub mod Errors
pub mod Elements
pub mod BoundedSizes
pub mod AddAnswer
pub mod PlainData
pub mod Formats
pub mod Faults
pub mod LegalRuns
pub mod AddedDefinitions
