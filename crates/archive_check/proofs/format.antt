-- Lemmas on leaves in bytes, and on expressions and definitions.
pub mod AddedDefinitions
pub mod BytesAt
pub mod ChoiceVariants
pub mod Copies
pub mod EqualExpressions
pub mod Lanes
pub mod LegalBytes
pub mod RecordParts
pub mod Views
