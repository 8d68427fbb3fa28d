-- What an archive means.
pub mod ReachedParts
pub mod MeaningUnique
pub mod NamesKnown
pub mod NamesReached
pub mod SelectedEntries
pub mod ReachedMeanings
pub mod SameMeanings
pub mod MeaningExists
pub mod CalmArchives
pub mod SharedKnown
