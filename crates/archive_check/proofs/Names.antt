-- Names with their definitions, and the layouts of these.
pub mod Named
pub mod MissingNames
pub mod SameLayouts
pub mod PositiveAlignments
pub mod NamesComeBack
pub mod LaidOutNames
pub mod WellFormed
pub mod ReachedNames
pub mod Rounds
