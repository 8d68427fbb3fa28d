-- Layouts of types, and laws that the ghost members of their impls cite.
pub mod LeafLayout
pub mod NoOthers
pub mod NamedLayout
pub mod PartsLayout
pub mod RegionLayout
pub mod VariantsHeld
pub mod VariantsLayout
