-- What views show and lead to.
pub mod ViewsTogether
pub mod Shown
pub mod KnownParts
pub mod PartsShown
pub mod ArraysShown
pub mod FieldsShown
pub mod LastElements
pub mod ChoicesShown
pub mod OneLengths
pub mod EndsBefore
