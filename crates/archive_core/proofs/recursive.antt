-- Lemmas on the calls that write, check and read back recursive types.
pub mod Links
pub mod MapsHeld
pub mod RecordAs
pub mod ChainsWritten
pub mod ChainsRead
pub mod KeysBegun
pub mod PositionsBegun
