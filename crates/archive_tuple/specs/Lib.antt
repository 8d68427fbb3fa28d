pub mod Entries
pub use Rattle.archive_check.specs.Layout
pub use Rattle.archive_check.specs.Members.PartsLayout
pub use Rattle.archive_check.specs.SelfCheck
pub use Rattle.archive_check.specs.Shape
