pub use Rattle.archive_check.specs.Definitions
pub use Rattle.archive_check.specs.Expressions
pub use Rattle.archive_check.specs.Layout
pub use Rattle.archive_check.specs.Members.LeafLayout
pub use Rattle.archive_check.specs.SelfCheck
pub use Rattle.archive_check.specs.Shape
pub use Rattle.archive_num.specs.Digits
