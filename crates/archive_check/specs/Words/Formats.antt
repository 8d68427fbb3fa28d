-- What an archived type tells of itself.
use Rattle.std.specs.Prelude.{ℕ}
use Rattle.archive_check.specs.Shape.{Shape, Pointee}
use Rattle.archive_check.specs.Layout.{Layout}
use Rattle.archive_check.specs.Definitions.{Definitions}

-- What a format says of itself: its shape, definitions and layout, what it is as a pointee, and the
-- length in its metadata.
abbrev pub FormatOf : Type 0 → Type 0
FormatOf M = record { pointee : Pointee; definitions : Definitions; metadata_length : M → ℕ; shape : Shape; layout : Layout }
