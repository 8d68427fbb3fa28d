-- The region of a value that was serialized before, and the box that owns it: what a recursive type is written by.
use Rattle.std.specs.Prelude.{◌≡◌, ℕ, List, length}
use Rattle.archive_check.specs.Layout.{Layout}
use Rattle.archive_check.specs.Shape.{Shape, boxed, one}
use Rattle.archive_check.specs.Definitions.{Definitions}
use Rattle.archive_check.specs.Value.{Value, box, hole}
use Rattle.archive_check.specs.WriterState.{WriterState, Pads}
use Rattle.archive_check.specs.declared.format.error.Error.{Error}
use Rattle.archive_check.specs.Denotes.{Naming}
use Rattle.archive_write.specs.Written.{GoesOn}
use Rattle.archive_types.specs.Writing.{Puts, to_pointee}
use Rattle.archive_types.specs.Plans.{Serialized}
use Rattle.archive_types.specs.Causes.{IsRefused}

-- From whatever the value was serialized, up to here: now its region stands at t, and a box of it is serialized, too.
pub record IsBoxed (D : Definitions) (X : Shape) (keys : List Naming) (v flat : Value) (t : ℕ) (mid new : WriterState) : Type 0 where
  pub since : (old : WriterState) → GoesOn old mid → Serialized D X keys v flat old mid → Serialized D (boxed (one X)) keys (box v) (box (hole (to_pointee t (one X) 0))) old new

-- Its region was put at t, behind zeros.
pub record IsPutAt (D : Definitions) (X : Shape) (L : Layout) (flat : Value) (t : ℕ) (mid new : WriterState) : Type 0 where
  pub low : WriterState
  pub pads : Pads L.align mid low
  pub at : t ≡ length low.bytes
  pub puts : Puts D low new X L flat

-- And why a box of it isn't serialized.
pub record IsNotBoxed (D : Definitions) (X : Shape) (keys : List Naming) (v flat : Value) (mid new : WriterState) (e : Error) : Type 0 where
  pub since : (old : WriterState) → GoesOn old mid → Serialized D X keys v flat old mid → IsRefused D (boxed (one X)) keys (box v) old new e
