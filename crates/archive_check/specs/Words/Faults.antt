-- The refusal that says a fault.
use Rattle.std.specs.Prelude.{◌≡◌, ◌⊎◌, ℕ, pos, List}
use Rattle.std.specs.Borrow.{Bor}
use Rattle.archive_check.specs.declared.format.error.Error.{Error}
use Rattle.archive_check.specs.declared.format.error.Error.TheVariants.{OutOfMemory, InvalidSubtreePointer, UnalignedPointer, ExceededMaximumSubtreeDepth, CyclicValidate, TypeMismatch, MetadataMismatch, LayoutTooLarge, InvalidDiscriminant, InvalidBool, InvalidChar, ZeroNumber, InvalidUtf8, InvalidStringRepr, UnsortedKeys}
use Rattle.archive_check.specs.Shape.{Kind, bool, char, non_zero}
use Rattle.archive_check.specs.Trail.{Fault, too_large, outside, unaligned, too_deep, cyclic, other_type, other_length, illegal, no_such_variant, no_text, no_string, unsorted}

-- The error of an illegal leaf; a unit, a number and an offset are never illegal.
abbrev pub illegal_error : Kind → Error
illegal_error bool = InvalidBool
illegal_error char = InvalidChar
illegal_error (non_zero s w) = ZeroNumber
illegal_error _ = OutOfMemory

-- The error names the fault, with its fields.
abbrev pub IsFor : Fault → Error → Type 0
IsFor too_large e = e ≡ LayoutTooLarge
IsFor (outside where_to size start stop) e = e ≡ InvalidSubtreePointer where_to size start stop
IsFor (unaligned t align) e = e ≡ UnalignedPointer (pos t) align
IsFor too_deep e = e ≡ ExceededMaximumSubtreeDepth
IsFor cyclic e = e ≡ CyclicValidate
IsFor other_type e = e ≡ TypeMismatch
IsFor other_length e = e ≡ MetadataMismatch
IsFor (illegal kind) e = e ≡ illegal_error kind
IsFor (no_such_variant name tag) e = (b : Bor (List ℕ)) × (e ≡ InvalidDiscriminant b tag) × (b.now ≡ name)
IsFor no_text e = e ≡ InvalidUtf8
IsFor no_string e = e ≡ InvalidStringRepr
IsFor unsorted e = e ≡ UnsortedKeys

-- an error that a check can return, in whatever context: memory was refused, or a fault is said.
abbrev pub IsOfCheck : Error → Type 0
IsOfCheck e = (e ≡ OutOfMemory) ⊎ ((fault : Fault) × IsFor fault e)
