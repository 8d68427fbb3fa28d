-- What owns a region: how large its pointer is.
use Rattle.std.proofs.Common.{◌≡◌, ℕ, ◌≤◌, arith, Bool, if◌then◌else◌, refl}
use Rattle.archive_check.specs.Shape.{Pointee, one, run, text}
use Rattle.archive_check.specs.Layout.{pointer_size, has_length}

-- a pointer with a length has eight bytes, one without has four
pub size_by_length : (P : Pointee) (b : Bool) → b ≡ has_length P → pointer_size P ≡ if b then 8 else 4
size_by_length (one X) b e = rw e refl
size_by_length (run X) b e = rw e refl
size_by_length text b e = rw e refl

pub pointer_some : (P : Pointee) → 4 ≤ pointer_size P
pointer_some (one X) = omega arith
pointer_some (run X) = omega arith
pointer_some text = omega arith
