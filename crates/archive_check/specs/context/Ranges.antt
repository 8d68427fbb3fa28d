-- The calls of a check on its range, as functions of the range.
use Rattle.std.specs.Prelude.{ℕ, ◌+◌, ◌%◌, Bool, ◌&&◌, ◌==◌, nat_le, nat_lt, if◌then◌else◌, min, ℤ, pos, negsuc, Option, Some, None, Result, Ok, Err, ◌≡◌, ◌≤◌}
use Rattle.archive_check.specs.declared.format.error.Error.{Error}
use Rattle.archive_check.specs.declared.format.error.Error.TheVariants.{InvalidSubtreePointer, UnalignedPointer, RangePoppedTooManyTimes, RangePoppedOutOfOrder}
use Rattle.archive_check.specs.Depth.{inside}

-- Where regions may lie, how many levels are left (none: no limit), and how many regions were entered.
pub record RangeState : Type 0 where
  pub start : ℕ
  pub end : ℕ
  pub depth : Option ℕ
  pub pushes : ℕ

-- The whole of a buffer of n bytes, of which nothing is entered yet.
abbrev pub whole : ℕ → Option ℕ → RangeState
whole n depth = record { start = 0; end = n; depth = depth; pushes = 0 }

-- A region has to lie within the range, at a multiple of its alignment.
abbrev pub subtree_answer : RangeState → ℤ → ℕ → ℕ → Result (Unit {0}) Error
subtree_answer s (negsuc n) size align = Err (InvalidSubtreePointer (negsuc n) size s.start s.end)
subtree_answer s (pos n) size align =
    if nat_le s.start n && nat_le (n + size) s.end
    then (if (n % align) == 0 then Ok tt else Err (UnalignedPointer (pos n) align))
    else Err (InvalidSubtreePointer (pos n) size s.start s.end)

abbrev pub one_more : Option ℕ → Option ℕ
one_more None = None
one_more (Some d) = Some (d + 1)

-- The range below a region that begins at root.
abbrev pub pushed : RangeState → ℕ → RangeState
pushed s root =
    record { start = s.start; end = root; depth = inside s.depth; pushes = min (s.pushes + 1) 18446744073709551615 }

-- No more levels can be left than a number holds.
abbrev pub is_full : Option ℕ → Bool
is_full None = nat_lt 0 0
is_full (Some d) = d == 18446744073709551615

-- A range is given back that begins no lower than the current one ends.
abbrev pub pop_answer : RangeState → ℕ → Result (Unit {0}) Error
pop_answer s x =
    if nat_lt x s.end
    then Err RangePoppedOutOfOrder
    else (if is_full s.depth then Err RangePoppedTooManyTimes else Ok tt)

-- The given range again.
abbrev pub popped : RangeState → ℕ → ℕ → RangeState
popped s x y = record { start = x; end = y; depth = one_more s.depth; pushes = s.pushes }

-- A region of this size and alignment lies at t, within the range.
pub record Lands (s : RangeState) (z : ℤ) (size align t : ℕ) : Type 0 where
  pub target : z ≡ pos t
  pub above : s.start ≤ t
  pub below : t + size ≤ s.end
  pub aligned : t % align ≡ 0
