-- The region that a pointer leads to is entered, or why not, and is left.
use Rattle.std.specs.Prelude.{◌≡◌, ℕ, ◌+◌, ◌%◌, ◌≤◌, ℤ, pos, Option, Some, None}
use Rattle.archive_check.specs.declared.format.error.Error.{Error}
use Rattle.archive_check.specs.declared.context.range.Region.{Region}
use Rattle.archive_check.specs.Depth.{Allows, inside}
use Rattle.archive_check.specs.context.Ranges.{RangeState, Lands}
use Rattle.archive_check.specs.Trail.{Fault, too_large, outside, unaligned, too_deep}
use Rattle.archive_check.specs.Words.Faults.{IsFor}
use Rattle.archive_check.specs.context.FreshContexts.{HasLevels}

-- A region of this size, none where it is above usize::MAX, isn't entered.
pub data NotEntered (s : RangeState) (z : ℤ) (align : ℕ) : Option ℕ → Fault → Type 0 where
  not_sized : NotEntered s z align None too_large
  not_within : {n : ℕ} → ((t : ℕ) → z ≡ pos t → s.start ≤ t → t + n ≤ s.end → ⊥) → NotEntered s z align (Some n) (outside z n s.start s.end)
  not_aligned : {n t : ℕ} → z ≡ pos t → s.start ≤ t → t + n ≤ s.end → (t % align ≡ 0 → ⊥) → NotEntered s z align (Some n) (unaligned t align)
  not_allowed : {n t : ℕ} → Lands s z n align t → (Allows s.depth 1 → ⊥) → NotEntered s z align (Some n) too_deep

-- Nor is it, and this is the refusal.
abbrev pub EntersNot : RangeState → ℤ → ℕ → Option ℕ → Error → Type 0
EntersNot s z align size e = HasLevels s.depth → (f : Fault) × IsFor f e × NotEntered s z align size f

-- The region r lies where the pointer says, and regions may now lie before it alone.
pub record Begun (s s' : RangeState) (z : ℤ) (align : ℕ) (r : Region) : Type 0 where
  pub lands : Lands s z r.size align r.begin
  pub start : s'.start ≡ s.start
  pub end : s'.end ≡ r.begin
  pub depth : s'.depth ≡ inside s.depth
  pub deep : s.depth ≡ Some 1 → ⊥
  pub outer_start : r.outer_start ≡ r.begin + r.size
  pub outer_end : r.outer_end ≡ s.end

-- The same of one of this size.
abbrev pub Enters : RangeState → RangeState → ℤ → ℕ → Option ℕ → Region → Type 0
Enters s s' z align size r = (size ≡ Some r.size) × Begun s s' z align r
