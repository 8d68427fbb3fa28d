-- A context that a check begins with.
use Rattle.std.specs.Prelude.{◌≡◌, ◌≢◌, ◌<◌, ℕ, ℤ, List, length, Option, Some, None}
use Rattle.archive_check.specs.declared.context.Context as Context
use Rattle.archive_check.specs.context.Ranges.{RangeState}
use Rattle.archive_check.specs.context.PositionStates.{Positions}

-- Levels are left, and no more than a number holds.
pub record HasLevels (depth : Option ℕ) : Type 0 where
  pub levels : depth ≢ Some 0
  pub few : (d : ℕ) → depth ≡ Some d → d < 18446744073709551616

-- Levels are left behind a call where they were before it.
abbrev pub KeepsLevels : RangeState → RangeState → Type 0
KeepsLevels s s' = HasLevels s.depth → HasLevels s'.depth

-- Nothing was met yet, and levels are left.
pub record IsFresh (s : RangeState) (met : Positions) : Type 0 where
  pub nothing : (position : ℤ) → met position ≡ None
  pub levels : HasLevels s.depth

-- And regions may lie in the whole buffer.
pub record IsWhole (s : RangeState) (met : Positions) (bytes : List ℕ) : Type 0 where
  pub fresh : IsFresh s met
  pub start : s.start ≡ 0
  pub end : s.end ≡ length bytes

-- The context is for these bytes, and met nothing yet.
abbrev pub IsWholeIn : {C : Type 0} → Context.Ghosts C → C → List ℕ → Type 0
IsWholeIn k c bytes = IsWhole (k.state c) (k.positions c) bytes
