-- A region that is entered, and one that is left.
use denote.Triple.Both.{Both}
use denote.Ref.{MutBor}
use Rattle.std.specs.Prelude.{◌≡◌, ℕ, ◌+◌, ℤ, Option, Some, Ok, Err, OnSome, IfSome, IfNone}
use Rattle.archive_check.specs.declared.context.Context as Context
use Rattle.archive_check.specs.declared.format.error.Error.{Error}
use Rattle.archive_schema.specs.declared.plan.PointeeKind.{PointeeKind}
use Rattle.archive_schema.specs.declared.check.Checker.{Checker}
use Rattle.archive_check.specs.declared.context.range.Region.{Region}
use Rattle.archive_schema.specs.declared.check.worklist.Worklist.{Worklist}
use Rattle.archive_check.specs.Depth.{inside}
use Rattle.archive_check.specs.context.Ranges.{RangeState, pop_answer, popped, Lands}
use Rattle.archive_schema.specs.check.Runs.{RegionIs}
use Rattle.archive_schema.specs.check.LoopInvariant.{Stage}
use Rattle.archive_schema.specs.check.Through.{Stops, region_rule, stage_before, stage_behind}

-- The region r of n of the node j lies where the pointer says, and regions may now lie before it alone.
pub record Entered (m : Checker) (target : PointeeKind) (j n : ℕ) (z : ℤ) (s s' : RangeState) (r : Region) : Type 0 where
  pub align : ℕ
  pub region : RegionIs m target j n (Some r.size) align
  pub lands : Lands s z r.size align r.begin
  pub start : s'.start ≡ s.start
  pub end : s'.end ≡ r.begin
  pub depth : s'.depth ≡ inside s.depth
  pub deep : s.depth ≡ Some 1 → ⊥
  pub outer_start : r.outer_start ≡ r.begin + r.size
  pub outer_end : r.outer_end ≡ s.end

-- The region is entered, or (None) it is refused.
pub record EntersFrom (m : Checker) (target : PointeeKind) (j n : ℕ) (z : ℤ) (x y : Stage) (result : Option Region) (fault : Error) : Type 0 where
  pub entered : IfSome result (λ r. Entered m target j n z x.range y.range r)
  pub list : OnSome result (y.work ≡ x.work)
  pub positions : OnSome result (y.met ≡ x.met)
  pub none : IfNone result (Stops (region_rule m target j n z) x.range fault)

-- The range is the one from start to end again, or (None) it isn't taken back.
pub record LeavesFrom (start end : ℕ) (x y : Stage) (result : Option (Unit {0})) (fault : Error) : Type 0 where
  pub range : OnSome result (y.range ≡ popped x.range start end)
  pub taken : OnSome result (pop_answer x.range start ≡ Ok tt)
  pub list : OnSome result (y.work ≡ x.work)
  pub positions : OnSome result (y.met ≡ x.met)
  pub none : IfNone result (pop_answer x.range start ≡ Err fault)

-- A call enters the region, from one context and list to the next.
abbrev pub EntersRegion : {A : Type 0} → Context.Ghosts A → Checker → PointeeKind → ℕ → ℕ → ℤ → Both (MutBor A) (MutBor A) → Both (MutBor Worklist) (MutBor Worklist) → Option Region → Type 0
EntersRegion k m target j n z c w result = EntersFrom m target j n z (stage_before k c w) (stage_behind k c w) result w.exit.now.fault

-- A call leaves a region.
abbrev pub LeavesRegion : {A : Type 0} → Context.Ghosts A → ℕ → ℕ → Both (MutBor A) (MutBor A) → Both (MutBor Worklist) (MutBor Worklist) → Option (Unit {0}) → Type 0
LeavesRegion k start end c w result = LeavesFrom start end (stage_before k c w) (stage_behind k c w) result w.exit.now.fault
