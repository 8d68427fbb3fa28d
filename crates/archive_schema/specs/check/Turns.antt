-- What each turn of a check keeps, as one record: what is safe, what came of what, and that less is left.
use denote.Triple.Both.{Both}
use denote.Ref.{MutBor}
use Rattle.std.specs.Prelude.{◌≡◌, ◌⊎◌, ℕ, ◌+◌, ◌<◌, ℤ, pos, [], ◌∷◌, length, Option, OnSome, IfNone}
use Rattle.std.specs.FinMap.{empty}
use Rattle.archive_check.specs.declared.context.Context as Context
use Rattle.archive_check.specs.declared.format.error.Error.{Error}
use Rattle.archive_check.specs.declared.format.error.Error.TheVariants.{OutOfMemory}
use Rattle.archive_schema.specs.declared.plan.PointeeKind.{PointeeKind}
use Rattle.archive_schema.specs.declared.plan.PointeeKind.TheVariants.{One, Run}
use Rattle.archive_schema.specs.declared.check.Checker.{Checker}
use Rattle.archive_schema.specs.declared.check.worklist.Work.{Work}
use Rattle.archive_schema.specs.declared.check.worklist.Worklist.{Worklist}
use Rattle.archive_schema.specs.declared.check.worklist.Next.{Next}
use Rattle.archive_schema.specs.declared.check.worklist.Row.{Row}
use Rattle.archive_check.specs.context.Ranges.{RangeState}
use Rattle.archive_check.specs.context.PositionStates.{Positions}
use Rattle.archive_check.specs.Tour.{Seen}
use Rattle.archive_check.specs.Trail.{Fault}
use Rattle.archive_check.specs.Words.Faults.{IsFor}
use Rattle.archive_check.specs.context.FreshContexts.{HasLevels, IsFresh}
use Rattle.archive_schema.specs.plan.SoundPlans.{IsSound}
use Rattle.archive_schema.specs.plan.Shallow.{IsMarked}
use Rattle.archive_schema.specs.plan.PackedPlans.{ArePacked}
use Rattle.archive_check.specs.Outcomes.{Outcome, done, refused}
use Rattle.archive_schema.specs.check.Runs.{EnterRuns}
use Rattle.archive_schema.specs.check.Lists.{list_of, left_next, left_row, taken}
use Rattle.archive_schema.specs.check.LoopInvariant.{Stage, stage, Ready, Listing, Entering, Following, TurnLeads, TurnRefuses, IsStopped, power, level, cost}
use Rattle.archive_schema.specs.check.Through.{stage_before, stage_behind}

-- A check can go over the plan: it is sound, so are its marks, and it is packed.
pub record IsCheckable (m : Checker) : Type 0 where
  pub sound : IsSound m
  pub marked : IsMarked m
  pub packed : ArePacked m.nodes.now m.parts.now m.variants.now

-- What is left costs so much.
abbrev pub cost_at : Checker → Stage → ℕ
cost_at m x = cost m x.range.end x.work

-- So does a region that is entered here.
abbrev pub region_cost : Checker → Stage → ℕ
region_cost m x = power (level (length m.nodes.now) x.range.end 0 0)

-- A turn is taken: the next one is safe, whatever comes of what is left came of what was before, and less than so much is left.
pub record Turned (m : Checker) (Before : Stage → Seen → Outcome → Type 0) (most : ℕ) (x y : Stage) : Type 0 where
  pub ready : Ready m y.range y.work
  pub leads : TurnLeads m Before x y
  pub ends : cost_at m y < most

-- So it is, or (None) the refusal is what comes of what was before.
pub record TurnsFrom (m : Checker) (Before : Stage → Seen → Outcome → Type 0) (most : ℕ) (x y : Stage) (result : Option (Unit {0})) (fault : Error) : Type 0 where
  pub some : OnSome result (Turned m Before most x y)
  pub none : IfNone result (TurnRefuses Before x fault)

-- So it is of a region, which begins at an index; or (None) it is not entered, whatever the context met.
pub record ComesInto (m : Checker) (target : PointeeKind) (j n : ℕ) (z : ℤ) (x y : Stage) (result : Option (Unit {0})) (fault : Error) : Type 0 where
  pub some : OnSome result (Turned m (Entering m target j n z) (1 + (region_cost m x + cost_at m x)) x y)
  pub inside : OnSome result ((t : ℕ) × (z ≡ pos t) × (t < 18446744073709551616))
  pub none : IfNone result (IsStopped m target j n z x.range fault)

-- This entry of the list, with the others behind it.
abbrev pub with_entry : Work → Stage → Stage
with_entry entry x = stage x.range x.met (entry ∷ x.work)

-- A call takes this entry, from one context and list to the next.
abbrev pub Turn : {A : Type 0} → Context.Ghosts A → Checker → Work → Both (MutBor A) (MutBor A) → Both (MutBor Worklist) (MutBor Worklist) → Option (Unit {0}) → Type 0
Turn k m entry c w result =
    TurnsFrom m (Listing m) (cost_at m (with_entry entry (stage_before k c w))) (with_entry entry (stage_before k c w)) (stage_behind k c w) result w.exit.now.fault

-- What a check is at, at the return of a call that says what comes next.
abbrev pub stage_next : {A : Type 0} → Context.Ghosts A → Both (MutBor A) (MutBor A) → Both (MutBor Worklist) (MutBor Worklist) → Option Next → Stage
stage_next k c w result = stage (k.state c.exit.now) (k.positions c.exit.now) (left_next result (list_of w.exit.now))

-- Such a call takes this entry.
abbrev pub TurnToNext : {A : Type 0} → Context.Ghosts A → Checker → Work → Both (MutBor A) (MutBor A) → Both (MutBor Worklist) (MutBor Worklist) → Option Next → Type 0
TurnToNext k m entry c w result =
    TurnsFrom m (Listing m) (cost_at m (with_entry entry (stage_before k c w))) (with_entry entry (stage_before k c w)) (stage_next k c w result) (taken result) w.exit.now.fault

-- What a check is at, at the return of a call that says which elements of the node j come next.
abbrev pub stage_row : {A : Type 0} → Context.Ghosts A → ℕ → Both (MutBor A) (MutBor A) → Both (MutBor Worklist) (MutBor Worklist) → Option (Option Row) → Stage
stage_row k j c w result = stage (k.state c.exit.now) (k.positions c.exit.now) (left_row j result (list_of w.exit.now))

-- Such a call takes this entry.
abbrev pub TurnToRow : {A : Type 0} → Context.Ghosts A → Checker → ℕ → Work → Both (MutBor A) (MutBor A) → Both (MutBor Worklist) (MutBor Worklist) → Option (Option Row) → Type 0
TurnToRow k m j entry c w result =
    TurnsFrom m (Listing m) (cost_at m (with_entry entry (stage_before k c w))) (with_entry entry (stage_before k c w)) (stage_row k j c w result) (taken result) w.exit.now.fault

-- A call goes on with the list, if it takes an entry at all.
abbrev pub Continues : {A : Type 0} → Context.Ghosts A → Checker → Both (MutBor A) (MutBor A) → Both (MutBor Worklist) (MutBor Worklist) → Option (Unit {0}) → Type 0
Continues k m c w result = TurnsFrom m (Listing m) (1 + cost_at m (stage_before k c w)) (stage_before k c w) (stage_behind k c w) result w.exit.now.fault

-- So does one that says which elements come next.
abbrev pub ContinuesToRow : {A : Type 0} → Context.Ghosts A → Checker → ℕ → Both (MutBor A) (MutBor A) → Both (MutBor Worklist) (MutBor Worklist) → Option (Option Row) → Type 0
ContinuesToRow k m j c w result =
    TurnsFrom m (Listing m) (1 + cost_at m (stage_before k c w)) (stage_before k c w) (stage_row k j c w result) (taken result) w.exit.now.fault

-- A call enters a region.
abbrev pub TurnEnters : {A : Type 0} → Context.Ghosts A → Checker → PointeeKind → ℕ → ℕ → ℤ → Both (MutBor A) (MutBor A) → Both (MutBor Worklist) (MutBor Worklist) → Option (Unit {0}) → Type 0
TurnEnters k m target j n z c w result = ComesInto m target j n z (stage_before k c w) (stage_behind k c w) result w.exit.now.fault

-- A call enters a region, and says what comes next.
abbrev pub EntersToNext : {A : Type 0} → Context.Ghosts A → Checker → PointeeKind → ℕ → ℕ → ℤ → Both (MutBor A) (MutBor A) → Both (MutBor Worklist) (MutBor Worklist) → Option Next → Type 0
EntersToNext k m target j n z c w result = ComesInto m target j n z (stage_before k c w) (stage_next k c w result) (taken result) w.exit.now.fault

-- A call enters a run of n of the node j, and says which of them come next.
abbrev pub EntersToRow : {A : Type 0} → Context.Ghosts A → Checker → ℕ → ℕ → ℤ → Both (MutBor A) (MutBor A) → Both (MutBor Worklist) (MutBor Worklist) → Option (Option Row) → Type 0
EntersToRow k m j n z c w result = ComesInto m Run j n z (stage_before k c w) (stage_row k j c w result) (taken result) w.exit.now.fault

-- A call follows the shared pointer at p.
abbrev pub TurnFollows : {A : Type 0} → Context.Ghosts A → Checker → ℕ → PointeeKind → ℕ → ℕ → Both (MutBor A) (MutBor A) → Both (MutBor Worklist) (MutBor Worklist) → Option (Unit {0}) → Type 0
TurnFollows g m k target j p c w result =
    TurnsFrom m (Following m k target j p) (2 + (region_cost m (stage_before g c w) + cost_at m (stage_before g c w))) (stage_before g c w) (stage_behind g c w) result w.exit.now.fault

-- In a context that met nothing, this comes of the root node at a position.
abbrev pub RootRuns : Checker → ℕ → ℕ → RangeState → Outcome → Type 0
RootRuns m root at s o = EnterRuns m [] s.depth s.end One root 1 (pos at) s.start empty o

-- The whole is gone through.
abbrev pub RootPasses : Checker → ℕ → ℕ → RangeState → Positions → Type 0
RootPasses m root at s met = IsFresh s met → (last : ℕ) × (known : Seen) × RootRuns m root at s (done last known)

-- The whole comes to this refusal; in any other context it says a fault, too.
abbrev pub RootStops : Checker → ℕ → ℕ → RangeState → Positions → Error → Type 0
RootStops m root at s met e = (e ≡ OutOfMemory) ⊎ (HasLevels s.depth → (f : Fault) × IsFor f e × (IsFresh s met → RootRuns m root at s (refused f)))

-- So it is of the context that a call begins with.
abbrev pub PassesRoot : {A : Type 0} → Context.Ghosts A → Checker → ℕ → ℕ → Both (MutBor A) (MutBor A) → Type 0
PassesRoot k m root at c = RootPasses m root at (k.state c.entry.now) (k.positions c.entry.now)

abbrev pub StopsInRoot : {A : Type 0} → Context.Ghosts A → Checker → ℕ → ℕ → Both (MutBor A) (MutBor A) → Error → Type 0
StopsInRoot k m root at c e = RootStops m root at (k.state c.entry.now) (k.positions c.entry.now) e
