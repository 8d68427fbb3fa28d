-- What a run over a plan, from its root, says of the archive.
use Rattle.std.proofs.Common.{◌≡◌, ◌⊎◌, inl, inr, ℕ, pos, refl, sym, ap, ◌<◌, ◌^◌, arith, List, [], length, Option, None, Ok, Err}
use Rattle.std.specs.FinMap.{empty}
use Rattle.archive_check.specs.declared.format.error.Error.{Error}
use Rattle.archive_check.specs.declared.format.error.Error.TheVariants.{OutOfMemory}
use Rattle.archive_schema.specs.declared.plan.PointeeKind.TheVariants.{One}
use Rattle.archive_schema.specs.declared.check.Checker.{Checker}
use Rattle.archive_check.specs.Shape.{Shape}
use Rattle.archive_check.specs.Reads.{SchemaTable}
use Rattle.archive_check.specs.Tour.{root_pointer, Seen}
use Rattle.archive_check.specs.Trail.{Fault, RootTrips}
use Rattle.archive_check.specs.Walk.{Enter, enter, RootWalk}
use Rattle.archive_check.specs.context.Ranges.{RangeState}
use Rattle.archive_check.specs.context.PositionStates.{Positions}
use Rattle.archive_check.specs.context.FreshContexts.{HasLevels, IsFresh, IsWhole}
use Rattle.archive_check.specs.Words.Faults.{IsFor, IsOfCheck}
use Rattle.archive_check.specs.Outcomes.{Outcome, done, refused}
use Rattle.archive_schema.specs.check.Runs.{EnterRuns}
use Rattle.archive_schema.specs.plan.SoundPlans.{IsSound}
use Rattle.archive_schema.specs.check.PlanChecks.{PlanOf, PlanAccepts, PlanRefuses, PlanIsExact}
use Rattle.archive_check.proofs.Tours.ReadingUnique.{pos_one}
use Rattle.archive_check.proofs.Checks.AcceptedWalks.{walked, walks}
use Rattle.archive_check.proofs.Checks.FaultyNotWalked.{root_no_walk}
use Rattle.archive_check.proofs.Checks.RangeLevels.{fresh_levels}
use Rattle.archive_schema.proofs.plan.Represented.{enter_says}

module _ (s : SchemaTable) (bytes : List ℕ) (limit : Option ℕ) (root : ℕ) (X : Shape) where
  -- the root is entered where it is said to lie
  entered_root : {t : ℕ} {last : Seen} {later : ℕ} → Enter s bytes [] limit (length bytes) (root_pointer root X) t 0 empty later last → RootWalk s bytes limit root X
  entered_root (enter {t = t} target above below aligned allowed w) =
      let same : t ≡ root = sym (pos_one target) in
      record { later = _; last = _; walk = enter {t = root} refl (rw same at above) (rw same at below) (rw same at aligned) allowed (rw same at w) }

module _ (m : Checker) (j root : ℕ) (limit : Option ℕ) where
  exact_ok : PlanAccepts m j limit root → PlanIsExact m j limit root (Ok tt)
  exact_ok h = inr (λ s X plan. (λ t. h s X plan, λ a. refl))

  exact_err : (error : Error) → length m.bytes.now < 2 ^ 64 → PlanRefuses m j limit root error → PlanIsExact m j limit root (Err error)
  exact_err error few (fault, is, trips) = inr (λ s X plan. (λ t. cc, λ a. absurd (root_no_walk s m.bytes.now few (trips s X plan) (walks s m.bytes.now limit root X a))))

module _ (m : Checker) (j root : ℕ) (r : RangeState) (met : Positions) (sound : IsSound m) where
  -- what the root's run comes to
  abbrev pub RootRuns : Outcome → Type 0
  RootRuns o = EnterRuns m [] r.depth r.end One j 1 (pos root) r.start empty o

  abbrev pub RunDone : Type 0
  RunDone = IsFresh r met → (last : ℕ) × (known : Seen) × RootRuns (done last known)

  abbrev pub RunRefused : Error → Type 0
  RunRefused error = (error ≡ OutOfMemory) ⊎ (HasLevels r.depth → (f : Fault) × IsFor f error × (IsFresh r met → RootRuns (refused f)))

  pub run_accepts : RunDone → IsWhole r met m.bytes.now → PlanAccepts m j r.depth root
  run_accepts runs whole s X plan =
      let v = runs whole.fresh in
      let here = enter_says s plan.shapes m plan.represents sound None refl 0 (rw (whole.start, whole.end) at v.2) plan.points refl (omega arith) in
      walked s m.bytes.now r.depth root X (entered_root s m.bytes.now r.depth root X here.1)

  refused_trips : (f : Fault) → RootRuns (refused f) → IsWhole r met m.bytes.now → (s : SchemaTable) (X : Shape) → PlanOf m j s X → RootTrips s m.bytes.now r.depth root X f
  refused_trips f run whole s X plan = enter_says s plan.shapes m plan.represents sound None refl 0 (rw (whole.start, whole.end) at run) plan.points refl (omega arith)

  fresh_refuses : (error : Error) → (HasLevels r.depth → (f : Fault) × IsFor f error × (IsFresh r met → RootRuns (refused f))) → IsWhole r met m.bytes.now → PlanRefuses m j r.depth root error
  fresh_refuses error runs whole =
      let v = runs (fresh_levels r met whole.fresh) in
      (v.0, v.1, refused_trips v.0 (v.2 whole.fresh) whole)

  pub run_refuses : (error : Error) → RunRefused error → (error ≡ OutOfMemory) ⊎ (IsWhole r met m.bytes.now → PlanRefuses m j r.depth root error)
  run_refuses error (inl h) = inl h
  run_refuses error (inr runs) = inr (fresh_refuses error runs)

  -- in whatever context
  pub run_of_check : (error : Error) → RunRefused error → HasLevels r.depth → IsOfCheck error
  run_of_check error (inl h) some = inl h
  run_of_check error (inr runs) some = let v = runs some in inr (v.0, v.1)

  pub run_exact_ok : RunDone → IsWhole r met m.bytes.now → PlanIsExact m j r.depth root (Ok tt)
  run_exact_ok runs whole = exact_ok m j root r.depth (run_accepts runs whole)

  pub run_exact_err : (error : Error) → length m.bytes.now < 2 ^ 64 → RunRefused error → IsWhole r met m.bytes.now → PlanIsExact m j r.depth root (Err error)
  run_exact_err error few (inl e) whole = inl (ap Err e)
  run_exact_err error few (inr runs) whole = exact_err m j root r.depth error few (fresh_refuses error runs whole)
