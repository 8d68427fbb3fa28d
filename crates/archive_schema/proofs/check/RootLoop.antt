-- The loop of a check, from the root to the end of its list.
use Rattle.std.proofs.Common.{◌≡◌, inl, inr, ℕ, ℤ, pos, List, [], ◌∷◌}
use Rattle.std.specs.FinMap.{empty}
use Rattle.archive_check.specs.declared.format.error.Error.{Error}
use Rattle.archive_schema.specs.declared.plan.PointeeKind.TheVariants.{One}
use Rattle.archive_schema.specs.declared.check.Checker.{Checker}
use Rattle.archive_schema.specs.declared.check.worklist.Work.{Work}
use Rattle.archive_check.specs.context.Ranges.{RangeState}
use Rattle.archive_check.specs.context.PositionStates.{Positions}
use Rattle.archive_check.specs.Tour.{Seen}
use Rattle.archive_check.specs.context.FreshContexts.{HasLevels, KeepsLevels, IsFresh}
use Rattle.archive_check.specs.Outcomes.{Outcome, done, refused}
use Rattle.archive_schema.specs.check.Runs.{list_end}
use Rattle.archive_schema.specs.check.LoopInvariant.{Stage, stage, Agreeing, IsOrderly, Listing, Entering, TurnLeads, TurnRefuses, IsStopped}
use Rattle.archive_schema.specs.check.Turns.{RootRuns, RootPasses, RootStops}
use Rattle.archive_schema.proofs.check.ContextAgrees.{agrees_fresh}
use Rattle.archive_schema.proofs.check.OrderlyContexts.{orderly_start, orderly_levels}
use Rattle.archive_schema.proofs.check.TurnRules.{then_end}

module _ (m : Checker) (s : RangeState) (met : Positions) (root at : ℕ) where
  -- the context is in order with what is left, where it had levels; and what comes of the list comes of the root, where the check was fresh
  abbrev pub LeadsBack : Stage → Type 0
  LeadsBack x = (HasLevels s.depth → IsOrderly x) × (IsFresh s met → (seen : Seen) × Agreeing x seen × ((o : Outcome) → Listing m x seen o → RootRuns m root at s o))

  module _ (z : ℤ) (same : z ≡ pos at) where
    pub root_leads : (first : List Work) (x : Stage) → first ≡ [] → TurnLeads m (Entering m One root 1 z) (stage s met first) x → LeadsBack x
    root_leads first x none leads = (
      λ h. leads.keeps (rw none (orderly_start h)),
      λ fresh.
          let go = leads.leads empty (rw none (agrees_fresh s met fresh)) in
          (go.0, go.1, λ o r. then_end m (rw (none, same) at (go.2 o r))),
    )

    pub root_refuses : (e : Error) → IsStopped m One root 1 z s e → RootStops m root at s met e
    root_refuses e (inl memory) = inl memory
    root_refuses e (inr stopped) = inr (λ h. let f = stopped h in (f.0, f.1, λ fresh. rw same at (f.2 [] empty)))

  module _ (s' : RangeState) (met' : Positions) (work : List Work) (h : LeadsBack (stage s' met' work)) where
    pub root_ends : work ≡ [] → RootPasses m root at s met
    root_ends none fresh = let a = h.1 fresh in (s'.start, a.0, a.2 (done s'.start a.0) (rw none list_end))

    pub root_levels : KeepsLevels s s'
    root_levels some = orderly_levels (h.0 some)

    module _ (entry : Work) (rest : List Work) (work_is : work ≡ entry ∷ rest) where
      pub turn_leads : (y : Stage) → TurnLeads m (Listing m) (stage s' met' (entry ∷ rest)) y → LeadsBack y
      turn_leads y leads = (
        λ some. leads.keeps (rw work_is at (h.0 some)),
        λ fresh.
            let a = h.1 fresh in
            let go = leads.leads a.0 (rw work_is at a.1) in
            (go.0, go.1, λ o r. a.2 o (rw work_is (go.2 o r))),
      )

      pub turn_refuses : (e : Error) → TurnRefuses (Listing m) (stage s' met' (entry ∷ rest)) e → RootStops m root at s met e
      turn_refuses e (inl memory) = inl memory
      turn_refuses e (inr stopped) = inr (λ some.
          let f = stopped (rw work_is at (h.0 some)) in
          (f.0, f.1, λ fresh. let a = h.1 fresh in a.2 (refused f.0) (rw work_is (f.2 a.0 (rw work_is at a.1)))))
