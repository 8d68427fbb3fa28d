-- What comes of a record that ends in a run, where the run is opened at once, and of some such records.
use Rattle.std.proofs.Common.{◌≡◌, ◌∙◌, inr, refl, sym, ℕ, ◌+◌, ◌-◌, ◌<◌, arith, List, ◌∷◌, IsTrue, Option, Some, None}
use Rattle.archive_check.specs.declared.format.error.Error.{Error}
use Rattle.archive_check.specs.context.Ranges.{RangeState}
use Rattle.archive_check.specs.context.PositionStates.{Positions}
use Rattle.archive_schema.specs.declared.check.Checker.{Checker}
use Rattle.archive_schema.specs.declared.check.hollow.Hollow.{Hollow}
use Rattle.archive_schema.specs.declared.check.worklist.Work.{Work}
use Rattle.archive_schema.specs.declared.check.worklist.Work.TheVariants.{Part as PartWork, Parts, Elements}
use Rattle.archive_schema.specs.check.Hollow.{IsHollow}
use Rattle.archive_schema.specs.check.Lists.{IsMore}
use Rattle.archive_schema.specs.check.LoopInvariant.{Stage, stage, pending_in, Ready, Listing, TurnLeads, cost}
use Rattle.archive_check.specs.Tour.{Seen}
use Rattle.archive_check.specs.Outcomes.{Outcome}
use Rattle.archive_schema.specs.check.Runs.{Takes, PartsRun, ListRuns, list_parts, list_parts_stop}
use Rattle.archive_schema.specs.check.Through.{Passed, parts_rule}
use Rattle.archive_schema.specs.check.Turns.{TurnsFrom}
use Rattle.archive_schema.specs.plan.SoundPlans.{IsSound}
use Rattle.archive_schema.proofs.check.ContextAgrees.{levels_of}
use Rattle.archive_schema.proofs.check.HollowRecords.{behind_front, front_fit, last_fits, part_free}
use Rattle.archive_schema.proofs.check.LegalParts.{fits_from, skip_costs}
use Rattle.archive_schema.proofs.check.OrderlyContexts.{orderly_levels}
use Rattle.archive_schema.proofs.check.TurnExits.{turn_then, opens_record, opens_part}
use Rattle.archive_schema.proofs.check.TurnInvariants.{record_fits, parts_ready, element_ready, element_leads, element_ends}

none_met : Positions
none_met position = None

module _ {m : Checker} {s : RangeState} {old : List Work} {i p : ℕ} {h : Hollow} (sound : IsSound m) (ready : Ready m s (PartWork i p ∷ old)) (is : IsHollow m i h) where
  -- the run is next
  pub run_ready : Ready m s (PartWork h.node (p + h.offset) ∷ old)
  run_ready = record { below = ready.below; fits = (last_fits sound is ready.fits.0, ready.fits.1) }

  -- and what comes of it comes of the record
  pub opens_hollow : {met : Positions} {y : Stage} {r : Option (Unit {0})} {fault : Error} → IsTrue h.is_free
      → TurnsFrom m (Listing m) (cost m s.end (PartWork h.node (p + h.offset) ∷ old)) (stage s met (PartWork h.node (p + h.offset) ∷ old)) y r fault
      → TurnsFrom m (Listing m) (cost m s.end (PartWork i p ∷ old)) (stage s met (PartWork i p ∷ old)) y r fault
  opens_hollow free turn =
      let parts = parts_ready ready (record_fits sound is.record_is ready.fits.0) in
      let front = front_fit sound is ready.fits.0 in
      opens_record sound ready is.record_is
      (opens_part parts (λ k from to. part_free m p h.first h.end k front (is.free free) from to) is.order (omega arith) is.part (inr (omega arith, refl)) turn)

parts_lead : {m : Checker} {pd : List ℕ} {d : Option ℕ} {e a b c p s s' : ℕ} {seen : Seen} {o : Outcome} {old : List Work}
    → ((o : Outcome) → PartsRun m pd d e b c p s' seen o → PartsRun m pd d e a c p s seen o) → ListRuns m pd d e (Parts b c p ∷ old) s' seen o → ListRuns m pd d e (Parts a c p ∷ old) s seen o
parts_lead to (list_parts vs r) = list_parts (to _ vs) r
parts_lead to (list_parts_stop vs) = list_parts_stop (to _ vs)

-- so it does where the parts in front were gone through
module _ {m : Checker} {s : RangeState} {met : Positions} {old : List Work} {i p : ℕ} {h : Hollow} {y : Stage} (sound : IsSound m) (ready : Ready m s (PartWork i p ∷ old)) (is : IsHollow m i h) (front : Passed (parts_rule m h.first h.end p) (stage s met old) y) where
  pub behind_ready : Ready m y.range (PartWork h.node (p + h.offset) ∷ y.work)
  behind_ready = let r = run_ready sound ready is in record { below = rw front.through.end r.below; fits = rw (front.through.end, front.list) r.fits }

  last_ready : Ready m y.range (Parts h.end (h.end + 1) p ∷ y.work)
  last_ready =
      let parts = parts_ready ready (record_fits sound is.record_is ready.fits.0) in
      let fits = fits_from m p (h.end - h.first) h.first (h.end + 1) h.end parts.fits.0 (omega (arith, is.order)) (omega arith) in
      record { below = rw front.through.end parts.below; fits = rw (front.through.end, front.list) (fits, parts.fits.1) }

  last_leads : TurnLeads m (Listing m) (stage s met (Parts h.first (h.end + 1) p ∷ old)) (stage y.range y.met (Parts h.end (h.end + 1) p ∷ y.work))
  last_leads =
      let towards = behind_front {c = h.end + 1} front is.order (omega arith) in
      record {
        keeps = λ k. let back = towards.depth (orderly_levels k) in rw (back, towards.positions, towards.list) k;
        leads = λ seen a.
            let some = levels_of a in
            let back = towards.depth some in (
              seen,
              rw (back, towards.positions, towards.list) a,
              λ o q. parts_lead (λ o v. towards.leads some (pending_in old) seen o v) (rw (back, towards.end, towards.list) at q),
            );
      }

  pub opens_behind : {z : Stage} {r : Option (Unit {0})} {fault : Error} → TurnsFrom m (Listing m) (cost m y.range.end (PartWork h.node (p + h.offset) ∷ y.work)) (stage y.range y.met (PartWork h.node (p + h.offset) ∷ y.work)) z r fault
      → TurnsFrom m (Listing m) (cost m s.end (PartWork i p ∷ old)) (stage s met (PartWork i p ∷ old)) z r fault
  opens_behind turn =
      let fits = record_fits sound is.record_is ready.fits.0 in
      let less = skip_costs m p old (h.end - h.first) h.first (h.end + 1) h.end s.end (omega (arith, is.order)) (omega arith) fits.last in
      let last = opens_part last_ready (λ k from to. absurd (omega (arith, from, to))) (omega arith) (omega arith) is.part (inr (omega arith, refl)) turn in
      opens_record sound ready is.record_is (turn_then last (rw (front.through.end, front.list) less) last_leads)

module _ {m : Checker} {s : RangeState} {old rest : List Work} {j n p z : ℕ} (ready : Ready m s (Elements j n p ∷ old)) (takes : Takes m j z) (lt : 0 < n) (more : IsMore (Elements j (n - 1) (p + z)) (n - 1 ≡ 0) rest old) where
  -- the first of some elements is next
  pub first_ready : Ready m s (PartWork j p ∷ rest)
  first_ready = element_ready m s none_met old rest j n p z takes.node ready lt takes.at (λ v q. let same : Some z ≡ Some v = sym takes.size_is ∙ q in cc) more

  -- and what comes of it comes of them all
  pub opens_first : {met : Positions} {y : Stage} {r : Option (Unit {0})} {fault : Error} → TurnsFrom m (Listing m) (cost m s.end (PartWork j p ∷ rest)) (stage s met (PartWork j p ∷ rest)) y r fault
      → TurnsFrom m (Listing m) (cost m s.end (Elements j n p ∷ old)) (stage s met (Elements j n p ∷ old)) y r fault
  opens_first {met = met} turn =
      let falls = element_ends m s met old rest j n p (p + z) ready.fits.0.few lt more in
      turn_then turn (omega (arith, falls)) (element_leads m s met old rest j n p z takes.node ready lt takes.at (λ v q. let same : Some z ≡ Some v = sym takes.size_is ∙ q in cc) more)
