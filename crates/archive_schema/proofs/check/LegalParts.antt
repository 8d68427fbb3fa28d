-- Parts that are passed over.
use Rattle.std.proofs.Common.{◌≡◌, ℕ, zero, suc, refl, ◌+◌, ◌-◌, ◌<◌, ◌≤◌, max, arith, List, ◌∷◌, length, Bool, true, false, nat_le, nat_eq, ◌≢◌, slice_index_or, Option}
use Rattle.std.proofs.lemmas.Bool.Decides.{nat_tests}
use Rattle.archive_schema.specs.declared.plan.Part.{Part}
use Rattle.archive_schema.specs.declared.check.Checker.{Checker}
use Rattle.archive_schema.specs.declared.check.worklist.Work.{Work}
use Rattle.archive_schema.specs.declared.check.worklist.Work.TheVariants.{Parts}
use Rattle.archive_check.specs.context.Ranges.{RangeState}
use Rattle.archive_check.specs.context.PositionStates.{Positions}
use Rattle.archive_check.specs.Tour.{Seen}
use Rattle.archive_check.specs.Outcomes.{Outcome}
use Rattle.archive_check.specs.Words.Elements.{IsAt, span}
use Rattle.archive_schema.specs.check.Runs.{ListRuns, parts_end, parts_next, list_parts, list_parts_stop}
use Rattle.archive_schema.specs.check.LoopInvariant.{PartFits, PartsFit, PartIsLegalHere, Ready, stage, pending_in, Listing, TurnLeads, level, rank, cost}
use Rattle.archive_schema.proofs.check.TurnsEnd.{power_falls, level_same}
use Rattle.archive_check.proofs.Elements.{at_default, span_next}

module _ (m : Checker) (p : ℕ) where
  rest_fits : (a b : ℕ) → PartsFit m a b p → a < b → PartsFit m (a + 1) b p
  rest_fits a b f lt =
      let at = at_default m.parts.now a (record { offset = 0; node = 0 }) (omega (arith, f.last)) in
      let here = rw (span_next m.parts.now a b _ lt f.last at) at f.here in
      record { last = f.last; few = f.few; here = here.1 }

  -- what is left after n parts lies in the bytes
  pub fits_from : (n a b c : ℕ) → PartsFit m a b p → c ≡ a + n → c ≤ b → PartsFit m c b p
  fits_from zero a b c f e le = let same : c ≡ a = omega arith in rw same f
  fits_from (suc n) a b c f e le = fits_from n (a + 1) b c (rest_fits a b f (omega arith)) (omega arith) le

  -- the part k lies in the bytes
  pub part_fits : (a b k : ℕ) (x : Part) → PartsFit m a b p → a ≤ k → k < b → IsAt m.parts.now k x → PartFits m x.node (p + x.offset)
  part_fits a b k x f le lt at =
      let g = fits_from (k - a) a b k f (omega arith) (omega arith) in
      let here = rw (span_next m.parts.now k b x lt g.last at) at g.here in
      record { size = here.0.0; takes = here.0.1; fits = here.0.2 }

  module _ (old : List Work) where
    skip_one : {pd : List ℕ} {d : Option ℕ} {e a b s : ℕ} {seen : Seen} {o : Outcome} → PartIsLegalHere m p a → a < b → ListRuns m pd d e (Parts (a + 1) b p ∷ old) s seen o → ListRuns m pd d e (Parts a b p ∷ old) s seen o
    skip_one {pd = pd} {d = d} {e = e} {s = s} {seen = seen} h lt (list_parts vs r) = list_parts (parts_next lt h.at (h.stays pd d e s seen) vs) r
    skip_one {pd = pd} {d = d} {e = e} {s = s} {seen = seen} h lt (list_parts_stop vs) = list_parts_stop (parts_next lt h.at (h.stays pd d e s seen) vs)

    skip_runs : (n a b c : ℕ) {pd : List ℕ} {d : Option ℕ} {e s : ℕ} {seen : Seen} {o : Outcome} → c ≡ a + n → c ≤ b → ((k : ℕ) → a ≤ k → k < c → PartIsLegalHere m p k) → ListRuns m pd d e (Parts c b p ∷ old) s seen o → ListRuns m pd d e (Parts a b p ∷ old) s seen o
    skip_runs zero a b c e le h r = let same : c ≡ a = omega arith in rw same at r
    skip_runs (suc n) a b c e le h r = skip_one (h a (omega arith) (omega arith)) (omega arith) (skip_runs n (a + 1) b c (omega arith) le (λ k from to. h k (omega arith) to) r)

    pub skip_costs : (n a b c e : ℕ) → c ≡ a + n → c ≤ b → b ≤ length m.parts.now → cost m e (Parts c b p ∷ old) ≤ cost m e (Parts a b p ∷ old)
    skip_costs zero a b c e is le last = let same : c ≡ a = omega arith in rw same (omega arith)
    skip_costs (suc n) a b c e is le last = omega (arith, skip_costs n (a + 1) b c e (omega arith) le last, one_costs)
      where
        one_costs : cost m e (Parts (a + 1) b p ∷ old) ≤ cost m e (Parts a b p ∷ old)
        one_costs =
            let nodes = length m.nodes.now in
            let x = slice_index_or m.parts.now a (record { offset = 0; node = 0 }) in
            let at = at_default m.parts.now a (record { offset = 0; node = 0 }) (omega arith) in
            let rest = rank (span m.parts.now (a + 1) b) in
            let lt : level nodes e rest (b - (a + 1)) < level nodes e (max (x.node + 1) rest) (b - a) =
            level_same nodes e (max (x.node + 1) rest) rest (b - a) (b - (a + 1)) (omega arith) (omega arith) in
            let falls = power_falls (level nodes e rest (b - (a + 1))) (level nodes e (max (x.node + 1) rest) (b - a)) lt in
            rw (span_next m.parts.now a b x (omega arith) last at) (omega arith)

    module _ (s : RangeState) (met : Positions) (a b c : ℕ) (stays : (k : ℕ) → a ≤ k → k < c → PartIsLegalHere m p k) where
      -- all parts are passed over
      pub skip_all : c ≤ b → b ≤ c → TurnLeads m (Listing m) (stage s met (Parts a b p ∷ old)) (stage s met old)
      skip_all le ge = record { keeps = λ h. h; leads = λ seen agreed. (seen, agreed, λ o r. over seen (nat_le a c) refl r) }
        where
          over : (seen : Seen) {o : Outcome} (t : Bool) → nat_le a c ≡ t → ListRuns m (pending_in old) s.depth s.end old s.start seen o → ListRuns m (pending_in old) s.depth s.end (Parts a b p ∷ old) s.start seen o
          over seen true e r = let under : a ≤ c = grind (arith, nat_tests) in skip_runs (c - a) a b c (omega arith) le stays (list_parts (parts_end ge) r)
          over seen false e r = let beyond : c < a = grind (arith, nat_tests) in list_parts (parts_end (omega arith)) r

      -- the parts before c are passed over
      pub skip_leads : a ≤ c → c ≤ b → TurnLeads m (Listing m) (stage s met (Parts a b p ∷ old)) (stage s met (Parts c b p ∷ old))
      skip_leads from le = record { keeps = λ h. h; leads = λ seen agreed. (seen, agreed, λ o r. skip_runs (c - a) a b c (omega arith) le stays r) }

      pub skip_ready : Ready m s (Parts a b p ∷ old) → a ≤ c → c ≤ b → Ready m s (Parts c b p ∷ old)
      skip_ready r from le = record { below = r.below; fits = (fits_from (c - a) a b c r.fits.0 (omega arith) le, r.fits.1) }

pub stays_more : (m : Checker) (p a i : ℕ) → ((k : ℕ) → a ≤ k → k < i → PartIsLegalHere m p k) → PartIsLegalHere m p i → (k : ℕ) → a ≤ k → k < i + 1 → PartIsLegalHere m p k
stays_more m p a i before here k from to = at (nat_eq k i) refl
  where
    at : (t : Bool) → nat_eq k i ≡ t → PartIsLegalHere m p k
    at true e = let same : k ≡ i = grind (arith, nat_tests) in rw same here
    at false e = let other : k ≢ i = grind (arith, nat_tests) in before k from (omega arith)
