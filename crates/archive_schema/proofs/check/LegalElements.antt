-- Elements that are passed over.
use Rattle.std.proofs.Common.{◌≡◌, ◌≢◌, ℕ, zero, suc, refl, sym, ap, ◌∙◌, ◌+◌, ◌-◌, ◌*◌, ◌<◌, ◌≤◌, arith, List, ◌∷◌, length, Bool, true, false, nat_eq, Option, Some, slice_index_or, unwrap_or}
use Rattle.std.proofs.lemmas.Bool.Decides.{nat_tests}
use Rattle.std.proofs.Math.Nat.{mul-le-mul_right}
use Rattle.archive_check.specs.declared.format.expr.Kind.{Kind as KindExpr}
use Rattle.archive_schema.specs.declared.plan.NodeKind.{NodeKind}
use Rattle.archive_schema.specs.declared.plan.NodeKind.TheVariants.{Free, Leaf}
use Rattle.archive_check.specs.Expressions.{kind_of}
use Rattle.archive_check.specs.Layout.{kind_size}
use Rattle.archive_check.specs.Reads.{bytes_at, IsLegal}
use Rattle.archive_schema.specs.declared.plan.Node.{Node}
use Rattle.archive_schema.specs.declared.check.Checker.{Checker}
use Rattle.archive_schema.specs.declared.check.worklist.Work.{Work}
use Rattle.archive_schema.specs.declared.check.worklist.Work.TheVariants.{Elements}
use Rattle.archive_check.specs.context.Ranges.{RangeState}
use Rattle.archive_check.specs.context.PositionStates.{Positions}
use Rattle.archive_check.specs.Tour.{Seen}
use Rattle.archive_schema.specs.check.Runs.{IsNode, Takes, NodeRuns, ListRuns, elements_end, elements_next, list_elements, list_elements_stop}
use Rattle.archive_check.specs.Outcomes.{Outcome, done}
use Rattle.archive_check.specs.Words.Elements.{IsAt}
use Rattle.archive_schema.specs.check.LoopInvariant.{LiesLegal, lies_free, lies_leaf, PartFits, ElementsFit, LeadsNowhere, Agreeing, pending_in, regions_in, Ready, stage, Listing, TurnLeads, level, cost}
use Rattle.archive_schema.proofs.check.TurnsEnd.{power_falls, level_same}
use Rattle.archive_check.proofs.Elements.{same_at}
use Rattle.archive_schema.proofs.plan.PlanSizes.{take_same}

-- the size that the node has
takes_size : (m : Checker) (j z : ℕ) (x : Node) {y : ℕ} → IsAt m.nodes.now j x → Takes m j y → ((y : ℕ) → x.size ≡ Some y → z ≡ y) → Takes m j z
takes_size m j z x {y = y} at t size =
    let is : x.size ≡ Some y = ap (λ q. q.size) (same_at at t.at) ∙ t.size_is in
    record { node = x; at = at; size_is = is ∙ ap Some (sym (size y is)) }

-- what holds of each number before i and of i holds of each before the next one
pub holds_more : (Q : ℕ → Type 0) (i : ℕ) → ((k : ℕ) → k < i → Q k) → Q i → (k : ℕ) → k < i + 1 → Q k
holds_more Q i before here k to = at (nat_eq k i) refl
  where
    at : (t : Bool) → nat_eq k i ≡ t → Q k
    at true e = let same : k ≡ i = grind (arith, nat_tests) in rw same here
    at false e = let other : k ≢ i = grind (arith, nat_tests) in before k (omega arith)

-- the size that was read of the node
pub node_takes : {m : Checker} {j n p z : ℕ} {x : Node} → ElementsFit m j n p → x ≡ slice_index_or m.nodes.now j x → z ≡ unwrap_or (slice_index_or m.nodes.now j x).size 0 → Takes m j z
node_takes {m = m} {j = j} {z = z} {x = x} f is e =
    takes_size m j z x (record { below = f.takes.at.below; is = is }) f.takes (λ y q. e ∙ ap (λ v. unwrap_or v.size 0) (sym is) ∙ ap (λ v. unwrap_or v 0) q)

module _ (m : Checker) (j z : ℕ) (takes : Takes m j z) where
  -- k elements and one more take no more than n
  pub room : (n p k : ℕ) → ElementsFit m j n p → k < n → p + k * z + z ≤ length m.bytes.now
  room n p k f lt =
      let size = take_same f.takes takes in
      let all : (k + 1) * z ≤ n * z = mul-le-mul_right z (omega arith) in
      let more : (k + 1) * z ≡ k * z + z = omega arith in
      let whole : n * f.size ≡ n * z = ap (λ q. n * q) size in
      omega (arith, f.fits)

  pub elements_fit : (n p : ℕ) → ElementsFit m j n p → p + n * z ≤ length m.bytes.now
  elements_fit n p f = let whole : n * f.size ≡ n * z = ap (λ q. n * q) (take_same f.takes takes) in omega (arith, f.fits)

  pub element_fits : (n p k : ℕ) → ElementsFit m j n p → k < n → PartFits m j (p + k * z)
  element_fits n p k f lt = record { size = z; takes = takes; fits = room n p k f lt }

  module _ (old : List Work) where
    pass_one : {pd : List ℕ} {d : Option ℕ} {e n p s : ℕ} {seen : Seen} {o : Outcome} → NodeRuns m pd d e j p s seen (done s seen) → 0 < n → ListRuns m pd d e (Elements j (n - 1) (p + z) ∷ old) s seen o → ListRuns m pd d e (Elements j n p ∷ old) s seen o
    pass_one h lt (list_elements vs r) = list_elements (elements_next lt takes h vs) r
    pass_one h lt (list_elements_stop vs) = list_elements_stop (elements_next lt takes h vs)

    pass_runs : (c n p n' q : ℕ) {pd : List ℕ} {d : Option ℕ} {e s : ℕ} {seen : Seen} {o : Outcome} → c ≤ n → n' ≡ n - c → q ≡ p + c * z → ((k : ℕ) → k < c → NodeRuns m pd d e j (p + k * z) s seen (done s seen)) → ListRuns m pd d e (Elements j n' q ∷ old) s seen o → ListRuns m pd d e (Elements j n p ∷ old) s seen o
    pass_runs zero n p n' q le few at h r = let same : n' ≡ n = omega arith in let there : q ≡ p = omega arith in rw (same, there) at r
    pass_runs (suc c) n p n' q {pd = pd} {d = d} {e = e} {s = s} {seen = seen} le few at h r =
        let here : p + 0 * z ≡ p = omega arith in
        let first : NodeRuns m pd d e j p s seen (done s seen) = rw here at (h 0 (omega arith)) in
        pass_one first (omega arith) (pass_runs c (n - 1) (p + z) n' q (omega arith) (omega arith) (omega arith)
        (λ k lt. let there : p + (k + 1) * z ≡ p + z + k * z = omega arith in rw there at (h (k + 1) (omega arith))) r)

    module _ (s : RangeState) (n p c : ℕ) (le : c ≤ n) where
      module _ (met : Positions) (stays : (k : ℕ) → k < c → LeadsNowhere m met j (p + k * z)) where
        stay : {seen : Seen} → Agreeing (stage s met old) seen → (k : ℕ) → k < c → NodeRuns m (pending_in old) s.depth s.end j (p + k * z) s.start seen (done s.start seen)
        stay {seen = seen} agreed k lt = stays k lt s.depth (pending_in old) (regions_in old) s.end s.start seen agreed

        -- all elements are passed over
        pub pass_all : c ≡ n → TurnLeads m (Listing m) (stage s met (Elements j n p ∷ old)) (stage s met old)
        pass_all all = record { keeps = λ h. h; leads = λ seen agreed. (seen, agreed, λ o r. pass_runs c n p 0 (p + c * z) le (omega arith) refl (stay agreed) (list_elements (elements_end refl) r)) }

        -- those before the next one are passed over
        pub pass_leads : TurnLeads m (Listing m) (stage s met (Elements j n p ∷ old)) (stage s met (Elements j (n - c) (p + c * z) ∷ old))
        pass_leads = record { keeps = λ h. h; leads = λ seen agreed. (seen, agreed, λ o r. pass_runs c n p (n - c) (p + c * z) le refl refl (stay agreed) r) }

      pub pass_ready : Ready m s (Elements j n p ∷ old) → Ready m s (Elements j (n - c) (p + c * z) ∷ old)
      pass_ready r =
          let f = r.fits.0 in
          let size = take_same f.takes takes in
          let whole : n * f.size ≡ n * z = ap (λ q. n * q) size in
          let split : n * z ≡ c * z + (n - c) * z = (ap (λ q. q * z) (let sum : n ≡ c + (n - c) = omega arith in sum) ∙ omega arith) in
          record { below = r.below; fits = (record { size = z; few = omega (arith, f.few); takes = takes; fits = omega (arith, f.fits) }, r.fits.1) }

      pub pass_costs : (e : ℕ) → cost m e (Elements j (n - c) (p + c * z) ∷ old) ≤ cost m e (Elements j n p ∷ old)
      pass_costs e = at (nat_eq c 0) refl
        where
          at : (t : Bool) → nat_eq c 0 ≡ t → cost m e (Elements j (n - c) (p + c * z) ∷ old) ≤ cost m e (Elements j n p ∷ old)
          at true q = let none : c ≡ 0 = grind (arith, nat_tests) in let same : n - c ≡ n = omega arith in rw same (omega arith)
          at false q =
              let some : c ≢ 0 = grind (arith, nat_tests) in
              let nodes = length m.nodes.now in
              omega (arith, power_falls (level nodes e (j + 1) (n - c)) (level nodes e (j + 1) n) (level_same nodes e (j + 1) (j + 1) n (n - c) (omega arith) (omega arith)))

-- what lies legal

same_kind : (m : Checker) (i : ℕ) (a b : NodeKind) → IsNode m i a → IsNode m i b → a ≡ b
same_kind m i a b x y = sym x.kind_is ∙ ap (λ q. q.kind) (same_at x.at y.at) ∙ y.kind_is

pub legal_leaf : (m : Checker) (i p : ℕ) (kind : KindExpr) → IsNode m i (Leaf kind) → LiesLegal m i p → IsLegal (kind_of kind) (bytes_at m.bytes.now p (kind_size (kind_of kind)))
legal_leaf m i p kind h (lies_free f) = absurd (let clash = same_kind m i (Leaf kind) Free h f in cc)
legal_leaf m i p kind h (lies_leaf {kind = other} f l) =
    let both = same_kind m i (Leaf kind) (Leaf other) h f in
    let same : other ≡ kind = cc in rw same at l

pub legal_none : (m : Checker) (i p : ℕ) (x : Node) → IsAt m.nodes.now i x → (x.kind ≡ Free → ⊥) → ((kind : KindExpr) → x.kind ≡ Leaf kind → ⊥) → LiesLegal m i p → ⊥
legal_none m i p x at free leaf (lies_free f) = free (ap (λ q. q.kind) (same_at at f.at) ∙ f.kind_is)
legal_none m i p x at free leaf (lies_leaf {kind = kind} f l) = leaf kind (ap (λ q. q.kind) (same_at at f.at) ∙ f.kind_is)
