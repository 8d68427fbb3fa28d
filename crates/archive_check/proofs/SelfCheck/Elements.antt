-- The elements of a run, one after another.
use Rattle.std.proofs.Common.{◌≡◌, ◌≢◌, ℕ, zero, suc, sym, ◌∙◌, ◌+◌, ◌-◌, ◌*◌, ◌<◌, ◌≤◌, arith, List}
use Rattle.archive_check.specs.Shape.{Shape}
use Rattle.archive_check.specs.Layout.{size_of, Layout}
use Rattle.archive_check.specs.declared.format.error.Error.{Error}
use Rattle.archive_check.specs.context.Ranges.{RangeState}
use Rattle.archive_check.specs.Definitions.{Definitions, HasLayout}
use Rattle.archive_check.specs.SelfCheck.Ways.{Goes, Halts, AreGood, shape_way, run_way}
use Rattle.archive_check.proofs.Checks.PlainRuns.{empty_stays, empty_run}
use Rattle.archive_check.proofs.SelfCheck.Ways.{Toward, toward_same, toward_then, toward_halts, toward_end}
use Rattle.archive_check.proofs.SelfCheck.Layouts.{its_size}
use Rattle.archive_check.proofs.SelfCheck.Steps.{element_way, element_stop, none_way}

module _ (D : Definitions) (X : Shape) (L : Layout) (laid : HasLayout D X L) (b : List ℕ) (at n z : ℕ) (s s1 : RangeState) (k : ℕ) (lt : k < n)
    (toward : Toward D (run_way b at n X) (run_way b (at + k * z) (n - k) X) s s1) where
  pub toward_element : (s2 : RangeState) → z ≡ L.size → Goes D (shape_way b (at + k * z) X) s1 s2 → Toward D (run_way b at n X) (run_way b (at + (k + 1) * z) (n - (k + 1)) X) s s2
  toward_element s2 same =
      toward_then D D (run_way b at n X) (run_way b (at + k * z) (n - k) X) (shape_way b (at + k * z) X) s s1 (λ t kn. kn) toward (run_way b (at + (k + 1) * z) (n - (k + 1)) X) s2
      (λ t kn pending seen o w q. let size : size_of t.layouts X ≡ z = its_size D X L laid t kn ∙ sym same in
      let count : n - k ≡ suc (n - (k + 1)) = omega arith in
      let there : at + (k + 1) * z ≡ at + k * z + size_of t.layouts X = rw size (omega arith) in
      element_way b t pending s.depth s.end s1.start seen (at + k * z) (at + (k + 1) * z) (n - (k + 1)) (n - k) s2.start X o count there w q)

  pub element_halts : (e : Error) → Halts D (shape_way b (at + k * z) X) s1 e → Halts D (run_way b at n X) s e
  element_halts e = toward_halts D D (run_way b at n X) (run_way b (at + k * z) (n - k) X) (shape_way b (at + k * z) X) s s1 (λ t kn. kn) toward e
      (λ t kn pending seen f w. let count : n - k ≡ suc (n - (k + 1)) = omega arith in element_stop b t pending s.depth s.end s1.start seen (at + k * z) (n - (k + 1)) (n - k) X f count w)

pub elements_gone : (D : Definitions) (X : Shape) (b : List ℕ) (at n z : ℕ) (s s1 : RangeState) (k : ℕ) → n ≤ k → Toward D (run_way b at n X) (run_way b (at + k * z) (n - k) X) s s1 → Goes D (run_way b at n X) s s1
elements_gone D X b at n z s s1 k ge toward = toward_end D (run_way b at n X) (run_way b (at + k * z) (n - k) X) s s1 toward (λ t kn pending seen. let none : n - k ≡ 0 = omega arith in none_way b t pending s.depth s.end s1.start seen (at + k * z) (n - k) X none)

pub elements_begin : (D : Definitions) (X : Shape) (b : List ℕ) (at n z : ℕ) (s : RangeState) → Toward D (run_way b at n X) (run_way b (at + 0 * z) (n - 0) X) s s
elements_begin D X b at n z s = let here : at + 0 * z ≡ at = omega arith in let all : n - 0 ≡ n = omega arith in rw (here, all) (toward_same D (run_way b at n X) s)

-- the first ones are known to be good
pub toward_good : (D : Definitions) (X : Shape) (L : Layout) (laid : HasLayout D X L) (b : List ℕ) (at n z : ℕ) (s : RangeState) (k : ℕ) → k ≤ n → (zero < n → z ≡ L.size) → AreGood D b at z X k → Toward D (run_way b at n X) (run_way b (at + k * z) (n - k) X) s s
toward_good D X L laid b at n z s zero le same good = elements_begin D X b at n z s
toward_good D X L laid b at n z s (suc k) le same good =
    let next : suc k ≡ k + 1 = omega arith in
    rw next (toward_element D X L laid b at n z s s k (omega arith) (toward_good D X L laid b at n z s k (omega arith) same (λ i t lt. good i t (omega arith))) s (same (omega arith)) (good k s (omega arith)))

-- elements that take no bytes: the first stands for all
module _ (D : Definitions) (X : Shape) (L : Layout) (laid : HasLayout D X L) (none : L.size ≡ 0) (b : List ℕ) (at n : ℕ) (s : RangeState) where
  pub empty_goes : (s' : RangeState) → Goes D (shape_way b at X) s s' → Goes D (run_way b at n X) s s'
  empty_goes s' g = record {
    end = g.end;
    depth = g.depth;
    runs = λ some t k pending seen.
        let w = g.runs some t k pending seen in
        let z : size_of t.layouts X ≡ 0 = its_size D X L laid t k ∙ none in
        let still : s'.start ≡ s.start = (empty_stays t k.laid_out b w z).0 in
        rw still (empty_run t k.laid_out b n z w);
  }

  pub empty_halts : (e : Error) → n ≢ 0 → Halts D (shape_way b at X) s e → Halts D (run_way b at n X) s e
  empty_halts e some halts levels =
      let f = halts levels in
      let count : n ≡ suc (n - 1) = omega (arith, some) in
      (f.0, f.1, λ t k pending seen. element_stop b t pending s.depth s.end s.start seen at (n - 1) n X f.0 count (f.2 t k pending seen))
