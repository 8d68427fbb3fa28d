-- Halving among keys that ascend: where a key can be that equals a native one, and how often there is something left to halve.
use Rattle.std.proofs.Common.{◌≡◌, ℕ, zero, suc, ◌+◌, ◌/◌, ◌<◌, ◌≤◌, ◌^◌, IsTrue, arith, refl, sym, ap, ◌∙◌, ⊎_elim}
use native.Mathlib.Numerals.{unary_clauses}
use Rattle.std.proofs.lemmas.Bool.{cases_lt}
use Rattle.std.specs.Cmp.{IsTotalOrder, tied_itself}
use Rattle.std.specs.Ordering.{is_eq, ordering_reverse}
use Rattle.std.specs.declared.cmp.Ordering.{Ordering}
use Rattle.std.specs.declared.cmp.Ordering.TheVariants.{Less, Equal, Greater}

-- of n keys that ascend by R, and their order N to native ones
module _ {T U : Type 0} (R : T → T → Ordering) (N : T → U → Ordering) (agrees : (x y : T) (u : U) → IsTrue (is_eq (N x u)) → R y x ≡ N y u) (total : IsTotalOrder R)
    (key : ℕ → T) (n : ℕ) (ascend : (i j : ℕ) → i < j → j < n → R (key i) (key j) ≡ Less) (u : U) where
  -- a key is to one that equals u as it is to u
  as_native : (i m : ℕ) → N (key i) u ≡ Equal → R (key m) (key i) ≡ N (key m) u
  as_native i m e = agrees (key i) (key m) u (ap is_eq e)

  turned : (i j : ℕ) → i < j → j < n → R (key j) (key i) ≡ Greater
  turned i j less below = total.antisymm (key j) (key i) ∙ ap ordering_reverse (ascend i j less below)

  itself : (i m : ℕ) → i ≡ m → R (key m) (key i) ≡ Equal
  itself i m e = rw e (tied_itself total (key m))

  never_below : (i m : ℕ) → i ≤ m → m < n → R (key m) (key i) ≡ Less → ⊥
  never_below i m h below less = ⊎_elim
      (λ before. let no : Greater ≡ Less = sym (turned i m before below) ∙ less in cc)
      (λ not. let no : Equal ≡ Less = sym (itself i m (omega arith)) ∙ less in cc)
      (cases_lt i m)

  never_above : (i m : ℕ) → m ≤ i → i < n → R (key m) (key i) ≡ Greater → ⊥
  never_above i m h below greater = ⊎_elim
      (λ behind. let no : Less ≡ Greater = sym (ascend m i behind below) ∙ greater in cc)
      (λ not. let no : Equal ≡ Greater = sym (itself i m (omega arith)) ∙ greater in cc)
      (cases_lt m i)

  -- it lies behind a key that is less, and before one that is greater
  pub lies_behind : (i m : ℕ) → m < n → N (key i) u ≡ Equal → N (key m) u ≡ Less → m < i
  lies_behind i m below e less = ⊎_elim (λ behind. behind) (λ not. absurd (never_below i m not below (as_native i m e ∙ less))) (cases_lt m i)

  pub lies_before : (i m : ℕ) → i < n → N (key i) u ≡ Equal → N (key m) u ≡ Greater → i < m
  lies_before i m below e greater = ⊎_elim (λ before. before) (λ not. absurd (never_above i m not below (as_native i m e ∙ greater))) (cases_lt i m)

  -- each key that equals u stands from the index `low` on, and before `high`
  abbrev pub Between : ℕ → ℕ → Type 0
  Between low high = (i : ℕ) → (i < n) × (N (key i) u ≡ Equal) → (low ≤ i) × (i < high)

  pub later_half : (low high m : ℕ) → m < n → N (key m) u ≡ Less → Between low high → Between (m + 1) high
  later_half low high m below less b i h = let behind = lies_behind i m below h.1 less in (omega (arith, behind), (b i h).1)

  pub earlier_half : (low high m : ℕ) → N (key m) u ≡ Greater → Between low high → Between low m
  earlier_half low high m greater b i h = ((b i h).0, lies_before i m h.0 h.1 greater)

-- Where n is below a power of two, so is what is left of it, of a power that is less by the number of times that it was halved.
abbrev pub AreLeft : ℕ → ℕ → ℕ → Type 0
AreLeft n count left = (digits : ℕ) → n < 2 ^ digits → (rest : ℕ) × (digits ≡ count + rest) × (left < 2 ^ rest)

halved : (rest left less : ℕ) → 0 < left → less ≤ left / 2 → left < 2 ^ rest
    → (r : ℕ) × (rest ≡ suc r) × (less < 2 ^ r)
halved zero left less some few h = absurd (omega (arith, some, simp unary_clauses at h))
halved (suc r) left less some few h = (r, refl, omega (arith, some, few, simp unary_clauses at h))

pub left_half : (n count left less : ℕ) → 0 < left → less ≤ left / 2 → AreLeft n count left
    → AreLeft n (count + 1) less
left_half n count left less some few h digits below =
    let (rest, e, l) = h digits below in
    let (r, is, m) = halved rest left less some few l in
    (r, omega (arith, e, is), m)

-- so it was halved less often than n has binary digits, if there is something left
pub left_more : (n count left : ℕ) → 0 < left → AreLeft n count left → (digits : ℕ) → n < 2 ^ digits
    → count + 1 ≤ digits
left_more n count left some h digits below =
    let (rest, e, l) = h digits below in
    let (r, is, m) = halved rest left 0 some (omega arith) l in
    omega (arith, e, is)
