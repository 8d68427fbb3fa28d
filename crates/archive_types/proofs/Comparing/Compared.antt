-- Two slices are compared element by element.
use Rattle.std.proofs.Common.{◌≡◌, ℕ, zero, suc, ◌+◌, ◌-◌, ◌*◌, ◌<◌, ◌≤◌, true, false, List, length, drop, get_or, arith, refl, sym, ap, ◌∙◌, [], ◌∷◌}
use Rattle.std.proofs.Math.ListN.{drop_of_length-le, length-drop}
use Rattle.std.proofs.lemmas.List.{drop_more}
use Rattle.std.specs.declared.cmp.Ordering.{Ordering}
use Rattle.std.specs.declared.cmp.Ordering.TheVariants.{Less, Equal, Greater}
use Rattle.std.specs.Ordering.{ordering_then, nat_cmp, is_ne}
use Rattle.std.specs.Hash.{fed_then}
use Rattle.std.specs.Hash as fed
use Rattle.std.specs.List.{flat_map, fold}
use mathlib.Core.Bool.{true≢false}
use Rattle.std.specs.Cmp.{nat_cmp_is}
use Rattle.std.specs.Cmp.Lexicographic.{slice_cmp}
use Rattle.archive_types.specs.Compared.{Standing, standing, elements_from}

pub count : (b : List ℕ) (p z i n : ℕ) → length (elements_from b p z i n) ≡ n
count b p z i zero = refl
count b p z i (suc n) = ap suc (count b p z (i + 1) n)

module _ (R : Standing → Standing → Ordering) (a : List ℕ) (p z : ℕ) (b : List ℕ) (q : ℕ) where
  -- the order of what is left from the element i on, of n and m elements in all
  abbrev pub rest : ℕ → ℕ → ℕ → Ordering
  rest i n m = slice_cmp R (elements_from a p z i (n - i)) (elements_from b q z i (m - i))

  pub rest_start : (n m : ℕ) → slice_cmp R (elements_from a p z 0 n) (elements_from b q z 0 m) ≡ rest 0 n m
  rest_start n m =
      let all : n - 0 ≡ n = omega arith in
      let each : m - 0 ≡ m = omega arith in
      rw (all, each) refl

  pub rest_first : (i n m : ℕ) → i < n → i < m → rest i n m ≡ ordering_then (R (standing a (p + i * z) 0) (standing b (q + i * z) 0)) (rest (i + 1) n m)
  rest_first i n m h k =
      let some : n - i ≡ suc (n - (i + 1)) = omega arith in
      let more : m - i ≡ suc (m - (i + 1)) = omega arith in
      rw (some, more) refl

  pub rest_over : (i n m : ℕ) → i < n → m ≤ i → rest i n m ≡ Greater
  rest_over i n m h k =
      let some : n - i ≡ suc (n - (i + 1)) = omega arith in
      let none : m - i ≡ 0 = omega arith in
      rw (some, none) refl

  done : (i n m u v : ℕ) → n - i ≡ u → m - i ≡ v → n ≤ i → i ≤ n → i ≤ m → slice_cmp R (elements_from a p z i u) (elements_from b q z i v) ≡ nat_cmp n m
  done i n m zero zero e f h k l = nat_cmp_is n m Equal (omega arith)
  done i n m zero (suc v) e f h k l = nat_cmp_is n m Less (omega arith)
  done i n m (suc u) v e f h k l = absurd (omega arith)

  pub rest_done : (i n m : ℕ) → n ≤ i → i ≤ n → i ≤ m → rest i n m ≡ nat_cmp n m
  rest_done i n m = done i n m (n - i) (m - i) refl refl

pub decided_here : (r s : Ordering) → is_ne r ≡ true → ordering_then r s ≡ r
decided_here Less s e = refl
decided_here Equal s e = absurd (true≢false (sym e))
decided_here Greater s e = refl

pub decided_later : (r s : Ordering) → is_ne r ≡ false → ordering_then r s ≡ s
decided_later Less s e = absurd (true≢false e)
decided_later Equal s e = refl
decided_later Greater s e = absurd (true≢false e)

-- what a slice's elements feed a hasher, one after another
module _ {S : Type 0} (write : S → List ℕ → S) (feed : Standing → List (List ℕ)) (b : List ℕ) (p z : ℕ) where
  abbrev pub fed_from : S → ℕ → ℕ → S
  fed_from s i n = fold write s (flat_map feed (elements_from b p z i n))

  pub fed_start : (s : S) (n : ℕ) → fed_from s 0 n ≡ fed_from s 0 (n - 0)
  fed_start s n = let all : n - 0 ≡ n = omega arith in rw all refl

  pub fed_step : (s t : S) (i n : ℕ) → i < n → t ≡ fold write s (feed (standing b (p + i * z) 0)) → fed_from s i (n - i) ≡ fed_from t (i + 1) (n - (i + 1))
  fed_step s t i n h e =
      let some : n - i ≡ suc (n - (i + 1)) = omega arith in
      rw some (sym (fed_then write s t (fed_from t (i + 1) (n - (i + 1))) (feed (standing b (p + i * z) 0)) (flat_map feed (elements_from b p z (i + 1) (n - (i + 1)))) e refl))

  pub fed_end : (s : S) (i n : ℕ) → n ≤ i → fed_from s i (n - i) ≡ s
  fed_end s i n h = let none : n - i ≡ 0 = omega arith in rw none refl

  pub fed_whole : (s t u : S) (n : ℕ) → t ≡ write s (fed.le_bytes 8 n) → u ≡ fed_from t 0 n → u ≡ fold write s (fed.slice feed (elements_from b p z 0 n))
  fed_whole s t u n e f = f ∙ ap (λ r. fed_from r 0 n) (e ∙ ap (λ k. write s (fed.le_bytes 8 k)) (sym (count b p z 0 n)))

-- the elements i differ, or they don't
module _ (R : Standing → Standing → Ordering) (a : List ℕ) (p z : ℕ) (b : List ℕ) (q i n m : ℕ) (r : Ordering) (h : i < n) (k : i < m)
    (e : r ≡ R (standing a (p + i * z) 0) (standing b (q + i * z) 0)) where
  both_first : rest R a p z b q i n m ≡ ordering_then r (rest R a p z b q (i + 1) n m)
  both_first = rest_first R a p z b q i n m h k ∙ ap (λ o. ordering_then o (rest R a p z b q (i + 1) n m)) (sym e)

  pub rest_here : is_ne r ≡ true → rest R a p z b q i n m ≡ r
  rest_here d = both_first ∙ decided_here r _ d

  pub rest_later : is_ne r ≡ false → rest R a p z b q i n m ≡ rest R a p z b q (i + 1) n m
  rest_later d = both_first ∙ decided_later r _ d

-- a slice and one of the machine: the order of what is left from the element i on, of n elements and all of us
module _ {U : Type 0} (R : Standing → U → Ordering) (a : List ℕ) (p z : ℕ) (us : List U) where
  abbrev pub left_order : ℕ → ℕ → Ordering
  left_order i n = slice_cmp R (elements_from a p z i (n - i)) (drop i us)

  pub left_start : (n : ℕ) → slice_cmp R (elements_from a p z 0 n) us ≡ left_order 0 n
  left_start n = let all : n - 0 ≡ n = omega arith in rw all refl

  pub left_over : (i n : ℕ) → i < n → length us ≤ i → left_order i n ≡ Greater
  left_over i n h k =
      let some : n - i ≡ suc (n - (i + 1)) = omega arith in
      let none : drop i us ≡ [] = drop_of_length-le us k in
      rw (some, none) refl

  done_left : (i n u : ℕ) (vs : List U) → n - i ≡ u → length vs ≡ length us - i → n ≤ i → i ≤ n → i ≤ length us → slice_cmp R (elements_from a p z i u) vs ≡ nat_cmp n (length us)
  done_left i n zero [] e f h k l = nat_cmp_is n (length us) Equal (omega arith)
  done_left i n zero (v ∷ vs) e f h k l = nat_cmp_is n (length us) Less (omega arith)
  done_left i n (suc u) vs e f h k l = absurd (omega arith)

  pub left_done : (i n : ℕ) → n ≤ i → i ≤ n → i ≤ length us → left_order i n ≡ nat_cmp n (length us)
  left_done i n = done_left i n (n - i) (drop i us) refl (length-drop i us)

  module _ (i n : ℕ) (r : Ordering) (d : U) (h : i < n) (k : i < length us) (e : r ≡ R (standing a (p + i * z) 0) (get_or us i d)) where
    left_first : left_order i n ≡ ordering_then r (left_order (i + 1) n)
    left_first =
        let some : n - i ≡ suc (n - (i + 1)) = omega arith in
        let more : drop i us ≡ get_or us i d ∷ drop (i + 1) us = drop_more us i d k in
        rw (some, more) (ap (λ o. ordering_then o (left_order (i + 1) n)) (sym e))

    pub left_here : is_ne r ≡ true → left_order i n ≡ r
    left_here t = left_first ∙ decided_here r _ t

    pub left_later : is_ne r ≡ false → left_order i n ≡ left_order (i + 1) n
    left_later t = left_first ∙ decided_later r _ t
