-- Elements of lists: what a list contains, and what stands at an index.
use Rattle.std.proofs.Common.{◌≡◌, ◌⊎◌, inl, inr, ⊎_elim, ℕ, zero, suc, refl, sym, ap, ap₂, ◌∙◌, subst, ◌+◌, ◌-◌, ◌<◌, ◌≤◌, arith, List, [], ◌∷◌, ◌++◌, length, slice_index_or, take, drop, drop-cons, length-take, length-drop, get_or-take, get_or-drop, Contains}
use Rattle.std.proofs.lemmas.List.{get_or_default}
use Rattle.archive_check.specs.Words.Elements.{IsAt, span}

-- the first or a later one
pub contains_cases : {X : Type 0} (y : X) (xs : List X) (x : X) → Contains (y ∷ xs) x → (y ≡ x) ⊎ Contains xs x
contains_cases y xs x (zero, l, e) = inl e
contains_cases y xs x (suc k, l, e) = inr (k, omega arith, e)

pub contains_first : {X : Type 0} (xs : List X) (x : X) → Contains (x ∷ xs) x
contains_first xs x = (0, omega arith, refl)

pub contains_later : {X : Type 0} (y : X) (xs : List X) (x : X) → Contains xs x → Contains (y ∷ xs) x
contains_later y xs x (k, l, e) = (suc k, omega arith, e)

-- there is one element at i
pub same_at : {A : Type 0} {xs : List A} {i : ℕ} {x y : A} → IsAt xs i x → IsAt xs i y → x ≡ y
same_at {xs = xs} {i = i} {x = x} {y = y} a b = a.is ∙ get_or_default xs i x y a.below ∙ sym b.is

-- and there is one, where the list is long enough
pub some_at : {A : Type 0} (xs : List A) (i : ℕ) → i < length xs → (x : A) × IsAt xs i x
some_at [] i h = absurd (omega arith)
some_at (x ∷ xs) zero h = (x, record { below = omega arith; is = refl })
some_at (x ∷ xs) (suc i) h = let a = some_at xs i (omega arith) in (a.0, record { below = omega (arith, a.1.below); is = a.1.is })

-- what is read at i is there, whatever the default
pub at_default : {A : Type 0} (xs : List A) (i : ℕ) (d : A) → i < length xs → IsAt xs i (slice_index_or xs i d)
at_default xs i d h = record { below = h; is = get_or_default xs i d (slice_index_or xs i d) h }

-- the last one
pub at_end : {A : Type 0} (xs : List A) (y : A) → IsAt (xs ++ y ∷ []) (length xs) y
at_end [] y = record { below = omega arith; is = refl }
at_end (x ∷ xs) y = let a = at_end xs y in record { below = omega (arith, a.below); is = a.is }

pub at_last : {A : Type 0} (xs : List A) (y x : A) (i : ℕ) → IsAt (xs ++ y ∷ []) i x → (i < length xs) ⊎ ((i ≡ length xs) × (x ≡ y))
at_last [] y x zero a = inr (refl, a.is)
at_last [] y x (suc i) a = absurd (omega (arith, a.below))
at_last (z ∷ xs) y x zero a = inl (omega arith)
at_last (z ∷ xs) y x (suc i) a = ⊎_elim (λ h. inl (omega (arith, h))) (λ h. inr (omega (arith, h.0), h.1)) (at_last xs y x i (record { below = omega (arith, a.below); is = a.is }))

-- the second of two lists
pub at_behind : {A : Type 0} (xs : List A) {ys : List A} (k : ℕ) {x : A} → IsAt ys k x → IsAt (xs ++ ys) (length xs + k) x
at_behind [] {ys} k {x} a = let e : k ≡ 0 + k = omega arith in subst (λ i. IsAt ys i x) e a
at_behind (z ∷ xs) {ys} k {x} a = let b = at_behind xs k a in let e : suc (length xs + k) ≡ suc (length xs) + k = omega arith in
    subst (λ i. IsAt (z ∷ (xs ++ ys)) i x) e (record { below = omega (arith, b.below); is = b.is })

pub at_second : {A : Type 0} (xs ys : List A) (k : ℕ) (x : A) → length xs ≤ k → IsAt (xs ++ ys) k x → IsAt ys (k - length xs) x
at_second [] ys k x h a = let e : k ≡ k - 0 = omega arith in subst (λ i. IsAt ys i x) e a
at_second (z ∷ xs) ys zero x h a = absurd (omega (arith, h))
at_second (z ∷ xs) ys (suc k) x h a = let e : k - length xs ≡ suc k - suc (length xs) = omega arith in subst (λ i. IsAt ys i x) e (at_second xs ys k x (omega (arith, h)) (record { below = omega (arith, a.below); is = a.is }))

-- an element of a part of a list
pub at_dropped : {A : Type 0} (a : ℕ) (xs : List A) (k : ℕ) (x : A) → IsAt (drop a xs) k x → IsAt xs (a + k) x
at_dropped zero xs k x h = let e : k ≡ 0 + k = omega arith in subst (λ i. IsAt xs i x) e h
at_dropped (suc a) [] k x h = absurd (omega (arith, h.below))
at_dropped (suc a) (z ∷ xs) k x h = let b = at_dropped a xs k x h in let e : suc (a + k) ≡ suc a + k = omega arith in
    subst (λ i. IsAt (z ∷ xs) i x) e (record { below = omega (arith, b.below); is = b.is })

pub at_taken : {A : Type 0} (n : ℕ) (xs : List A) (k : ℕ) (x : A) → IsAt (take n xs) k x → (k < n) × IsAt xs k x
at_taken zero xs k x h = absurd (omega (arith, h.below))
at_taken (suc n) [] k x h = absurd (omega (arith, h.below))
at_taken (suc n) (z ∷ xs) zero x h = (omega arith, record { below = omega arith; is = h.is })
at_taken (suc n) (z ∷ xs) (suc k) x h = let b = at_taken n xs k x (record { below = omega (arith, h.below); is = h.is }) in
    (omega (arith, b.0), record { below = omega (arith, b.1.below); is = b.1.is })

-- an element of a span
pub at_span : {A : Type 0} (xs : List A) (a b n : ℕ) (x : A) → a + n < b → IsAt xs (a + n) x → IsAt (span xs a b) n x
at_span xs a b n x lt at = record {
  below = simp (length-take, length-drop) (omega (arith, at.below));
  is = at.is ∙ sym (get_or-drop a xs n x) ∙ sym (get_or-take (b - a) (drop a xs) n x (omega arith));
}

-- a span that is not empty: its first element, and the rest
pub span_next : {A : Type 0} (xs : List A) (a b : ℕ) (x : A) → a < b → b ≤ length xs → IsAt xs a x → span xs a b ≡ x ∷ span xs (a + 1) b
span_next xs a b x lt le at =
    let few : b - a ≡ suc (b - (a + 1)) = omega arith in
    let next : suc a ≡ a + 1 = omega arith in
    ap (λ n. take n (drop a xs)) few
    ∙ ap (take (suc (b - (a + 1)))) (drop-cons xs a x (omega (arith, at.below)))
    ∙ ap₂ (λ y (q : ℕ). y ∷ take (b - (a + 1)) (drop q xs)) (sym at.is) next
