-- Pairs of which a map is made: where their keys ascend, its entries are alike in all that is the same of keys that are equal.
use Rattle.std.proofs.Common.{◌≡◌, true, false, List, [], ◌∷◌, Option, Some, None, BTreeMap, refl, sym, ap, subst, ◌∙◌, ⊎_elim}
use Rattle.std.proofs.lemmas.Bool.{and_parts, cases_Bool}
use Rattle.std.proofs.lemmas.Map.{lookup-none}
use Rattle.std.proofs.lemmas.Map.Entries.{lookup_head, lookup_tail, none_past_head, none_below_head}
use Rattle.std.proofs.lemmas.Map.Keys.{IsDistinct-from_sorted, sorted_tail}
use Rattle.std.proofs.lemmas.Map.Lookups.{map_keys}
use Rattle.std.proofs.lemmas.Map.Made.{update_all_none}
use Rattle.std.specs.BTreeMap.{IsFromIterResult, is_at}
use Rattle.std.specs.Map.{keys_of, lookup}
use Rattle.std.specs.List.{AllByRecursion}
use Rattle.std.specs.List.Sorted.{IsStrictlySortedBy}
use Rattle.std.specs.Option.{is_some, unwrap_or}
use Rattle.std.specs.Cmp.{IsTotalOrder, eq_by_cmp_equiv, tied_itself}
use Rattle.std.specs.Ordering.{is_eq, is_lt, eq_by_cmp, ordering_reverse}
use Rattle.std.specs.declared.cmp.Ordering.{Ordering}
use Rattle.std.specs.declared.cmp.Ordering.TheVariants.{Less, Equal, Greater}
use Rattle.archive_types.specs.Maps.{ascending, ascending_from}

is_less : (r : Ordering) → is_lt r ≡ true → r ≡ Less
is_less Less h = refl
is_less Equal h = cc
is_less Greater h = cc

none_found : {X : Type 0} (x : X) → Some x ≡ None → ⊥
none_found x e = cc

module _ {A B : Type 0} (cmp : A → A → Ordering) (total : IsTotalOrder cmp) where
  -- the keys of all of them are above k
  abbrev AllAbove : A → List (A × B) → Type 0
  AllAbove k xs = AllByRecursion (λ y. cmp k y ≡ Less) (keys_of xs)

  -- so they are above what is below k
  above_lower : (k l : A) → cmp k l ≡ Less → (xs : List (A × B)) → AllAbove l xs → AllAbove k xs
  above_lower k l less [] h = tt
  above_lower k l less (x ∷ xs) h = (total.trans k l x.0 less h.0, above_lower k l less xs h.1)

  above_first : (k : A) (xs : List (A × B)) → ascending_from cmp k xs ≡ true → AllAbove k xs
  above_first k [] a = tt
  above_first k (x ∷ xs) a =
      let parts = and_parts (is_lt (cmp k x.0)) (ascending_from cmp x.0 xs) a in
      let less = is_less (cmp k x.0) parts.0 in
      (less, above_lower k x.0 less xs (above_first x.0 xs parts.1))

  abbrev AreSorted : List (A × B) → Type 0
  AreSorted xs = IsStrictlySortedBy cmp (keys_of xs)

  sorted_from : (k : A) (xs : List (A × B)) → ascending_from cmp k xs ≡ true → AreSorted xs
  unfolding IsStrictlySortedBy
  sorted_from k [] a = tt
  sorted_from k (x ∷ xs) a =
      let parts = and_parts (is_lt (cmp k x.0)) (ascending_from cmp x.0 xs) a in
      (above_first x.0 xs parts.1, sorted_from x.0 xs parts.1)

  sorted_pairs : (xs : List (A × B)) → ascending cmp xs ≡ true → AreSorted xs
  unfolding IsStrictlySortedBy
  sorted_pairs [] a = tt
  sorted_pairs (x ∷ xs) a = (above_first x.0 xs a, sorted_from x.0 xs a)

  -- the value at a key
  abbrev found : List (A × B) → A → Option B
  found es q = lookup (is_at (cmp q)) es

  found_first : (x : A × B) (xs : List (A × B)) (q : A) → cmp q x.0 ≡ Equal → found (x ∷ xs) q ≡ Some x.1
  found_first x xs q e = lookup_head (is_at (cmp q)) x xs (ap is_eq e)

  found_behind : (x : A × B) (xs : List (A × B)) (q : A) → AreSorted (x ∷ xs) → cmp q x.0 ≡ Less → found (x ∷ xs) q ≡ None
  found_behind x xs q s less = lookup-none (is_at (cmp q)) (x ∷ xs) (none_below_head total q x xs s less)

  -- Two lists in which the same is found begin with keys that are equal, and the same is found in what is left.
  module _ (x y : A × B) (xs ys : List (A × B)) (s : AreSorted (x ∷ xs)) (t : AreSorted (y ∷ ys)) (same : (q : A) → found (x ∷ xs) q ≡ found (y ∷ ys) q) where
    equal_by : (r : Ordering) → cmp x.0 y.0 ≡ r → cmp x.0 y.0 ≡ Equal
    equal_by Less e = absurd (none_found x.1 (sym (found_first x xs x.0 (tied_itself total x.0)) ∙ same x.0 ∙ found_behind y ys x.0 t e))
    equal_by Equal e = e
    equal_by Greater e =
        let behind : cmp y.0 x.0 ≡ Less = total.antisymm y.0 x.0 ∙ ap ordering_reverse e in
        absurd (none_found y.1 (sym (found_first y ys y.0 (tied_itself total y.0)) ∙ sym (same y.0) ∙ found_behind x xs y.0 s behind))

    first_equal : cmp x.0 y.0 ≡ Equal
    first_equal = equal_by (cmp x.0 y.0) refl

    first_value : x.1 ≡ y.1
    first_value = ap (λ u. unwrap_or u x.1) (sym (found_first x xs x.0 (tied_itself total x.0)) ∙ same x.0 ∙ found_first y ys x.0 first_equal)

    gone : (z : A × B) (zs : List (A × B)) (q : A) → AreSorted (z ∷ zs) → eq_by_cmp cmp q z.0 ≡ true → found zs q ≡ None
    gone z zs q u e = lookup-none (is_at (cmp q)) zs (none_past_head (eq_by_cmp_equiv total) q z zs (IsDistinct-from_sorted cmp _ u) e)

    same_left : (q : A) → found xs q ≡ found ys q
    same_left q =
        let ties = eq_by_cmp_equiv total in
        let e : eq_by_cmp cmp q y.0 ≡ eq_by_cmp cmp q x.0 = ties.symm q y.0 ∙ sym (ties.congr x.0 y.0 q (ap is_eq first_equal)) ∙ ties.symm x.0 q in
        ⊎_elim
        (λ b. gone x xs q s b ∙ sym (gone y ys q t (e ∙ b)))
        (λ b. sym (lookup_tail (is_at (cmp q)) x xs b) ∙ same q ∙ lookup_tail (is_at (cmp q)) y ys (e ∙ b))
        (cases_Bool (eq_by_cmp cmp q x.0))

  module _ {C : Type 0} (f : A → C) (exact : (x y : A) → cmp x y ≡ Equal → f x ≡ f y) where
    found_alike : (es xs : List (A × B)) → AreSorted es → AreSorted xs → ((q : A) → found es q ≡ found xs q) → map_keys f es ≡ map_keys f xs
    found_alike [] [] s t same = refl
    found_alike [] (y ∷ ys) s t same = absurd (none_found y.1 (sym (same y.0 ∙ found_first y ys y.0 (tied_itself total y.0))))
    found_alike (x ∷ xs) [] s t same = absurd (none_found x.1 (sym (found_first x xs x.0 (tied_itself total x.0)) ∙ same x.0))
    found_alike (x ∷ xs) (y ∷ ys) s t same =
        let left = found_alike xs ys (sorted_tail cmp x.0 (keys_of xs) s) (sorted_tail cmp y.0 (keys_of ys) t) (same_left x y xs ys s t same) in
        λ i. (exact x.0 y.0 (first_equal x y xs ys s t same) i, first_value x y xs ys s t same i) ∷ left i

    pub collected_alike : (xs : List (A × B)) (m : BTreeMap A B) → IsFromIterResult cmp xs m → ascending cmp xs ≡ true → map_keys f m.entries ≡ map_keys f xs
    collected_alike xs m made a =
        let sorted = sorted_pairs xs a in
        found_alike m.entries xs made.1 sorted
        (λ q. made.0 q ∙ update_all_none (eq_by_cmp_equiv total) (eq_by_cmp cmp) (λ x y. refl) xs q (IsDistinct-from_sorted cmp (keys_of xs) sorted))
