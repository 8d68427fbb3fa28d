-- A single entry ascends.
use Rattle.std.proofs.Common.{◌≡◌, ℕ, ◌+◌, ◌≤◌, List, [], ◌∷◌, length, drop, true, arith, refl}
use Rattle.std.specs.declared.cmp.Ordering.{Ordering}
use Rattle.std.proofs.lemmas.List.{length-drop}
use Rattle.archive_tuple.specs.Entries.{entries_ascend}

module _ {K V : Type 0} (R : K → K → Ordering) where
  one_ascends : (es : List (K × V)) → length es ≤ 1 → entries_ascend R es ≡ true
  one_ascends [] few = refl
  one_ascends (x ∷ []) few = refl
  one_ascends (x ∷ y ∷ es) few = absurd (omega (arith, few))

  pub last_ascends : (all : List (K × V)) (i : ℕ) → length all ≤ i + 1 → entries_ascend R (drop i all) ≡ true
  last_ascends all i few = one_ascends (drop i all) (omega (arith, length-drop i all, few))
