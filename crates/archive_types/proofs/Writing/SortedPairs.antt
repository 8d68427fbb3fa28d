-- Pairs of a key and a value whose keys ascend: as a test of neighbours finds, and those of a `BTreeMap`. And what stands for pairs means what they do.
use Rattle.std.proofs.Common.{◌≡◌, List, [], ◌∷◌, ◌++◌, map, Bool, true, ◌&&◌, refl, sym, ap, ◌∙◌}
use Rattle.std.specs.Ordering.{is_lt}
use Rattle.std.specs.declared.cmp.Ordering.{Ordering}
use Rattle.std.specs.declared.cmp.Ordering.TheVariants.{Less}
use Rattle.std.specs.List.Sorted.{IsStrictlySortedBy}
use Rattle.std.specs.Map.{keys_of}
use Rattle.std.proofs.lemmas.Map.Keys.{sorted_head, sorted_tail}
use Rattle.archive_check.specs.Value.{Value, value}
use Rattle.archive_check.specs.Denotes.{Naming}
use Rattle.archive_tuple.specs.Entries.{entries_ascend}
use Rattle.archive_types.specs.MapPairs.{pair_meaning}
use Rattle.archive_types.specs.Runs.{each_keys, each_meaning}
use Rattle.archive_types.specs.ValueOrder.{value_cmp, keys_ascend}

module _ {A B : Type 0} (R : A → A → Ordering) (m : A → Value) (n : B → Value) (law : (x y : A) → R x y ≡ value_cmp (m x) (m y)) where
  -- whether their keys ascend
  abbrev pub pairs_ascend : List (A × B) → Bool
  pairs_ascend es = keys_ascend (each_meaning (pair_meaning m n) es)

  -- by the first two, and then by the others
  two_first : (x y : A × B) (es : List (A × B)) → pairs_ascend (x ∷ y ∷ es) ≡ (is_lt (R x.0 y.0) && pairs_ascend (y ∷ es))
  two_first x y es = ap (λ r. is_lt r && pairs_ascend (y ∷ es)) (sym (law x.0 y.0))

  -- as a test of their keys answers
  pub ascends_as_meant : (es : List (A × B)) → entries_ascend R es ≡ pairs_ascend es
  ascends_as_meant [] = refl
  ascends_as_meant (x ∷ []) = refl
  ascends_as_meant (x ∷ y ∷ es) = ap (λ b. is_lt (R x.0 y.0) && b) (ascends_as_meant (y ∷ es)) ∙ sym (two_first x y es)

  -- those of a `BTreeMap` do
  pub map_ascends : (es : List (A × B)) → IsStrictlySortedBy R (keys_of es) → pairs_ascend es ≡ true
  map_ascends [] h = refl
  map_ascends (x ∷ []) h = refl
  map_ascends (x ∷ y ∷ es) h =
      let less : R x.0 y.0 ≡ Less = (sorted_head R x.0 (keys_of (y ∷ es)) h).0 in
      two_first x y es ∙ ap (λ r. is_lt r && pairs_ascend (y ∷ es)) less ∙ map_ascends (y ∷ es) (sorted_tail R x.0 (keys_of (y ∷ es)) h)

-- what stands for pairs means what they do, and holds their keys

pub meaning_of_pairs : {E P : Type 0} (pair : E → P) (m : P → Value) (es : List E) → each_meaning (λ e. m (pair e)) es ≡ each_meaning m (map pair es)
meaning_of_pairs pair m [] = refl
meaning_of_pairs pair m (e ∷ es) = ap (λ vs. value (m (pair e)) vs) (meaning_of_pairs pair m es)

pub keys_of_pairs : {E P : Type 0} (pair : E → P) (k : P → List Naming) (es : List E) → each_keys (λ e. k (pair e)) es ≡ each_keys k (map pair es)
keys_of_pairs pair k [] = refl
keys_of_pairs pair k (e ∷ es) = ap (λ ks. k (pair e) ++ ks) (keys_of_pairs pair k es)
