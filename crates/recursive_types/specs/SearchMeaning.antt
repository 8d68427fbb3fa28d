-- What Search means. Written by tools/derive: change the declaration, and run it again.
use Rattle.archive_core.specs.Choices.{option_shape}
use Rattle.archive_core.specs.Definitions.{no_definition}
use Rattle.archive_core.specs.Denotes.{Naming}
use Rattle.archive_core.specs.Held.{keyed_as, planned_as}
use Rattle.archive_core.specs.HeldOptions.{none_keyed, some_keyed, none_planned, some_planned}
use Rattle.archive_core.specs.Hollow.{option_at}
use Rattle.archive_core.specs.Keyed.{record_keyed, nothing_keyed, part_keyed, number_keyed, box_keyed}
use Rattle.archive_core.specs.Options.{option_keys, option_meaning}
use Rattle.archive_core.specs.PartsPlanned.{part_planned, no_part_planned, record_planned}
use Rattle.archive_core.specs.Planned.{leaf_planned}
use Rattle.archive_core.specs.PlannedOwners.{boxed_one_planned}
use Rattle.archive_core.specs.Plans.{HasPlan}
use Rattle.archive_core.specs.Shape.{boxed, one, leaf, unsigned, number as number_kind}
use Rattle.archive_core.specs.Value.{Value, case, product, box, number, value, no_value}
use Rattle.archive_core.specs.Variants.{case_of}
use Rattle.archive_core.specs.Writing.{IsKeyed}
use Rattle.recursive_types.specs.declared.search.Search.{Search-F, out-Search, roll-Search, fold-Search, fold-roll-Search, ind-Search, roll-out-Search}
use Rattle.recursive_types.specs.declared.search.Search.TheFolds.{map-Search}
use Rattle.recursive_types.specs.declared.search.SearchResolver.{SearchResolver}
use Rattle.std.proofs.Common.{ap, subst, sym, ◌∙◌, Box, Global}
use Rattle.std.specs.Int.{w32}
use Rattle.std.specs.Prelude.{ℕ, List, [], ◌++◌, ◌≡◌, refl, pos, ⊤, Option, None, Some}
use Rattle.recursive_types.specs.SearchShape.{search_shape, search_definitions, search_parts, search_part_definitions, search_has_parts}
use Rattle.recursive_types.specs.declared.search.Search.{Search as Search-Source}

abbrev pub search_meaning_layer : {A : Type 0} → (A → Value) → Search-F A → Value
search_meaning_layer m t = product (value (option_meaning (λ y. (box (m y.value))) t.left) (value (number (pos t.value)) (value (option_meaning (λ y. (box (m y.value))) t.right) no_value)))

pub search_meaning : Search-Source → Value
search_meaning = fold-Search Value (search_meaning_layer (λ v. v))

search_means_at : (a0 : (Option (Box Search-Source Global))) (a1 : ℕ) (a2 : (Option (Box Search-Source Global))) → search_meaning (roll-Search (record { left = a0; value = a1; right = a2 })) ≡ search_meaning_layer search_meaning (record { left = a0; value = a1; right = a2 })
unfolding search_meaning
search_means_at None a1 None = fold-roll-Search Value (search_meaning_layer (λ v. v)) (record { left = None; value = a1; right = None })
search_means_at None a1 (Some a2) = fold-roll-Search Value (search_meaning_layer (λ v. v)) (record { left = None; value = a1; right = (Some a2) })
search_means_at (Some a0) a1 None = fold-roll-Search Value (search_meaning_layer (λ v. v)) (record { left = (Some a0); value = a1; right = None })
search_means_at (Some a0) a1 (Some a2) = fold-roll-Search Value (search_meaning_layer (λ v. v)) (record { left = (Some a0); value = a1; right = (Some a2) })

pub search_means_roll : (x : Search-F Search-Source) → search_meaning (roll-Search x) ≡ search_meaning_layer search_meaning x
search_means_roll x = search_means_at x.left x.value x.right

pub search_means : (t : Search-Source) → search_meaning t ≡ search_meaning_layer search_meaning (out-Search t)
search_means t = ap search_meaning (sym (roll-out-Search t)) ∙ search_means_roll (out-Search t)

abbrev pub search_keys_layer : {A : Type 0} → (A → (List Naming)) → Search-F A → (List Naming)
search_keys_layer m t = ((option_keys (λ y. (m y.value)) t.left) ++ ([] ++ ((option_keys (λ y. (m y.value)) t.right) ++ [])))

pub search_keys : Search-Source → (List Naming)
search_keys = fold-Search (List Naming) (search_keys_layer (λ v. v))

search_has_keys_at : (a0 : (Option (Box Search-Source Global))) (a1 : ℕ) (a2 : (Option (Box Search-Source Global))) → search_keys (roll-Search (record { left = a0; value = a1; right = a2 })) ≡ search_keys_layer search_keys (record { left = a0; value = a1; right = a2 })
unfolding search_keys
search_has_keys_at None a1 None = fold-roll-Search (List Naming) (search_keys_layer (λ v. v)) (record { left = None; value = a1; right = None })
search_has_keys_at None a1 (Some a2) = fold-roll-Search (List Naming) (search_keys_layer (λ v. v)) (record { left = None; value = a1; right = (Some a2) })
search_has_keys_at (Some a0) a1 None = fold-roll-Search (List Naming) (search_keys_layer (λ v. v)) (record { left = (Some a0); value = a1; right = None })
search_has_keys_at (Some a0) a1 (Some a2) = fold-roll-Search (List Naming) (search_keys_layer (λ v. v)) (record { left = (Some a0); value = a1; right = (Some a2) })

pub search_has_keys_roll : (x : Search-F Search-Source) → search_keys (roll-Search x) ≡ search_keys_layer search_keys x
search_has_keys_roll x = search_has_keys_at x.left x.value x.right

pub search_has_keys : (t : Search-Source) → search_keys t ≡ search_keys_layer search_keys (out-Search t)
search_has_keys t = ap search_keys (sym (roll-out-Search t)) ∙ search_has_keys_roll (out-Search t)

-- what is read in its place
abbrev pub search_flat : Search-Source → SearchResolver → Value
search_flat t r = product (value (option_at (one search_shape) r.kept.0) (value (number (pos (out-Search t).value)) (value (option_at (one search_shape) r.kept.1.1.0) no_value)))

abbrev pub search_belongs : Search-Source → SearchResolver → Type 0
search_belongs t r = (⊤ × (⊤ × (⊤ × Unit {0})))

search_keyed_at : (a0 : (Option (Box ((t : Search-Source) × IsKeyed (search_keys t) (search_meaning t)) Global))) (a1 : ℕ) (a2 : (Option (Box ((t : Search-Source) × IsKeyed (search_keys t) (search_meaning t)) Global))) → IsKeyed (search_keys (roll-Search (map-Search ((t : Search-Source) × IsKeyed (search_keys t) (search_meaning t)) Search-Source (λ e. e.0) (record { left = a0; value = a1; right = a2 })))) (search_meaning (roll-Search (map-Search ((t : Search-Source) × IsKeyed (search_keys t) (search_meaning t)) Search-Source (λ e. e.0) (record { left = a0; value = a1; right = a2 }))))
search_keyed_at None a1 None = keyed_as (search_has_keys_roll _) (search_means_roll _) (record_keyed (part_keyed none_keyed (part_keyed (number_keyed _) (part_keyed none_keyed nothing_keyed))))
search_keyed_at None a1 (Some a2) = keyed_as (search_has_keys_roll _) (search_means_roll _) (record_keyed (part_keyed none_keyed (part_keyed (number_keyed _) (part_keyed (some_keyed _ _ (box_keyed _ _ a2.value.1)) nothing_keyed))))
search_keyed_at (Some a0) a1 None = keyed_as (search_has_keys_roll _) (search_means_roll _) (record_keyed (part_keyed (some_keyed _ _ (box_keyed _ _ a0.value.1)) (part_keyed (number_keyed _) (part_keyed none_keyed nothing_keyed))))
search_keyed_at (Some a0) a1 (Some a2) = keyed_as (search_has_keys_roll _) (search_means_roll _) (record_keyed (part_keyed (some_keyed _ _ (box_keyed _ _ a0.value.1)) (part_keyed (number_keyed _) (part_keyed (some_keyed _ _ (box_keyed _ _ a2.value.1)) nothing_keyed))))

search_keyed_layer : (y : Search-F ((t : Search-Source) × IsKeyed (search_keys t) (search_meaning t))) → IsKeyed (search_keys (roll-Search (map-Search ((t : Search-Source) × IsKeyed (search_keys t) (search_meaning t)) Search-Source (λ e. e.0) y))) (search_meaning (roll-Search (map-Search ((t : Search-Source) × IsKeyed (search_keys t) (search_meaning t)) Search-Source (λ e. e.0) y)))
search_keyed_layer y = search_keyed_at y.left y.value y.right

pub search_keyed : (t : Search-Source) → IsKeyed (search_keys t) (search_meaning t)
search_keyed = ind-Search (λ t. IsKeyed (search_keys t) (search_meaning t)) (λ x y is. subst (λ z. IsKeyed (search_keys (roll-Search z)) (search_meaning (roll-Search z))) is (search_keyed_layer y))

search_planned_at : (a0 : (Option (Box ((t : Search-Source) × HasPlan search_definitions search_shape (search_keys t) (search_meaning t)) Global))) (a1 : ℕ) (a2 : (Option (Box ((t : Search-Source) × HasPlan search_definitions search_shape (search_keys t) (search_meaning t)) Global))) → HasPlan search_definitions search_shape (search_keys (roll-Search (map-Search ((t : Search-Source) × HasPlan search_definitions search_shape (search_keys t) (search_meaning t)) Search-Source (λ e. e.0) (record { left = a0; value = a1; right = a2 })))) (search_meaning (roll-Search (map-Search ((t : Search-Source) × HasPlan search_definitions search_shape (search_keys t) (search_meaning t)) Search-Source (λ e. e.0) (record { left = a0; value = a1; right = a2 }))))
search_planned_at None a1 None = planned_as (search_has_keys_roll _) (search_means_roll _) (record_planned search_definitions search_shape search_part_definitions search_parts _ _ search_has_parts (part_planned search_definitions (option_shape (boxed (one search_shape))) [] (case 0 no_value) (none_planned search_definitions (boxed (one search_shape))) (part_planned no_definition (leaf (number_kind unsigned w32)) [] (number (pos a1)) (leaf_planned no_definition _ _ [] _ refl) (part_planned search_definitions (option_shape (boxed (one search_shape))) [] (case 0 no_value) (none_planned search_definitions (boxed (one search_shape))) no_part_planned))))
search_planned_at None a1 (Some a2) = planned_as (search_has_keys_roll _) (search_means_roll _) (record_planned search_definitions search_shape search_part_definitions search_parts _ _ search_has_parts (part_planned search_definitions (option_shape (boxed (one search_shape))) [] (case 0 no_value) (none_planned search_definitions (boxed (one search_shape))) (part_planned no_definition (leaf (number_kind unsigned w32)) [] (number (pos a1)) (leaf_planned no_definition _ _ [] _ refl) (part_planned search_definitions (option_shape (boxed (one search_shape))) (search_keys a2.value.0) (case_of 1 (box (search_meaning a2.value.0))) (some_planned search_definitions (boxed (one search_shape)) _ _ (boxed_one_planned search_definitions (one search_shape) search_shape refl _ _ a2.value.1)) no_part_planned))))
search_planned_at (Some a0) a1 None = planned_as (search_has_keys_roll _) (search_means_roll _) (record_planned search_definitions search_shape search_part_definitions search_parts _ _ search_has_parts (part_planned search_definitions (option_shape (boxed (one search_shape))) (search_keys a0.value.0) (case_of 1 (box (search_meaning a0.value.0))) (some_planned search_definitions (boxed (one search_shape)) _ _ (boxed_one_planned search_definitions (one search_shape) search_shape refl _ _ a0.value.1)) (part_planned no_definition (leaf (number_kind unsigned w32)) [] (number (pos a1)) (leaf_planned no_definition _ _ [] _ refl) (part_planned search_definitions (option_shape (boxed (one search_shape))) [] (case 0 no_value) (none_planned search_definitions (boxed (one search_shape))) no_part_planned))))
search_planned_at (Some a0) a1 (Some a2) = planned_as (search_has_keys_roll _) (search_means_roll _) (record_planned search_definitions search_shape search_part_definitions search_parts _ _ search_has_parts (part_planned search_definitions (option_shape (boxed (one search_shape))) (search_keys a0.value.0) (case_of 1 (box (search_meaning a0.value.0))) (some_planned search_definitions (boxed (one search_shape)) _ _ (boxed_one_planned search_definitions (one search_shape) search_shape refl _ _ a0.value.1)) (part_planned no_definition (leaf (number_kind unsigned w32)) [] (number (pos a1)) (leaf_planned no_definition _ _ [] _ refl) (part_planned search_definitions (option_shape (boxed (one search_shape))) (search_keys a2.value.0) (case_of 1 (box (search_meaning a2.value.0))) (some_planned search_definitions (boxed (one search_shape)) _ _ (boxed_one_planned search_definitions (one search_shape) search_shape refl _ _ a2.value.1)) no_part_planned))))

search_planned_layer : (y : Search-F ((t : Search-Source) × HasPlan search_definitions search_shape (search_keys t) (search_meaning t))) → HasPlan search_definitions search_shape (search_keys (roll-Search (map-Search ((t : Search-Source) × HasPlan search_definitions search_shape (search_keys t) (search_meaning t)) Search-Source (λ e. e.0) y))) (search_meaning (roll-Search (map-Search ((t : Search-Source) × HasPlan search_definitions search_shape (search_keys t) (search_meaning t)) Search-Source (λ e. e.0) y)))
search_planned_layer y = search_planned_at y.left y.value y.right

pub search_planned : (t : Search-Source) → HasPlan search_definitions search_shape (search_keys t) (search_meaning t)
search_planned = ind-Search (λ t. HasPlan search_definitions search_shape (search_keys t) (search_meaning t)) (λ x y is. subst (λ z. HasPlan search_definitions search_shape (search_keys (roll-Search z)) (search_meaning (roll-Search z))) is (search_planned_layer y))
