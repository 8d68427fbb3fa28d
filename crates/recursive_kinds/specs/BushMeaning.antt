-- What Bush means. Written by tools/derive: change the declaration, and run it again.
use Rattle.archive_core.specs.Choices.{option_shape}
use Rattle.archive_core.specs.Definitions.{no_definition}
use Rattle.archive_core.specs.Denotes.{Naming}
use Rattle.archive_core.specs.Held.{keyed_as, planned_as}
use Rattle.archive_core.specs.HeldLists.{each_alike, each_alike_keys, held_each_keyed, held_each_planned, options_alike, options_alike_keys, held_options_keyed, held_options_planned}
use Rattle.archive_core.specs.HeldOptions.{some_keyed, some_planned}
use Rattle.archive_core.specs.Keyed.{record_keyed, nothing_keyed, part_keyed, number_keyed, box_keyed}
use Rattle.archive_core.specs.Options.{option_keys, option_meaning}
use Rattle.archive_core.specs.PartsPlanned.{part_planned, no_part_planned, record_planned}
use Rattle.archive_core.specs.Planned.{leaf_planned}
use Rattle.archive_core.specs.PlannedOwners.{boxed_one_planned, vec_planned, run_region_planned}
use Rattle.archive_core.specs.Plans.{HasPlan}
use Rattle.archive_core.specs.Runs.{each_keys, each_meaning}
use Rattle.archive_core.specs.Shape.{boxed, vec, one, run, leaf, unsigned, number as number_kind}
use Rattle.archive_core.specs.Value.{Value, product, list, box, hole, number, value, no_value}
use Rattle.archive_core.specs.Writing.{IsKeyed, to_pointee}
use Rattle.recursive_kinds.specs.declared.bush.Bush.{Bush-F, out-Bush, roll-Bush, fold-Bush, fold-roll-Bush, ind-Bush, roll-out-Bush}
use Rattle.recursive_kinds.specs.declared.bush.Bush.TheFolds.{map-Bush}
use Rattle.recursive_kinds.specs.declared.bush.BushResolver.{BushResolver}
use Rattle.std.proofs.Common.{ap, subst, sym, ◌∙◌, Box, Global}
use Rattle.std.specs.Int.{w32}
use Rattle.std.specs.Prelude.{List, [], ◌++◌, ◌≡◌, ◌≤◌, refl, pos, length, ⊤}
use Rattle.recursive_kinds.specs.BushShape.{bush_shape, bush_definitions, bush_parts, bush_part_definitions, bush_has_parts}
use Rattle.recursive_kinds.specs.declared.bush.Bush.{Bush as Bush-Source}

alike_2 : {A0 A1 R : Type 0} (f : A0 → A1 → R) (a0 b0 : A0) (a1 b1 : A1) → a0 ≡ b0 → a1 ≡ b1 → f a0 a1 ≡ f b0 b1
alike_2 f a0 b0 a1 b1 p0 p1 = ap (λ x. f x a1) p0 ∙ ap (λ x. f b0 x) p1

abbrev pub bush_meaning_layer : {A : Type 0} → (A → Value) → Bush-F A → Value
bush_meaning_layer m t = product (value (number (pos t.id)) (value (list (each_meaning (λ y. (option_meaning (λ y. (box (m y.value))) y)) t.sides.items)) (value (list (each_meaning (λ y. (box (m y.value))) t.next.items)) no_value)))

pub bush_meaning : Bush-Source → Value
bush_meaning = fold-Bush Value (bush_meaning_layer (λ v. v))

pub bush_means_roll : (x : Bush-F Bush-Source) → bush_meaning (roll-Bush x) ≡ bush_meaning_layer bush_meaning x
unfolding bush_meaning
bush_means_roll t = fold-roll-Bush Value (bush_meaning_layer (λ v. v)) t ∙ alike_2 (λ vs1 vs2. product (value (number (pos t.id)) (value (list vs1) (value (list vs2) no_value)))) _ _ _ _ (options_alike _ (λ (y : (Box Value Global)). (box (y.value))) (λ (y : (Box Bush-Source Global)). (box (bush_meaning y.value))) refl (λ x. refl) t.sides.items) (each_alike _ (λ (y : (Box Value Global)). (box (y.value))) (λ (y : (Box Bush-Source Global)). (box (bush_meaning y.value))) (λ x. refl) t.next.items)

pub bush_means : (t : Bush-Source) → bush_meaning t ≡ bush_meaning_layer bush_meaning (out-Bush t)
bush_means t = ap bush_meaning (sym (roll-out-Bush t)) ∙ bush_means_roll (out-Bush t)

abbrev pub bush_keys_layer : {A : Type 0} → (A → (List Naming)) → Bush-F A → (List Naming)
bush_keys_layer m t = ([] ++ ((each_keys (λ y. (option_keys (λ y. (m y.value)) y)) t.sides.items) ++ ((each_keys (λ y. (m y.value)) t.next.items) ++ [])))

pub bush_keys : Bush-Source → (List Naming)
bush_keys = fold-Bush (List Naming) (bush_keys_layer (λ v. v))

pub bush_has_keys_roll : (x : Bush-F Bush-Source) → bush_keys (roll-Bush x) ≡ bush_keys_layer bush_keys x
unfolding bush_keys
bush_has_keys_roll t = fold-roll-Bush (List Naming) (bush_keys_layer (λ v. v)) t ∙ alike_2 (λ vs1 vs2. ([] ++ (vs1 ++ (vs2 ++ [])))) _ _ _ _ (options_alike_keys _ (λ (y : (Box (List Naming) Global)). (y.value)) (λ (y : (Box Bush-Source Global)). (bush_keys y.value)) refl (λ x. refl) t.sides.items) (each_alike_keys _ (λ (y : (Box (List Naming) Global)). (y.value)) (λ (y : (Box Bush-Source Global)). (bush_keys y.value)) (λ x. refl) t.next.items)

pub bush_has_keys : (t : Bush-Source) → bush_keys t ≡ bush_keys_layer bush_keys (out-Bush t)
bush_has_keys t = ap bush_keys (sym (roll-out-Bush t)) ∙ bush_has_keys_roll (out-Bush t)

-- what is read in its place
abbrev pub bush_flat : Bush-Source → BushResolver → Value
bush_flat t r = product (value (number (pos (out-Bush t).id)) (value (hole (to_pointee r.kept.1.0 (run (option_shape (boxed (one bush_shape)))) (length (out-Bush t).sides.items))) (value (hole (to_pointee r.kept.1.1.0 (run (boxed (one bush_shape))) (length (out-Bush t).next.items))) no_value)))

abbrev pub bush_belongs : Bush-Source → BushResolver → Type 0
bush_belongs t r = (⊤ × ((length (out-Bush t).sides.items ≤ 4294967295) × ((length (out-Bush t).next.items ≤ 4294967295) × Unit {0})))

bush_keyed_layer : (y : Bush-F ((t : Bush-Source) × IsKeyed (bush_keys t) (bush_meaning t))) → IsKeyed (bush_keys (roll-Bush (map-Bush ((t : Bush-Source) × IsKeyed (bush_keys t) (bush_meaning t)) Bush-Source (λ e. e.0) y))) (bush_meaning (roll-Bush (map-Bush ((t : Bush-Source) × IsKeyed (bush_keys t) (bush_meaning t)) Bush-Source (λ e. e.0) y)))
bush_keyed_layer y = keyed_as (bush_has_keys_roll _) (bush_means_roll _) (record_keyed (part_keyed (number_keyed _) (part_keyed (held_options_keyed _ (λ y. (bush_keys y.value)) (λ y. (box (bush_meaning y.value))) refl (λ e. (some_keyed _ _ (box_keyed _ _ e.value.1))) y.sides.items) (part_keyed (held_each_keyed _ (λ y. (bush_keys y.value)) (λ y. (box (bush_meaning y.value))) (λ e. (box_keyed _ _ e.value.1)) y.next.items) nothing_keyed))))

pub bush_keyed : (t : Bush-Source) → IsKeyed (bush_keys t) (bush_meaning t)
bush_keyed = ind-Bush (λ t. IsKeyed (bush_keys t) (bush_meaning t)) (λ x y is. subst (λ z. IsKeyed (bush_keys (roll-Bush z)) (bush_meaning (roll-Bush z))) is (bush_keyed_layer y))

bush_planned_layer : (y : Bush-F ((t : Bush-Source) × HasPlan bush_definitions bush_shape (bush_keys t) (bush_meaning t))) → HasPlan bush_definitions bush_shape (bush_keys (roll-Bush (map-Bush ((t : Bush-Source) × HasPlan bush_definitions bush_shape (bush_keys t) (bush_meaning t)) Bush-Source (λ e. e.0) y))) (bush_meaning (roll-Bush (map-Bush ((t : Bush-Source) × HasPlan bush_definitions bush_shape (bush_keys t) (bush_meaning t)) Bush-Source (λ e. e.0) y)))
bush_planned_layer y = planned_as (bush_has_keys_roll _) (bush_means_roll _) (record_planned bush_definitions bush_shape bush_part_definitions bush_parts _ _ bush_has_parts (part_planned no_definition (leaf (number_kind unsigned w32)) [] (number (pos y.id)) (leaf_planned no_definition _ _ [] _ refl) (part_planned bush_definitions (vec (option_shape (boxed (one bush_shape)))) _ _ (vec_planned bush_definitions (option_shape (boxed (one bush_shape))) _ _ _ (run_region_planned bush_definitions (option_shape (boxed (one bush_shape))) _ _ _ (held_options_planned _ (λ y. (bush_keys y.value)) (λ y. (box (bush_meaning y.value))) bush_definitions (boxed (one bush_shape)) refl (λ e. (some_planned bush_definitions (boxed (one bush_shape)) _ _ (boxed_one_planned bush_definitions (one bush_shape) bush_shape refl _ _ e.value.1))) y.sides.items))) (part_planned bush_definitions (vec (boxed (one bush_shape))) _ _ (vec_planned bush_definitions (boxed (one bush_shape)) _ _ _ (run_region_planned bush_definitions (boxed (one bush_shape)) _ _ _ (held_each_planned _ (λ y. (bush_keys y.value)) (λ y. (box (bush_meaning y.value))) bush_definitions (boxed (one bush_shape)) (λ e. (boxed_one_planned bush_definitions (one bush_shape) bush_shape refl _ _ e.value.1)) y.next.items))) no_part_planned))))

pub bush_planned : (t : Bush-Source) → HasPlan bush_definitions bush_shape (bush_keys t) (bush_meaning t)
bush_planned = ind-Bush (λ t. HasPlan bush_definitions bush_shape (bush_keys t) (bush_meaning t)) (λ x y is. subst (λ z. HasPlan bush_definitions bush_shape (bush_keys (roll-Bush z)) (bush_meaning (roll-Bush z))) is (bush_planned_layer y))
