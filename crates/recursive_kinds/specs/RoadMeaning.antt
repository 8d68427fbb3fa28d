-- What Road means. Written by tools/derive: change the declaration, and run it again.
use Rattle.archive_core.specs.Choices.{option_shape}
use Rattle.archive_core.specs.Definitions.{no_definition}
use Rattle.archive_core.specs.Denotes.{Naming}
use Rattle.archive_core.specs.Held.{variant_planned, keyed_as, planned_as}
use Rattle.archive_core.specs.HeldOptions.{none_keyed, some_keyed, none_planned, some_planned}
use Rattle.archive_core.specs.Keyed.{case_keyed, nothing_keyed, part_keyed, number_keyed}
use Rattle.archive_core.specs.Options.{option_keys, option_meaning, option_flat}
use Rattle.archive_core.specs.PartsPlanned.{part_planned, no_part_planned}
use Rattle.archive_core.specs.Planned.{leaf_planned}
use Rattle.archive_core.specs.Plans.{HasPlan}
use Rattle.archive_core.specs.Shape.{shared, weak, one, leaf, unsigned, variant, number as number_kind}
use Rattle.archive_core.specs.SharedLaws.{weak_value, weak_flat, weak_keyed, weak_planned}
use Rattle.archive_core.specs.SharedSources.{rc_flavor, rc_flat, rc_keys, rc_keyed, rc_one_planned}
use Rattle.archive_core.specs.Value.{Value, case, number, value, no_value, null, shared_value}
use Rattle.archive_core.specs.Variants.{case_of}
use Rattle.archive_core.specs.Writing.{IsKeyed}
use Rattle.archive_core.specs.declared.rc.sources.Shared.{Shared}
use Rattle.archive_core.specs.declared.rc.sources.weak.WeakShared.{WeakShared}
use Rattle.recursive_kinds.specs.declared.road.Road.{Road-F, out-Road, roll-Road, fold-Road, fold-roll-Road, ind-Road, out-roll-Road}
use Rattle.recursive_kinds.specs.declared.road.Road.TheFolds.{map-Road}
use Rattle.recursive_kinds.specs.declared.road.RoadResolver.{RoadResolver}
use Rattle.std.proofs.Common.{ap, subst, sym, ◌∙◌}
use Rattle.std.specs.Int.{w8}
use Rattle.std.specs.Prelude.{ℕ, List, [], ◌++◌, ◌≡◌, refl, pos, ⊤, Option, None, Some}
use Rattle.recursive_kinds.specs.RoadShape.{road_name, road_shape, road_definitions, road_variants, road_variant_definitions, road_has_variants, road_way_parts, road_way_definitions, road_detour_parts, road_detour_definitions}
use Rattle.recursive_kinds.specs.declared.road.Road.{Road as Road-Source}
use Rattle.recursive_kinds.specs.declared.road.Road.TheOpen as Layer
use Rattle.recursive_kinds.specs.declared.road.Road.TheVariants as Its
use Rattle.recursive_kinds.specs.declared.road.RoadResolver.TheVariants as Kept

abbrev pub road_meaning_layer : {A : Type 0} → (A → Value) → Road-F A → Value
road_meaning_layer m (Layer.Way a0 a1) = case 0 (value (number (pos a0)) (value (option_meaning (λ y. (shared_value y.key)) a1) no_value))
road_meaning_layer m (Layer.Detour a0 a1) = case 1 (value (shared_value a0.key) (value (weak_value (λ s. (shared_value s.key)) a1.value) no_value))

abbrev pub road_keys_layer : {A : Type 0} → (A → Value) → (A → (List Naming)) → Road-F A → (List Naming)
road_keys_layer m k (Layer.Way a0 a1) = ([] ++ ((option_keys (λ y. (rc_keys y.key (one road_shape) 0 (m y.value.value) (k y.value.value))) a1) ++ []))
road_keys_layer m k (Layer.Detour a0 a1) = ((rc_keys a0.key (one road_shape) 0 (m a0.value.value) (k a0.value.value)) ++ ((option_keys (λ s. (rc_keys s.key (one road_shape) 0 (m s.value.value) (k s.value.value))) a1.value) ++ []))

abbrev pub road_both_layer : {A : Type 0} → (A → (Value × (List Naming))) → Road-F A → (Value × (List Naming))
road_both_layer p t = (road_meaning_layer (λ v. (p v).0) t, road_keys_layer (λ v. (p v).0) (λ v. (p v).1) t)

pub road_both : Road-Source → (Value × (List Naming))
road_both = fold-Road (Value × (List Naming)) (road_both_layer (λ v. v))

pub road_meaning : Road-Source → Value
road_meaning t = (road_both t).0

road_detour_means_at : (a0 : (Shared Road-Source)) (a1 : (Option (Shared Road-Source))) → road_meaning (roll-Road (Layer.Detour a0 (record { value = a1 }))) ≡ road_meaning_layer road_meaning (Layer.Detour a0 (record { value = a1 }))
unfolding road_both road_meaning
road_detour_means_at a0 None = ap (λ (p : (Value × (List Naming))). p.0) (fold-roll-Road (Value × (List Naming)) (road_both_layer (λ v. v)) (Layer.Detour a0 (record { value = None })))
road_detour_means_at a0 (Some a1) = ap (λ (p : (Value × (List Naming))). p.0) (fold-roll-Road (Value × (List Naming)) (road_both_layer (λ v. v)) (Layer.Detour a0 (record { value = (Some a1) })))

pub road_means_roll : (x : Road-F Road-Source) → road_meaning (roll-Road x) ≡ road_meaning_layer road_meaning x
unfolding road_both road_meaning
road_means_roll (Layer.Way a0 None) = ap (λ (p : (Value × (List Naming))). p.0) (fold-roll-Road (Value × (List Naming)) (road_both_layer (λ v. v)) (Layer.Way a0 None))
road_means_roll (Layer.Way a0 (Some a1)) = ap (λ (p : (Value × (List Naming))). p.0) (fold-roll-Road (Value × (List Naming)) (road_both_layer (λ v. v)) (Layer.Way a0 (Some a1)))
road_means_roll (Layer.Detour a0 a1) = road_detour_means_at a0 a1.value

pub road_way_means : (a0 : ℕ) (a1 : (Option (Shared Road-Source))) → road_meaning (Its.Way a0 a1) ≡ road_meaning_layer road_meaning (Layer.Way a0 a1)
road_way_means a0 a1 = ap road_meaning (sym (Its.rolls-Way a0 a1)) ∙ road_means_roll (Layer.Way a0 a1)

pub road_detour_means : (a0 : (Shared Road-Source)) (a1 : (WeakShared Road-Source)) → road_meaning (Its.Detour a0 a1) ≡ road_meaning_layer road_meaning (Layer.Detour a0 a1)
road_detour_means a0 a1 = ap road_meaning (sym (Its.rolls-Detour a0 a1)) ∙ road_means_roll (Layer.Detour a0 a1)

pub road_keys : Road-Source → (List Naming)
road_keys t = (road_both t).1

road_detour_has_keys_at : (a0 : (Shared Road-Source)) (a1 : (Option (Shared Road-Source))) → road_keys (roll-Road (Layer.Detour a0 (record { value = a1 }))) ≡ road_keys_layer road_meaning road_keys (Layer.Detour a0 (record { value = a1 }))
unfolding road_both road_meaning road_keys
road_detour_has_keys_at a0 None = ap (λ (p : (Value × (List Naming))). p.1) (fold-roll-Road (Value × (List Naming)) (road_both_layer (λ v. v)) (Layer.Detour a0 (record { value = None })))
road_detour_has_keys_at a0 (Some a1) = ap (λ (p : (Value × (List Naming))). p.1) (fold-roll-Road (Value × (List Naming)) (road_both_layer (λ v. v)) (Layer.Detour a0 (record { value = (Some a1) })))

pub road_has_keys_roll : (x : Road-F Road-Source) → road_keys (roll-Road x) ≡ road_keys_layer road_meaning road_keys x
unfolding road_both road_meaning road_keys
road_has_keys_roll (Layer.Way a0 None) = ap (λ (p : (Value × (List Naming))). p.1) (fold-roll-Road (Value × (List Naming)) (road_both_layer (λ v. v)) (Layer.Way a0 None))
road_has_keys_roll (Layer.Way a0 (Some a1)) = ap (λ (p : (Value × (List Naming))). p.1) (fold-roll-Road (Value × (List Naming)) (road_both_layer (λ v. v)) (Layer.Way a0 (Some a1)))
road_has_keys_roll (Layer.Detour a0 a1) = road_detour_has_keys_at a0 a1.value

pub road_way_has_keys : (a0 : ℕ) (a1 : (Option (Shared Road-Source))) → road_keys (Its.Way a0 a1) ≡ road_keys_layer road_meaning road_keys (Layer.Way a0 a1)
road_way_has_keys a0 a1 = ap road_keys (sym (Its.rolls-Way a0 a1)) ∙ road_has_keys_roll (Layer.Way a0 a1)

pub road_detour_has_keys : (a0 : (Shared Road-Source)) (a1 : (WeakShared Road-Source)) → road_keys (Its.Detour a0 a1) ≡ road_keys_layer road_meaning road_keys (Layer.Detour a0 a1)
road_detour_has_keys a0 a1 = ap road_keys (sym (Its.rolls-Detour a0 a1)) ∙ road_has_keys_roll (Layer.Detour a0 a1)

-- what is read in its place, by the resolver of the same variant
abbrev pub road_flat_layer : Road-F Road-Source → RoadResolver → Value
road_flat_layer (Layer.Way a0 a1) r = elim r [ Kept.Way s ↦ case 0 (value (number (pos a0)) (value (option_flat (λ y s. (rc_flat s (one road_shape) 0)) s.1.0 s.1.0) no_value)) | _ ↦ case 0 no_value ]
road_flat_layer (Layer.Detour a0 a1) r = elim r [ Kept.Detour s ↦ case 1 (value (rc_flat s.0 (one road_shape) 0) (value (weak_flat rc_flavor (one road_shape) 0 s.1.0) no_value)) | _ ↦ case 1 no_value ]

abbrev pub road_flat : Road-Source → RoadResolver → Value
road_flat v r = road_flat_layer (out-Road v) r

abbrev pub road_belongs_layer : Road-F Road-Source → RoadResolver → Type 0
road_belongs_layer (Layer.Way a0 a1) r = elim r [ Kept.Way s ↦ (⊤ × (⊤ × Unit {0})) | _ ↦ ⊥ ]
road_belongs_layer (Layer.Detour a0 a1) r = elim r [ Kept.Detour s ↦ (⊤ × (⊤ × Unit {0})) | _ ↦ ⊥ ]

abbrev pub road_belongs : Road-Source → RoadResolver → Type 0
road_belongs v r = road_belongs_layer (out-Road v) r

pub road_way_opens : (a0 : ℕ) (a1 : (Option (Shared Road-Source))) → out-Road (Its.Way a0 a1) ≡ (Layer.Way a0 a1)
road_way_opens a0 a1 = ap out-Road (sym (Its.rolls-Way a0 a1)) ∙ out-roll-Road (Layer.Way a0 a1)

pub road_detour_opens : (a0 : (Shared Road-Source)) (a1 : (WeakShared Road-Source)) → out-Road (Its.Detour a0 a1) ≡ (Layer.Detour a0 a1)
road_detour_opens a0 a1 = ap out-Road (sym (Its.rolls-Detour a0 a1)) ∙ out-roll-Road (Layer.Detour a0 a1)

road_detour_keyed_at : (a0 : (Shared ((t : Road-Source) × IsKeyed (road_keys t) (road_meaning t)))) (a1 : (Option (Shared ((t : Road-Source) × IsKeyed (road_keys t) (road_meaning t))))) → IsKeyed (road_keys (roll-Road (map-Road ((t : Road-Source) × IsKeyed (road_keys t) (road_meaning t)) Road-Source (λ e. e.0) (Layer.Detour a0 (record { value = a1 }))))) (road_meaning (roll-Road (map-Road ((t : Road-Source) × IsKeyed (road_keys t) (road_meaning t)) Road-Source (λ e. e.0) (Layer.Detour a0 (record { value = a1 })))))
road_detour_keyed_at a0 None = keyed_as (road_has_keys_roll _) (road_means_roll _) (case_keyed _ 1 _ (part_keyed (rc_keyed a0.key (one road_shape) 0 _ _ a0.value.value.1) (part_keyed (weak_keyed {A = ⊥} (λ u. []) (λ u. null) (λ u. absurd u) None) nothing_keyed)))
road_detour_keyed_at a0 (Some a1) = keyed_as (road_has_keys_roll _) (road_means_roll _) (case_keyed _ 1 _ (part_keyed (rc_keyed a0.key (one road_shape) 0 _ _ a0.value.value.1) (part_keyed (rc_keyed a1.key (one road_shape) 0 _ _ a1.value.value.1) nothing_keyed)))

road_keyed_layer : (y : Road-F ((t : Road-Source) × IsKeyed (road_keys t) (road_meaning t))) → IsKeyed (road_keys (roll-Road (map-Road ((t : Road-Source) × IsKeyed (road_keys t) (road_meaning t)) Road-Source (λ e. e.0) y))) (road_meaning (roll-Road (map-Road ((t : Road-Source) × IsKeyed (road_keys t) (road_meaning t)) Road-Source (λ e. e.0) y)))
road_keyed_layer (Layer.Way a0 None) = keyed_as (road_has_keys_roll _) (road_means_roll _) (case_keyed _ 0 _ (part_keyed (number_keyed _) (part_keyed none_keyed nothing_keyed)))
road_keyed_layer (Layer.Way a0 (Some a1)) = keyed_as (road_has_keys_roll _) (road_means_roll _) (case_keyed _ 0 _ (part_keyed (number_keyed _) (part_keyed (some_keyed _ _ (rc_keyed a1.key (one road_shape) 0 _ _ a1.value.value.1)) nothing_keyed)))
road_keyed_layer (Layer.Detour a0 a1) = road_detour_keyed_at a0 a1.value

pub road_keyed : (t : Road-Source) → IsKeyed (road_keys t) (road_meaning t)
road_keyed = ind-Road (λ t. IsKeyed (road_keys t) (road_meaning t)) (λ x y is. subst (λ z. IsKeyed (road_keys (roll-Road z)) (road_meaning (roll-Road z))) is (road_keyed_layer y))

road_detour_planned_at : (a0 : (Shared ((t : Road-Source) × HasPlan road_definitions road_shape (road_keys t) (road_meaning t)))) (a1 : (Option (Shared ((t : Road-Source) × HasPlan road_definitions road_shape (road_keys t) (road_meaning t))))) → HasPlan road_definitions road_shape (road_keys (roll-Road (map-Road ((t : Road-Source) × HasPlan road_definitions road_shape (road_keys t) (road_meaning t)) Road-Source (λ e. e.0) (Layer.Detour a0 (record { value = a1 }))))) (road_meaning (roll-Road (map-Road ((t : Road-Source) × HasPlan road_definitions road_shape (road_keys t) (road_meaning t)) Road-Source (λ e. e.0) (Layer.Detour a0 (record { value = a1 })))))
road_detour_planned_at a0 None = planned_as (road_has_keys_roll _) (road_means_roll _) (variant_planned road_definitions road_shape road_name road_variant_definitions road_variants road_has_variants 1 road_detour_parts refl road_detour_definitions refl _ _ (part_planned road_definitions (shared rc_flavor (one road_shape)) (rc_keys a0.key (one road_shape) 0 (road_meaning a0.value.value.0) (road_keys a0.value.value.0)) (shared_value a0.key) (rc_one_planned road_definitions a0.key (one road_shape) road_shape refl _ _ a0.value.value.1) (part_planned road_definitions (weak rc_flavor (one road_shape)) [] null (weak_planned {A = ⊥} road_definitions rc_flavor (one road_shape) (λ u. []) (λ u. null) (λ u. absurd u) None) no_part_planned)))
road_detour_planned_at a0 (Some a1) = planned_as (road_has_keys_roll _) (road_means_roll _) (variant_planned road_definitions road_shape road_name road_variant_definitions road_variants road_has_variants 1 road_detour_parts refl road_detour_definitions refl _ _ (part_planned road_definitions (shared rc_flavor (one road_shape)) (rc_keys a0.key (one road_shape) 0 (road_meaning a0.value.value.0) (road_keys a0.value.value.0)) (shared_value a0.key) (rc_one_planned road_definitions a0.key (one road_shape) road_shape refl _ _ a0.value.value.1) (part_planned road_definitions (weak rc_flavor (one road_shape)) (rc_keys a1.key (one road_shape) 0 (road_meaning a1.value.value.0) (road_keys a1.value.value.0)) (shared_value a1.key) (weak_planned {A = Unit {0}} road_definitions rc_flavor (one road_shape) (λ u. (rc_keys a1.key (one road_shape) 0 (road_meaning a1.value.value.0) (road_keys a1.value.value.0))) (λ u. (shared_value a1.key)) (λ u. (rc_one_planned road_definitions a1.key (one road_shape) road_shape refl _ _ a1.value.value.1)) (Some tt)) no_part_planned)))

road_planned_layer : (y : Road-F ((t : Road-Source) × HasPlan road_definitions road_shape (road_keys t) (road_meaning t))) → HasPlan road_definitions road_shape (road_keys (roll-Road (map-Road ((t : Road-Source) × HasPlan road_definitions road_shape (road_keys t) (road_meaning t)) Road-Source (λ e. e.0) y))) (road_meaning (roll-Road (map-Road ((t : Road-Source) × HasPlan road_definitions road_shape (road_keys t) (road_meaning t)) Road-Source (λ e. e.0) y)))
road_planned_layer (Layer.Way a0 None) = planned_as (road_has_keys_roll _) (road_means_roll _) (variant_planned road_definitions road_shape road_name road_variant_definitions road_variants road_has_variants 0 road_way_parts refl road_way_definitions refl _ _ (part_planned no_definition (leaf (number_kind unsigned w8)) [] (number (pos a0)) (leaf_planned no_definition _ _ [] _ refl) (part_planned road_definitions (option_shape (shared rc_flavor (one road_shape))) [] (case 0 no_value) (none_planned road_definitions (shared rc_flavor (one road_shape))) no_part_planned)))
road_planned_layer (Layer.Way a0 (Some a1)) = planned_as (road_has_keys_roll _) (road_means_roll _) (variant_planned road_definitions road_shape road_name road_variant_definitions road_variants road_has_variants 0 road_way_parts refl road_way_definitions refl _ _ (part_planned no_definition (leaf (number_kind unsigned w8)) [] (number (pos a0)) (leaf_planned no_definition _ _ [] _ refl) (part_planned road_definitions (option_shape (shared rc_flavor (one road_shape))) (rc_keys a1.key (one road_shape) 0 (road_meaning a1.value.value.0) (road_keys a1.value.value.0)) (case_of 1 (shared_value a1.key)) (some_planned road_definitions (shared rc_flavor (one road_shape)) (rc_keys a1.key (one road_shape) 0 (road_meaning a1.value.value.0) (road_keys a1.value.value.0)) (shared_value a1.key) (rc_one_planned road_definitions a1.key (one road_shape) road_shape refl _ _ a1.value.value.1)) no_part_planned)))
road_planned_layer (Layer.Detour a0 a1) = road_detour_planned_at a0 a1.value

pub road_planned : (t : Road-Source) → HasPlan road_definitions road_shape (road_keys t) (road_meaning t)
road_planned = ind-Road (λ t. HasPlan road_definitions road_shape (road_keys t) (road_meaning t)) (λ x y is. subst (λ z. HasPlan road_definitions road_shape (road_keys (roll-Road z)) (road_meaning (roll-Road z))) is (road_planned_layer y))
