-- What Knot means. Written by tools/derive: change the declaration, and run it again.
use Rattle.archive_core.specs.Definitions.{no_definition}
use Rattle.archive_core.specs.Denotes.{Naming}
use Rattle.archive_core.specs.Held.{keyed_as, planned_as}
use Rattle.archive_core.specs.HeldLists.{each_alike, each_alike_keys, held_each_keyed, held_each_planned}
use Rattle.archive_core.specs.Keyed.{record_keyed, nothing_keyed, part_keyed, number_keyed}
use Rattle.archive_core.specs.PartsPlanned.{part_planned, no_part_planned, record_planned}
use Rattle.archive_core.specs.Planned.{leaf_planned}
use Rattle.archive_core.specs.PlannedOwners.{vec_planned, run_region_planned}
use Rattle.archive_core.specs.Plans.{HasPlan}
use Rattle.archive_core.specs.Runs.{each_keys, each_meaning}
use Rattle.archive_core.specs.Shape.{shared, vec, one, run, leaf, unsigned, number as number_kind}
use Rattle.archive_core.specs.SharedSources.{rc_flavor, rc_keys, rc_keyed, rc_one_planned}
use Rattle.archive_core.specs.Value.{Value, product, list, hole, number, value, no_value, shared_value}
use Rattle.archive_core.specs.Writing.{IsKeyed, to_pointee}
use Rattle.archive_core.specs.declared.rc.sources.Shared.{Shared}
use Rattle.recursive_kinds.specs.declared.knot.Knot.{Knot-F, out-Knot, roll-Knot, fold-Knot, fold-roll-Knot, ind-Knot, roll-out-Knot}
use Rattle.recursive_kinds.specs.declared.knot.Knot.TheFolds.{map-Knot}
use Rattle.recursive_kinds.specs.declared.knot.KnotResolver.{KnotResolver}
use Rattle.std.proofs.Common.{ap, subst, sym, ◌∙◌}
use Rattle.std.specs.Int.{w32}
use Rattle.std.specs.Prelude.{List, [], ◌++◌, ◌≡◌, ◌≤◌, refl, pos, length, ⊤}
use Rattle.recursive_kinds.specs.KnotShape.{knot_shape, knot_definitions, knot_parts, knot_part_definitions, knot_has_parts}
use Rattle.recursive_kinds.specs.declared.knot.Knot.{Knot as Knot-Source}

abbrev pub knot_meaning_layer : {A : Type 0} → (A → Value) → Knot-F A → Value
knot_meaning_layer m t = product (value (number (pos t.id)) (value (list (each_meaning (λ y. (shared_value y.key)) t.next.items)) no_value))

abbrev pub knot_keys_layer : {A : Type 0} → (A → Value) → (A → (List Naming)) → Knot-F A → (List Naming)
knot_keys_layer m k t = ([] ++ ((each_keys (λ y. (rc_keys y.key (one knot_shape) 0 (m y.value.value) (k y.value.value))) t.next.items) ++ []))

abbrev pub knot_both_layer : {A : Type 0} → (A → (Value × (List Naming))) → Knot-F A → (Value × (List Naming))
knot_both_layer p t = (knot_meaning_layer (λ v. (p v).0) t, knot_keys_layer (λ v. (p v).0) (λ v. (p v).1) t)

pub knot_both : Knot-Source → (Value × (List Naming))
knot_both = fold-Knot (Value × (List Naming)) (knot_both_layer (λ v. v))

pub knot_meaning : Knot-Source → Value
knot_meaning t = (knot_both t).0

pub knot_means_roll : (x : Knot-F Knot-Source) → knot_meaning (roll-Knot x) ≡ knot_meaning_layer knot_meaning x
unfolding knot_both knot_meaning
knot_means_roll t = ap (λ (p : (Value × (List Naming))). p.0) (fold-roll-Knot (Value × (List Naming)) (knot_both_layer (λ v. v)) t) ∙ ap (λ vs. product (value (number (pos t.id)) (value (list vs) no_value))) (each_alike _ (λ (y : (Shared (Value × (List Naming)))). (shared_value y.key)) (λ (y : (Shared Knot-Source)). (shared_value y.key)) (λ x. refl) t.next.items)

pub knot_means : (t : Knot-Source) → knot_meaning t ≡ knot_meaning_layer knot_meaning (out-Knot t)
knot_means t = ap knot_meaning (sym (roll-out-Knot t)) ∙ knot_means_roll (out-Knot t)

pub knot_keys : Knot-Source → (List Naming)
knot_keys t = (knot_both t).1

pub knot_has_keys_roll : (x : Knot-F Knot-Source) → knot_keys (roll-Knot x) ≡ knot_keys_layer knot_meaning knot_keys x
unfolding knot_both knot_meaning knot_keys
knot_has_keys_roll t = ap (λ (p : (Value × (List Naming))). p.1) (fold-roll-Knot (Value × (List Naming)) (knot_both_layer (λ v. v)) t) ∙ ap (λ vs. ([] ++ (vs ++ []))) (each_alike_keys _ (λ (y : (Shared (Value × (List Naming)))). (rc_keys y.key (one knot_shape) 0 y.value.value.0 y.value.value.1)) (λ (y : (Shared Knot-Source)). (rc_keys y.key (one knot_shape) 0 (knot_meaning y.value.value) (knot_keys y.value.value))) (λ x. refl) t.next.items)

pub knot_has_keys : (t : Knot-Source) → knot_keys t ≡ knot_keys_layer knot_meaning knot_keys (out-Knot t)
knot_has_keys t = ap knot_keys (sym (roll-out-Knot t)) ∙ knot_has_keys_roll (out-Knot t)

-- what is read in its place
abbrev pub knot_flat : Knot-Source → KnotResolver → Value
knot_flat t r = product (value (number (pos (out-Knot t).id)) (value (hole (to_pointee r.kept.1.0 (run (shared rc_flavor (one knot_shape))) (length (out-Knot t).next.items))) no_value))

abbrev pub knot_belongs : Knot-Source → KnotResolver → Type 0
knot_belongs t r = (⊤ × ((length (out-Knot t).next.items ≤ 4294967295) × Unit {0}))

knot_keyed_layer : (y : Knot-F ((t : Knot-Source) × IsKeyed (knot_keys t) (knot_meaning t))) → IsKeyed (knot_keys (roll-Knot (map-Knot ((t : Knot-Source) × IsKeyed (knot_keys t) (knot_meaning t)) Knot-Source (λ e. e.0) y))) (knot_meaning (roll-Knot (map-Knot ((t : Knot-Source) × IsKeyed (knot_keys t) (knot_meaning t)) Knot-Source (λ e. e.0) y)))
knot_keyed_layer y = keyed_as (knot_has_keys_roll _) (knot_means_roll _) (record_keyed (part_keyed (number_keyed _) (part_keyed (held_each_keyed _ (λ y. (rc_keys y.key (one knot_shape) 0 (knot_meaning y.value.value) (knot_keys y.value.value))) (λ y. (shared_value y.key)) (λ e. (rc_keyed e.key (one knot_shape) 0 _ _ e.value.value.1)) y.next.items) nothing_keyed)))

pub knot_keyed : (t : Knot-Source) → IsKeyed (knot_keys t) (knot_meaning t)
knot_keyed = ind-Knot (λ t. IsKeyed (knot_keys t) (knot_meaning t)) (λ x y is. subst (λ z. IsKeyed (knot_keys (roll-Knot z)) (knot_meaning (roll-Knot z))) is (knot_keyed_layer y))

knot_planned_layer : (y : Knot-F ((t : Knot-Source) × HasPlan knot_definitions knot_shape (knot_keys t) (knot_meaning t))) → HasPlan knot_definitions knot_shape (knot_keys (roll-Knot (map-Knot ((t : Knot-Source) × HasPlan knot_definitions knot_shape (knot_keys t) (knot_meaning t)) Knot-Source (λ e. e.0) y))) (knot_meaning (roll-Knot (map-Knot ((t : Knot-Source) × HasPlan knot_definitions knot_shape (knot_keys t) (knot_meaning t)) Knot-Source (λ e. e.0) y)))
knot_planned_layer y = planned_as (knot_has_keys_roll _) (knot_means_roll _) (record_planned knot_definitions knot_shape knot_part_definitions knot_parts _ _ knot_has_parts (part_planned no_definition (leaf (number_kind unsigned w32)) [] (number (pos y.id)) (leaf_planned no_definition _ _ [] _ refl) (part_planned knot_definitions (vec (shared rc_flavor (one knot_shape))) _ _ (vec_planned knot_definitions (shared rc_flavor (one knot_shape)) _ _ _ (run_region_planned knot_definitions (shared rc_flavor (one knot_shape)) _ _ _ (held_each_planned _ (λ y. (rc_keys y.key (one knot_shape) 0 (knot_meaning y.value.value) (knot_keys y.value.value))) (λ y. (shared_value y.key)) knot_definitions (shared rc_flavor (one knot_shape)) (λ e. (rc_one_planned knot_definitions e.key (one knot_shape) knot_shape refl _ _ e.value.value.1)) y.next.items))) no_part_planned)))

pub knot_planned : (t : Knot-Source) → HasPlan knot_definitions knot_shape (knot_keys t) (knot_meaning t)
knot_planned = ind-Knot (λ t. HasPlan knot_definitions knot_shape (knot_keys t) (knot_meaning t)) (λ x y is. subst (λ z. HasPlan knot_definitions knot_shape (knot_keys (roll-Knot z)) (knot_meaning (roll-Knot z))) is (knot_planned_layer y))
