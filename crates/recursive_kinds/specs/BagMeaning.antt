-- What Bag means. Written by tools/derive: change the declaration, and run it again.
use Rattle.archive_core.specs.Choices.{option_shape}
use Rattle.archive_core.specs.Denotes.{Naming}
use Rattle.archive_core.specs.Held.{held_keyed, held_planned, keyed_as, planned_as}
use Rattle.archive_core.specs.HeldLists.{each_alike, each_alike_keys}
use Rattle.archive_core.specs.HeldOptions.{none_keyed, some_keyed, none_planned, some_planned}
use Rattle.archive_core.specs.Hollow.{option_at}
use Rattle.archive_core.specs.Keyed.{record_keyed, nothing_keyed, part_keyed, box_keyed}
use Rattle.archive_core.specs.Options.{option_keys, option_meaning}
use Rattle.archive_core.specs.PartsPlanned.{part_planned, no_part_planned, record_planned}
use Rattle.archive_core.specs.PlannedOwners.{boxed_one_planned, run_region_planned}
use Rattle.archive_core.specs.Plans.{HasPlan}
use Rattle.archive_core.specs.Runs.{each_keys, each_meaning}
use Rattle.archive_core.specs.Shape.{boxed, shared, one, run, Pointee}
use Rattle.archive_core.specs.SharedSources.{rc_flavor, rc_flat, rc_keys, rc_keyed, rc_planned}
use Rattle.archive_core.specs.Value.{Value, case, product, list, box, value, no_value, shared_value}
use Rattle.archive_core.specs.Variants.{case_of}
use Rattle.archive_core.specs.Writing.{IsKeyed}
use Rattle.archive_core.specs.declared.rc.sources.long.SharedSlice.{SharedSlice}
use Rattle.recursive_kinds.specs.declared.bag.Bag.{Bag-F, out-Bag, roll-Bag, fold-Bag, fold-roll-Bag, ind-Bag, roll-out-Bag}
use Rattle.recursive_kinds.specs.declared.bag.Bag.TheFolds.{map-Bag}
use Rattle.recursive_kinds.specs.declared.bag.BagResolver.{BagResolver}
use Rattle.std.proofs.Common.{ap, subst, sym, ◌∙◌, Box, Global}
use Rattle.std.proofs.lemmas.List.{length-map}
use Rattle.std.specs.Prelude.{ℕ, List, [], ◌++◌, ◌≡◌, ◌≤◌, refl, length, map, ⊤, Option, None, Some}
use Rattle.recursive_kinds.specs.BagShape.{bag_shape, bag_definitions, bag_parts, bag_part_definitions, bag_has_parts}
use Rattle.recursive_kinds.specs.declared.bag.Bag.{Bag as Bag-Source}

-- The keys of a shared slice in a layer, whose elements were mapped before.
slice_alike : {A B : Type 0} (g : A → B) (m : B → Value) (n : A → Value) (k : B → List Naming) (l : A → List Naming) → ((x : A) → m (g x) ≡ n x) → ((x : A) → k (g x) ≡ l x) → (key : ℕ) (P : Pointee) (xs : List A)
    → rc_keys key P (length (map g xs)) (list (each_meaning m (map g xs))) (each_keys k (map g xs)) ≡ rc_keys key P (length xs) (list (each_meaning n xs)) (each_keys l xs)
slice_alike g m n k l same alike key P xs =
    ap (λ c. rc_keys key P c (list (each_meaning m (map g xs))) (each_keys k (map g xs))) (length-map xs g)
    ∙ ap (λ vs. rc_keys key P (length xs) (list vs) (each_keys k (map g xs))) (each_alike g m n same xs)
    ∙ ap (λ ks. rc_keys key P (length xs) (list (each_meaning n xs)) ks) (each_alike_keys g k l alike xs)

abbrev pub bag_meaning_layer : {A : Type 0} → (A → Value) → Bag-F A → Value
bag_meaning_layer m t = product (value (option_meaning (λ y. (box (m y.value))) t.top) (value (shared_value t.inside.key) no_value))

abbrev pub bag_keys_layer : {A : Type 0} → (A → Value) → (A → (List Naming)) → Bag-F A → (List Naming)
bag_keys_layer m k t = ((option_keys (λ y. (k y.value)) t.top) ++ ((rc_keys t.inside.key (run bag_shape) (length t.inside.value.items.value.items) (list (each_meaning m t.inside.value.items.value.items)) (each_keys k t.inside.value.items.value.items)) ++ []))

abbrev pub bag_both_layer : {A : Type 0} → (A → (Value × (List Naming))) → Bag-F A → (Value × (List Naming))
bag_both_layer p t = (bag_meaning_layer (λ v. (p v).0) t, bag_keys_layer (λ v. (p v).0) (λ v. (p v).1) t)

pub bag_both : Bag-Source → (Value × (List Naming))
bag_both = fold-Bag (Value × (List Naming)) (bag_both_layer (λ v. v))

pub bag_meaning : Bag-Source → Value
bag_meaning t = (bag_both t).0

bag_means_at : (a0 : (Option (Box Bag-Source Global))) (a1 : (SharedSlice Bag-Source)) → bag_meaning (roll-Bag (record { top = a0; inside = a1 })) ≡ bag_meaning_layer bag_meaning (record { top = a0; inside = a1 })
unfolding bag_both bag_meaning
bag_means_at None a1 = ap (λ (p : (Value × (List Naming))). p.0) (fold-roll-Bag (Value × (List Naming)) (bag_both_layer (λ v. v)) (record { top = None; inside = a1 }))
bag_means_at (Some a0) a1 = ap (λ (p : (Value × (List Naming))). p.0) (fold-roll-Bag (Value × (List Naming)) (bag_both_layer (λ v. v)) (record { top = (Some a0); inside = a1 }))

pub bag_means_roll : (x : Bag-F Bag-Source) → bag_meaning (roll-Bag x) ≡ bag_meaning_layer bag_meaning x
bag_means_roll x = bag_means_at x.top x.inside

pub bag_means : (t : Bag-Source) → bag_meaning t ≡ bag_meaning_layer bag_meaning (out-Bag t)
bag_means t = ap bag_meaning (sym (roll-out-Bag t)) ∙ bag_means_roll (out-Bag t)

pub bag_keys : Bag-Source → (List Naming)
bag_keys t = (bag_both t).1

bag_has_keys_at : (a0 : (Option (Box Bag-Source Global))) (a1 : (SharedSlice Bag-Source)) → bag_keys (roll-Bag (record { top = a0; inside = a1 })) ≡ bag_keys_layer bag_meaning bag_keys (record { top = a0; inside = a1 })
unfolding bag_both bag_meaning bag_keys
bag_has_keys_at None a1 = ap (λ (p : (Value × (List Naming))). p.1) (fold-roll-Bag (Value × (List Naming)) (bag_both_layer (λ v. v)) (record { top = None; inside = a1 })) ∙ ap (λ vs. ((option_keys (λ (y : (Box Bag-Source Global)). (bag_keys y.value)) None) ++ (vs ++ []))) (slice_alike _ (λ (y : (Value × (List Naming))). y.0) bag_meaning (λ (y : (Value × (List Naming))). y.1) bag_keys (λ x. refl) (λ x. refl) a1.key (run bag_shape) a1.value.items.value.items)
bag_has_keys_at (Some a0) a1 = ap (λ (p : (Value × (List Naming))). p.1) (fold-roll-Bag (Value × (List Naming)) (bag_both_layer (λ v. v)) (record { top = (Some a0); inside = a1 })) ∙ ap (λ vs. ((option_keys (λ (y : (Box Bag-Source Global)). (bag_keys y.value)) (Some a0)) ++ (vs ++ []))) (slice_alike _ (λ (y : (Value × (List Naming))). y.0) bag_meaning (λ (y : (Value × (List Naming))). y.1) bag_keys (λ x. refl) (λ x. refl) a1.key (run bag_shape) a1.value.items.value.items)

pub bag_has_keys_roll : (x : Bag-F Bag-Source) → bag_keys (roll-Bag x) ≡ bag_keys_layer bag_meaning bag_keys x
bag_has_keys_roll x = bag_has_keys_at x.top x.inside

pub bag_has_keys : (t : Bag-Source) → bag_keys t ≡ bag_keys_layer bag_meaning bag_keys (out-Bag t)
bag_has_keys t = ap bag_keys (sym (roll-out-Bag t)) ∙ bag_has_keys_roll (out-Bag t)

-- what is read in its place
abbrev pub bag_flat : Bag-Source → BagResolver → Value
bag_flat t r = product (value (option_at (one bag_shape) r.kept.0) (value (rc_flat r.kept.1.0 (run bag_shape) (length (out-Bag t).inside.value.items.value.items)) no_value))

abbrev pub bag_belongs : Bag-Source → BagResolver → Type 0
bag_belongs t r = (⊤ × ((length (out-Bag t).inside.value.items.value.items ≤ 4294967295) × Unit {0}))

bag_keyed_at : (a0 : (Option (Box ((t : Bag-Source) × IsKeyed (bag_keys t) (bag_meaning t)) Global))) (a1 : (SharedSlice ((t : Bag-Source) × IsKeyed (bag_keys t) (bag_meaning t)))) → IsKeyed (bag_keys (roll-Bag (map-Bag ((t : Bag-Source) × IsKeyed (bag_keys t) (bag_meaning t)) Bag-Source (λ e. e.0) (record { top = a0; inside = a1 })))) (bag_meaning (roll-Bag (map-Bag ((t : Bag-Source) × IsKeyed (bag_keys t) (bag_meaning t)) Bag-Source (λ e. e.0) (record { top = a0; inside = a1 }))))
bag_keyed_at None a1 = keyed_as (bag_has_keys_roll _) (bag_means_roll _) (record_keyed (part_keyed none_keyed (part_keyed (rc_keyed a1.key (run bag_shape) _ _ _ (held_keyed bag_keys bag_meaning a1.value.items.value.items)) nothing_keyed)))
bag_keyed_at (Some a0) a1 = keyed_as (bag_has_keys_roll _) (bag_means_roll _) (record_keyed (part_keyed (some_keyed _ _ (box_keyed _ _ a0.value.1)) (part_keyed (rc_keyed a1.key (run bag_shape) _ _ _ (held_keyed bag_keys bag_meaning a1.value.items.value.items)) nothing_keyed)))

bag_keyed_layer : (y : Bag-F ((t : Bag-Source) × IsKeyed (bag_keys t) (bag_meaning t))) → IsKeyed (bag_keys (roll-Bag (map-Bag ((t : Bag-Source) × IsKeyed (bag_keys t) (bag_meaning t)) Bag-Source (λ e. e.0) y))) (bag_meaning (roll-Bag (map-Bag ((t : Bag-Source) × IsKeyed (bag_keys t) (bag_meaning t)) Bag-Source (λ e. e.0) y)))
bag_keyed_layer y = bag_keyed_at y.top y.inside

pub bag_keyed : (t : Bag-Source) → IsKeyed (bag_keys t) (bag_meaning t)
bag_keyed = ind-Bag (λ t. IsKeyed (bag_keys t) (bag_meaning t)) (λ x y is. subst (λ z. IsKeyed (bag_keys (roll-Bag z)) (bag_meaning (roll-Bag z))) is (bag_keyed_layer y))

bag_planned_at : (a0 : (Option (Box ((t : Bag-Source) × HasPlan bag_definitions bag_shape (bag_keys t) (bag_meaning t)) Global))) (a1 : (SharedSlice ((t : Bag-Source) × HasPlan bag_definitions bag_shape (bag_keys t) (bag_meaning t)))) → HasPlan bag_definitions bag_shape (bag_keys (roll-Bag (map-Bag ((t : Bag-Source) × HasPlan bag_definitions bag_shape (bag_keys t) (bag_meaning t)) Bag-Source (λ e. e.0) (record { top = a0; inside = a1 })))) (bag_meaning (roll-Bag (map-Bag ((t : Bag-Source) × HasPlan bag_definitions bag_shape (bag_keys t) (bag_meaning t)) Bag-Source (λ e. e.0) (record { top = a0; inside = a1 }))))
bag_planned_at None a1 = planned_as (bag_has_keys_roll _) (bag_means_roll _) (record_planned bag_definitions bag_shape bag_part_definitions bag_parts _ _ bag_has_parts (part_planned bag_definitions (option_shape (boxed (one bag_shape))) [] (case 0 no_value) (none_planned bag_definitions (boxed (one bag_shape))) (part_planned bag_definitions (shared rc_flavor (run bag_shape)) (rc_keys a1.key (run bag_shape) (length (map (λ e. e.0) a1.value.items.value.items)) (list (each_meaning bag_meaning (map (λ e. e.0) a1.value.items.value.items))) (each_keys bag_keys (map (λ e. e.0) a1.value.items.value.items))) (shared_value a1.key) (rc_planned bag_definitions a1.key (run bag_shape) _ _ _ (run_region_planned bag_definitions bag_shape _ _ _ (held_planned bag_keys bag_meaning bag_definitions bag_shape a1.value.items.value.items))) no_part_planned)))
bag_planned_at (Some a0) a1 = planned_as (bag_has_keys_roll _) (bag_means_roll _) (record_planned bag_definitions bag_shape bag_part_definitions bag_parts _ _ bag_has_parts (part_planned bag_definitions (option_shape (boxed (one bag_shape))) (bag_keys a0.value.0) (case_of 1 (box (bag_meaning a0.value.0))) (some_planned bag_definitions (boxed (one bag_shape)) _ _ (boxed_one_planned bag_definitions (one bag_shape) bag_shape refl _ _ a0.value.1)) (part_planned bag_definitions (shared rc_flavor (run bag_shape)) (rc_keys a1.key (run bag_shape) (length (map (λ e. e.0) a1.value.items.value.items)) (list (each_meaning bag_meaning (map (λ e. e.0) a1.value.items.value.items))) (each_keys bag_keys (map (λ e. e.0) a1.value.items.value.items))) (shared_value a1.key) (rc_planned bag_definitions a1.key (run bag_shape) _ _ _ (run_region_planned bag_definitions bag_shape _ _ _ (held_planned bag_keys bag_meaning bag_definitions bag_shape a1.value.items.value.items))) no_part_planned)))

bag_planned_layer : (y : Bag-F ((t : Bag-Source) × HasPlan bag_definitions bag_shape (bag_keys t) (bag_meaning t))) → HasPlan bag_definitions bag_shape (bag_keys (roll-Bag (map-Bag ((t : Bag-Source) × HasPlan bag_definitions bag_shape (bag_keys t) (bag_meaning t)) Bag-Source (λ e. e.0) y))) (bag_meaning (roll-Bag (map-Bag ((t : Bag-Source) × HasPlan bag_definitions bag_shape (bag_keys t) (bag_meaning t)) Bag-Source (λ e. e.0) y)))
bag_planned_layer y = bag_planned_at y.top y.inside

pub bag_planned : (t : Bag-Source) → HasPlan bag_definitions bag_shape (bag_keys t) (bag_meaning t)
bag_planned = ind-Bag (λ t. HasPlan bag_definitions bag_shape (bag_keys t) (bag_meaning t)) (λ x y is. subst (λ z. HasPlan bag_definitions bag_shape (bag_keys (roll-Bag z)) (bag_meaning (roll-Bag z))) is (bag_planned_layer y))
