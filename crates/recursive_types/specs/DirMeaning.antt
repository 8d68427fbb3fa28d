-- What Dir and Entry mean. Written by tools/derive: change the declaration, and run it again.
use Rattle.archive_core.specs.Definitions.{no_definition}
use Rattle.archive_core.specs.Denotes.{Naming}
use Rattle.archive_core.specs.Held.{each_mapped, each_mapped_keys, held_keyed, held_planned, variant_planned, keyed_as, planned_as}
use Rattle.archive_core.specs.Keyed.{case_keyed, record_keyed, nothing_keyed, part_keyed, number_keyed, text_keyed, box_keyed}
use Rattle.archive_core.specs.PartsPlanned.{part_planned, no_part_planned, record_planned}
use Rattle.archive_core.specs.Planned.{leaf_planned, string_planned}
use Rattle.archive_core.specs.PlannedOwners.{boxed_one_planned, vec_planned, run_region_planned}
use Rattle.archive_core.specs.Plans.{HasPlan}
use Rattle.archive_core.specs.Runs.{each_keys, each_meaning}
use Rattle.archive_core.specs.Shape.{boxed, vec, str, one, run, leaf, unsigned, variant, number as number_kind}
use Rattle.archive_core.specs.Strings.{string_flat}
use Rattle.archive_core.specs.Value.{Value, case, product, list, box, hole, number, value, no_value, text_value}
use Rattle.archive_core.specs.Writing.{IsKeyed, to_pointee}
use Rattle.recursive_types.specs.declared.dir.Dir.{Dir-F, out-Dir, roll-Dir, fold-Dir, fold-roll-Dir, ind-Dir, roll-out-Dir}
use Rattle.recursive_types.specs.declared.dir.DirResolver.{DirResolver}
use Rattle.recursive_types.specs.declared.dir.Entry.{Entry-F, out-Entry, roll-Entry, fold-Entry, fold-roll-Entry, ind-Entry, out-roll-Entry}
use Rattle.recursive_types.specs.declared.dir.Entry.TheFolds.{map-Dir, map-Entry}
use Rattle.recursive_types.specs.declared.dir.EntryResolver.{EntryResolver}
use Rattle.std.proofs.Common.{ap, subst, sym, ◌∙◌, Box, Global}
use Rattle.std.specs.Int.{w64}
use Rattle.std.specs.Prelude.{ℕ, List, [], ◌++◌, ◌≡◌, ◌≤◌, refl, pos, length, map, string_bytes, ⊤}
use Rattle.recursive_types.specs.DirShape.{dir_shape, dir_definitions, dir_parts, dir_part_definitions, dir_has_parts, entry_name, entry_shape, entry_definitions, entry_variants, entry_variant_definitions, entry_has_variants, entry_file_parts, entry_file_definitions, entry_sub_parts, entry_sub_definitions}
use Rattle.recursive_types.specs.declared.dir.Dir.{Dir as Dir-Source}
use Rattle.recursive_types.specs.declared.dir.Entry.{Entry as Entry-Source}
use Rattle.recursive_types.specs.declared.dir.Entry.TheOpen as Layer
use Rattle.recursive_types.specs.declared.dir.Entry.TheVariants as Its
use Rattle.recursive_types.specs.declared.dir.EntryResolver.TheVariants as Kept

abbrev pub dir_meaning_layer : {A B : Type 0} → (A → Value) → (B → Value) → Dir-F A B → Value
dir_meaning_layer m0 m1 t = product (value (text_value (string_bytes t.name)) (value (list (each_meaning m0 t.entries.items)) no_value))

abbrev pub entry_meaning_layer : {A B : Type 0} → (A → Value) → (B → Value) → Entry-F A B → Value
entry_meaning_layer m0 m1 (Layer.File a0) = case 0 (value (number (pos a0)) no_value)
entry_meaning_layer m0 m1 (Layer.Sub a0) = case 1 (value (box (m1 a0.value)) no_value)

pub dir_meaning : Dir-Source → Value
dir_meaning = fold-Dir Value Value (entry_meaning_layer (λ v. v) (λ v. v)) (dir_meaning_layer (λ v. v) (λ v. v))

pub entry_meaning : Entry-Source → Value
entry_meaning = fold-Entry Value Value (entry_meaning_layer (λ v. v) (λ v. v)) (dir_meaning_layer (λ v. v) (λ v. v))

pub dir_means_roll : (x : Dir-F Entry-Source Dir-Source) → dir_meaning (roll-Dir x) ≡ dir_meaning_layer entry_meaning dir_meaning x
unfolding dir_meaning entry_meaning
dir_means_roll t = fold-roll-Dir Value Value (entry_meaning_layer (λ v. v) (λ v. v)) (dir_meaning_layer (λ v. v) (λ v. v)) t ∙ ap (λ vs. product (value (text_value (string_bytes t.name)) (value (list vs) no_value))) (each_mapped entry_meaning t.entries.items)

pub dir_means : (t : Dir-Source) → dir_meaning t ≡ dir_meaning_layer entry_meaning dir_meaning (out-Dir t)
dir_means t = ap dir_meaning (sym (roll-out-Dir t)) ∙ dir_means_roll (out-Dir t)

pub entry_means_roll : (x : Entry-F Entry-Source Dir-Source) → entry_meaning (roll-Entry x) ≡ entry_meaning_layer entry_meaning dir_meaning x
unfolding dir_meaning entry_meaning
entry_means_roll (Layer.File a0) = fold-roll-Entry Value Value (entry_meaning_layer (λ v. v) (λ v. v)) (dir_meaning_layer (λ v. v) (λ v. v)) (Layer.File a0)
entry_means_roll (Layer.Sub a0) = fold-roll-Entry Value Value (entry_meaning_layer (λ v. v) (λ v. v)) (dir_meaning_layer (λ v. v) (λ v. v)) (Layer.Sub a0)

pub entry_file_means : (a0 : ℕ) → entry_meaning (Its.File a0) ≡ entry_meaning_layer entry_meaning dir_meaning (Layer.File a0)
entry_file_means a0 = ap entry_meaning (sym (Its.rolls-File a0)) ∙ entry_means_roll (Layer.File a0)

pub entry_sub_means : (a0 : (Box Dir-Source Global)) → entry_meaning (Its.Sub a0) ≡ entry_meaning_layer entry_meaning dir_meaning (Layer.Sub a0)
entry_sub_means a0 = ap entry_meaning (sym (Its.rolls-Sub a0)) ∙ entry_means_roll (Layer.Sub a0)

abbrev pub dir_keys_layer : {A B : Type 0} → (A → (List Naming)) → (B → (List Naming)) → Dir-F A B → (List Naming)
dir_keys_layer m0 m1 t = ([] ++ ((each_keys m0 t.entries.items) ++ []))

abbrev pub entry_keys_layer : {A B : Type 0} → (A → (List Naming)) → (B → (List Naming)) → Entry-F A B → (List Naming)
entry_keys_layer m0 m1 (Layer.File a0) = ([] ++ [])
entry_keys_layer m0 m1 (Layer.Sub a0) = ((m1 a0.value) ++ [])

pub dir_keys : Dir-Source → (List Naming)
dir_keys = fold-Dir (List Naming) (List Naming) (entry_keys_layer (λ v. v) (λ v. v)) (dir_keys_layer (λ v. v) (λ v. v))

pub entry_keys : Entry-Source → (List Naming)
entry_keys = fold-Entry (List Naming) (List Naming) (entry_keys_layer (λ v. v) (λ v. v)) (dir_keys_layer (λ v. v) (λ v. v))

pub dir_has_keys_roll : (x : Dir-F Entry-Source Dir-Source) → dir_keys (roll-Dir x) ≡ dir_keys_layer entry_keys dir_keys x
unfolding dir_keys entry_keys
dir_has_keys_roll t = fold-roll-Dir (List Naming) (List Naming) (entry_keys_layer (λ v. v) (λ v. v)) (dir_keys_layer (λ v. v) (λ v. v)) t ∙ ap (λ vs. ([] ++ (vs ++ []))) (each_mapped_keys entry_keys t.entries.items)

pub dir_has_keys : (t : Dir-Source) → dir_keys t ≡ dir_keys_layer entry_keys dir_keys (out-Dir t)
dir_has_keys t = ap dir_keys (sym (roll-out-Dir t)) ∙ dir_has_keys_roll (out-Dir t)

pub entry_has_keys_roll : (x : Entry-F Entry-Source Dir-Source) → entry_keys (roll-Entry x) ≡ entry_keys_layer entry_keys dir_keys x
unfolding dir_keys entry_keys
entry_has_keys_roll (Layer.File a0) = fold-roll-Entry (List Naming) (List Naming) (entry_keys_layer (λ v. v) (λ v. v)) (dir_keys_layer (λ v. v) (λ v. v)) (Layer.File a0)
entry_has_keys_roll (Layer.Sub a0) = fold-roll-Entry (List Naming) (List Naming) (entry_keys_layer (λ v. v) (λ v. v)) (dir_keys_layer (λ v. v) (λ v. v)) (Layer.Sub a0)

pub entry_file_has_keys : (a0 : ℕ) → entry_keys (Its.File a0) ≡ entry_keys_layer entry_keys dir_keys (Layer.File a0)
entry_file_has_keys a0 = ap entry_keys (sym (Its.rolls-File a0)) ∙ entry_has_keys_roll (Layer.File a0)

pub entry_sub_has_keys : (a0 : (Box Dir-Source Global)) → entry_keys (Its.Sub a0) ≡ entry_keys_layer entry_keys dir_keys (Layer.Sub a0)
entry_sub_has_keys a0 = ap entry_keys (sym (Its.rolls-Sub a0)) ∙ entry_has_keys_roll (Layer.Sub a0)

-- what is read in its place
abbrev pub dir_flat : Dir-Source → DirResolver → Value
dir_flat t r = product (value (string_flat (string_bytes (out-Dir t).name) r.kept.0) (value (hole (to_pointee r.kept.1.0 (run entry_shape) (length (out-Dir t).entries.items))) no_value))

abbrev pub dir_belongs : Dir-Source → DirResolver → Type 0
dir_belongs t r = ((length (string_bytes (out-Dir t).name) ≤ 1073741823) × ((length (out-Dir t).entries.items ≤ 4294967295) × Unit {0}))

-- what is read in its place, by the resolver of the same variant
abbrev pub entry_flat_layer : Entry-F Entry-Source Dir-Source → EntryResolver → Value
entry_flat_layer (Layer.File a0) r = elim r [ Kept.File s ↦ case 0 (value (number (pos a0)) no_value) | _ ↦ case 0 no_value ]
entry_flat_layer (Layer.Sub a0) r = elim r [ Kept.Sub s ↦ case 1 (value (box (hole (to_pointee s.0 (one dir_shape) 0))) no_value) | _ ↦ case 1 no_value ]

abbrev pub entry_flat : Entry-Source → EntryResolver → Value
entry_flat v r = entry_flat_layer (out-Entry v) r

abbrev pub entry_belongs_layer : Entry-F Entry-Source Dir-Source → EntryResolver → Type 0
entry_belongs_layer (Layer.File a0) r = elim r [ Kept.File s ↦ (⊤ × Unit {0}) | _ ↦ ⊥ ]
entry_belongs_layer (Layer.Sub a0) r = elim r [ Kept.Sub s ↦ (⊤ × Unit {0}) | _ ↦ ⊥ ]

abbrev pub entry_belongs : Entry-Source → EntryResolver → Type 0
entry_belongs v r = entry_belongs_layer (out-Entry v) r

pub entry_file_opens : (a0 : ℕ) → out-Entry (Its.File a0) ≡ (Layer.File a0)
entry_file_opens a0 = ap out-Entry (sym (Its.rolls-File a0)) ∙ out-roll-Entry (Layer.File a0)

pub entry_sub_opens : (a0 : (Box Dir-Source Global)) → out-Entry (Its.Sub a0) ≡ (Layer.Sub a0)
entry_sub_opens a0 = ap out-Entry (sym (Its.rolls-Sub a0)) ∙ out-roll-Entry (Layer.Sub a0)

dir_keyed_layer : (y : Dir-F ((t : Entry-Source) × IsKeyed (entry_keys t) (entry_meaning t)) ((t : Dir-Source) × IsKeyed (dir_keys t) (dir_meaning t))) → IsKeyed (dir_keys (roll-Dir (map-Dir ((t : Entry-Source) × IsKeyed (entry_keys t) (entry_meaning t)) ((t : Dir-Source) × IsKeyed (dir_keys t) (dir_meaning t)) Entry-Source Dir-Source (λ e. e.0) (λ e. e.0) y))) (dir_meaning (roll-Dir (map-Dir ((t : Entry-Source) × IsKeyed (entry_keys t) (entry_meaning t)) ((t : Dir-Source) × IsKeyed (dir_keys t) (dir_meaning t)) Entry-Source Dir-Source (λ e. e.0) (λ e. e.0) y)))
dir_keyed_layer y = keyed_as (dir_has_keys_roll _) (dir_means_roll _) (record_keyed (part_keyed (text_keyed (string_bytes y.name)) (part_keyed (held_keyed entry_keys entry_meaning y.entries.items) nothing_keyed)))

entry_keyed_layer : (y : Entry-F ((t : Entry-Source) × IsKeyed (entry_keys t) (entry_meaning t)) ((t : Dir-Source) × IsKeyed (dir_keys t) (dir_meaning t))) → IsKeyed (entry_keys (roll-Entry (map-Entry ((t : Entry-Source) × IsKeyed (entry_keys t) (entry_meaning t)) ((t : Dir-Source) × IsKeyed (dir_keys t) (dir_meaning t)) Entry-Source Dir-Source (λ e. e.0) (λ e. e.0) y))) (entry_meaning (roll-Entry (map-Entry ((t : Entry-Source) × IsKeyed (entry_keys t) (entry_meaning t)) ((t : Dir-Source) × IsKeyed (dir_keys t) (dir_meaning t)) Entry-Source Dir-Source (λ e. e.0) (λ e. e.0) y)))
entry_keyed_layer (Layer.File a0) = keyed_as (entry_has_keys_roll _) (entry_means_roll _) (case_keyed _ 0 _ (part_keyed (number_keyed _) nothing_keyed))
entry_keyed_layer (Layer.Sub a0) = keyed_as (entry_has_keys_roll _) (entry_means_roll _) (case_keyed _ 1 _ (part_keyed (box_keyed _ _ a0.value.1) nothing_keyed))

pub dir_keyed : (t : Dir-Source) → IsKeyed (dir_keys t) (dir_meaning t)
dir_keyed = ind-Dir (λ t. IsKeyed (entry_keys t) (entry_meaning t)) (λ t. IsKeyed (dir_keys t) (dir_meaning t)) (λ x y is. subst (λ z. IsKeyed (entry_keys (roll-Entry z)) (entry_meaning (roll-Entry z))) is (entry_keyed_layer y)) (λ x y is. subst (λ z. IsKeyed (dir_keys (roll-Dir z)) (dir_meaning (roll-Dir z))) is (dir_keyed_layer y))

pub entry_keyed : (t : Entry-Source) → IsKeyed (entry_keys t) (entry_meaning t)
entry_keyed = ind-Entry (λ t. IsKeyed (entry_keys t) (entry_meaning t)) (λ t. IsKeyed (dir_keys t) (dir_meaning t)) (λ x y is. subst (λ z. IsKeyed (entry_keys (roll-Entry z)) (entry_meaning (roll-Entry z))) is (entry_keyed_layer y)) (λ x y is. subst (λ z. IsKeyed (dir_keys (roll-Dir z)) (dir_meaning (roll-Dir z))) is (dir_keyed_layer y))

dir_planned_layer : (y : Dir-F ((t : Entry-Source) × HasPlan entry_definitions entry_shape (entry_keys t) (entry_meaning t)) ((t : Dir-Source) × HasPlan dir_definitions dir_shape (dir_keys t) (dir_meaning t))) → HasPlan dir_definitions dir_shape (dir_keys (roll-Dir (map-Dir ((t : Entry-Source) × HasPlan entry_definitions entry_shape (entry_keys t) (entry_meaning t)) ((t : Dir-Source) × HasPlan dir_definitions dir_shape (dir_keys t) (dir_meaning t)) Entry-Source Dir-Source (λ e. e.0) (λ e. e.0) y))) (dir_meaning (roll-Dir (map-Dir ((t : Entry-Source) × HasPlan entry_definitions entry_shape (entry_keys t) (entry_meaning t)) ((t : Dir-Source) × HasPlan dir_definitions dir_shape (dir_keys t) (dir_meaning t)) Entry-Source Dir-Source (λ e. e.0) (λ e. e.0) y)))
dir_planned_layer y = planned_as (dir_has_keys_roll _) (dir_means_roll _) (record_planned dir_definitions dir_shape dir_part_definitions dir_parts _ _ dir_has_parts (part_planned no_definition str [] (text_value (string_bytes y.name)) (string_planned no_definition [] (string_bytes y.name)) (part_planned dir_definitions (vec entry_shape) (each_keys entry_keys (map (λ e. e.0) y.entries.items)) (list (each_meaning entry_meaning (map (λ e. e.0) y.entries.items))) (vec_planned dir_definitions entry_shape _ _ _ (run_region_planned dir_definitions entry_shape _ _ _ (held_planned entry_keys entry_meaning dir_definitions entry_shape y.entries.items))) no_part_planned)))

entry_planned_layer : (y : Entry-F ((t : Entry-Source) × HasPlan entry_definitions entry_shape (entry_keys t) (entry_meaning t)) ((t : Dir-Source) × HasPlan dir_definitions dir_shape (dir_keys t) (dir_meaning t))) → HasPlan entry_definitions entry_shape (entry_keys (roll-Entry (map-Entry ((t : Entry-Source) × HasPlan entry_definitions entry_shape (entry_keys t) (entry_meaning t)) ((t : Dir-Source) × HasPlan dir_definitions dir_shape (dir_keys t) (dir_meaning t)) Entry-Source Dir-Source (λ e. e.0) (λ e. e.0) y))) (entry_meaning (roll-Entry (map-Entry ((t : Entry-Source) × HasPlan entry_definitions entry_shape (entry_keys t) (entry_meaning t)) ((t : Dir-Source) × HasPlan dir_definitions dir_shape (dir_keys t) (dir_meaning t)) Entry-Source Dir-Source (λ e. e.0) (λ e. e.0) y)))
entry_planned_layer (Layer.File a0) = planned_as (entry_has_keys_roll _) (entry_means_roll _) (variant_planned entry_definitions entry_shape entry_name entry_variant_definitions entry_variants entry_has_variants 0 entry_file_parts refl entry_file_definitions refl _ _ (part_planned no_definition (leaf (number_kind unsigned w64)) [] (number (pos a0)) (leaf_planned no_definition _ _ [] _ refl) no_part_planned))
entry_planned_layer (Layer.Sub a0) = planned_as (entry_has_keys_roll _) (entry_means_roll _) (variant_planned entry_definitions entry_shape entry_name entry_variant_definitions entry_variants entry_has_variants 1 entry_sub_parts refl entry_sub_definitions refl _ _ (part_planned entry_definitions (boxed (one dir_shape)) (dir_keys a0.value.0) (box (dir_meaning a0.value.0)) (boxed_one_planned entry_definitions (one dir_shape) dir_shape refl _ _ a0.value.1) no_part_planned))

pub dir_planned : (t : Dir-Source) → HasPlan dir_definitions dir_shape (dir_keys t) (dir_meaning t)
dir_planned = ind-Dir (λ t. HasPlan entry_definitions entry_shape (entry_keys t) (entry_meaning t)) (λ t. HasPlan dir_definitions dir_shape (dir_keys t) (dir_meaning t)) (λ x y is. subst (λ z. HasPlan entry_definitions entry_shape (entry_keys (roll-Entry z)) (entry_meaning (roll-Entry z))) is (entry_planned_layer y)) (λ x y is. subst (λ z. HasPlan dir_definitions dir_shape (dir_keys (roll-Dir z)) (dir_meaning (roll-Dir z))) is (dir_planned_layer y))

pub entry_planned : (t : Entry-Source) → HasPlan entry_definitions entry_shape (entry_keys t) (entry_meaning t)
entry_planned = ind-Entry (λ t. HasPlan entry_definitions entry_shape (entry_keys t) (entry_meaning t)) (λ t. HasPlan dir_definitions dir_shape (dir_keys t) (dir_meaning t)) (λ x y is. subst (λ z. HasPlan entry_definitions entry_shape (entry_keys (roll-Entry z)) (entry_meaning (roll-Entry z))) is (entry_planned_layer y)) (λ x y is. subst (λ z. HasPlan dir_definitions dir_shape (dir_keys (roll-Dir z)) (dir_meaning (roll-Dir z))) is (dir_planned_layer y))
