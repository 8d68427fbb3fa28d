-- What Folder means. Written by tools/derive: change the declaration, and run it again.
use Rattle.archive_core.specs.Definitions.{no_definition}
use Rattle.archive_core.specs.Denotes.{Naming}
use Rattle.archive_core.specs.Held.{keyed_as, planned_as}
use Rattle.archive_core.specs.HeldLists.{each_alike, each_alike_keys, held_each_keyed, held_each_planned}
use Rattle.archive_core.specs.Keyed.{record_keyed, nothing_keyed, part_keyed, number_keyed, text_keyed}
use Rattle.archive_core.specs.PartsPlanned.{part_planned, no_part_planned, product_planned, record_planned}
use Rattle.archive_core.specs.Planned.{leaf_planned, string_planned}
use Rattle.archive_core.specs.PlannedMaps.{map_planned}
use Rattle.archive_core.specs.PlannedOwners.{run_region_planned}
use Rattle.archive_core.specs.Plans.{HasPlan}
use Rattle.archive_core.specs.Runs.{each_keys, each_meaning}
use Rattle.archive_core.specs.Shape.{sorted_map, str, leaf, unsigned, str_key, number as number_kind}
use Rattle.archive_core.specs.Value.{Value, product, list, number, value, no_value, text_value}
use Rattle.archive_core.specs.Writing.{IsKeyed, map_flat}
use Rattle.recursive_fields.specs.declared.folder.Folder.{Folder-F, out-Folder, roll-Folder, fold-Folder, fold-roll-Folder, ind-Folder, roll-out-Folder}
use Rattle.recursive_fields.specs.declared.folder.Folder.TheFolds.{map-Folder}
use Rattle.recursive_fields.specs.declared.folder.FolderResolver.{FolderResolver}
use Rattle.std.proofs.Common.{ap, subst, sym, ◌∙◌, Global, String}
use Rattle.std.specs.BTreeMap.{btree_map_len}
use Rattle.std.specs.Int.{w8}
use Rattle.std.specs.Prelude.{List, [], ◌++◌, ◌≡◌, ◌≤◌, refl, pos, string_bytes, ⊤}
use Rattle.recursive_fields.specs.FolderShape.{folder_shape, folder_definitions, pair_string_folder_shape, pair_string_folder_definitions, folder_parts, folder_part_definitions, folder_has_parts}
use Rattle.recursive_fields.specs.declared.folder.Folder.{Folder as Folder-Source}

abbrev pub folder_meaning_layer : {A : Type 0} → (A → Value) → Folder-F A → Value
folder_meaning_layer m t = product (value (number (pos t.id)) (value (list (each_meaning (λ y. (product (value (text_value (string_bytes y.0)) (value (m y.1) no_value)))) t.entries.entries)) no_value))

pub folder_meaning : Folder-Source → Value
folder_meaning = fold-Folder Value (folder_meaning_layer (λ v. v))

pub folder_means_roll : (x : Folder-F Folder-Source) → folder_meaning (roll-Folder x) ≡ folder_meaning_layer folder_meaning x
unfolding folder_meaning
folder_means_roll t = fold-roll-Folder Value (folder_meaning_layer (λ v. v)) t ∙ ap (λ vs. product (value (number (pos t.id)) (value (list vs) no_value))) (each_alike _ (λ (y : ((String Global) × Value)). (product (value (text_value (string_bytes y.0)) (value (y.1) no_value)))) (λ (y : ((String Global) × Folder-Source)). (product (value (text_value (string_bytes y.0)) (value (folder_meaning y.1) no_value)))) (λ x. refl) t.entries.entries)

pub folder_means : (t : Folder-Source) → folder_meaning t ≡ folder_meaning_layer folder_meaning (out-Folder t)
folder_means t = ap folder_meaning (sym (roll-out-Folder t)) ∙ folder_means_roll (out-Folder t)

abbrev pub folder_keys_layer : {A : Type 0} → (A → (List Naming)) → Folder-F A → (List Naming)
folder_keys_layer m t = ([] ++ ((each_keys (λ y. ([] ++ ((m y.1) ++ []))) t.entries.entries) ++ []))

pub folder_keys : Folder-Source → (List Naming)
folder_keys = fold-Folder (List Naming) (folder_keys_layer (λ v. v))

pub folder_has_keys_roll : (x : Folder-F Folder-Source) → folder_keys (roll-Folder x) ≡ folder_keys_layer folder_keys x
unfolding folder_keys
folder_has_keys_roll t = fold-roll-Folder (List Naming) (folder_keys_layer (λ v. v)) t ∙ ap (λ vs. ([] ++ (vs ++ []))) (each_alike_keys _ (λ (y : ((String Global) × (List Naming))). ([] ++ ((y.1) ++ []))) (λ (y : ((String Global) × Folder-Source)). ([] ++ ((folder_keys y.1) ++ []))) (λ x. refl) t.entries.entries)

pub folder_has_keys : (t : Folder-Source) → folder_keys t ≡ folder_keys_layer folder_keys (out-Folder t)
folder_has_keys t = ap folder_keys (sym (roll-out-Folder t)) ∙ folder_has_keys_roll (out-Folder t)

-- what is read in its place
abbrev pub folder_flat : Folder-Source → FolderResolver → Value
folder_flat t r = product (value (number (pos (out-Folder t).id)) (value (map_flat str_key folder_shape (btree_map_len (out-Folder t).entries) r.kept.1.0) no_value))

abbrev pub folder_belongs : Folder-Source → FolderResolver → Type 0
folder_belongs t r = (⊤ × ((btree_map_len (out-Folder t).entries ≤ 4294967295) × Unit {0}))

abbrev pub pair_string_folder_meaning : ((String Global) × Folder-Source) → Value
pair_string_folder_meaning t = (product (value (text_value (string_bytes t.0)) (value (folder_meaning t.1) no_value)))

abbrev pub pair_string_folder_keys : ((String Global) × Folder-Source) → (List Naming)
pair_string_folder_keys t = ([] ++ ((folder_keys t.1) ++ []))

folder_keyed_layer : (y : Folder-F ((t : Folder-Source) × IsKeyed (folder_keys t) (folder_meaning t))) → IsKeyed (folder_keys (roll-Folder (map-Folder ((t : Folder-Source) × IsKeyed (folder_keys t) (folder_meaning t)) Folder-Source (λ e. e.0) y))) (folder_meaning (roll-Folder (map-Folder ((t : Folder-Source) × IsKeyed (folder_keys t) (folder_meaning t)) Folder-Source (λ e. e.0) y)))
folder_keyed_layer y = keyed_as (folder_has_keys_roll _) (folder_means_roll _) (record_keyed (part_keyed (number_keyed _) (part_keyed (held_each_keyed _ (λ y. ([] ++ ((folder_keys y.1) ++ []))) (λ y. (product (value (text_value (string_bytes y.0)) (value (folder_meaning y.1) no_value)))) (λ e. (record_keyed (part_keyed (text_keyed (string_bytes e.0)) (part_keyed e.1.1 nothing_keyed)))) y.entries.entries) nothing_keyed)))

pub folder_keyed : (t : Folder-Source) → IsKeyed (folder_keys t) (folder_meaning t)
folder_keyed = ind-Folder (λ t. IsKeyed (folder_keys t) (folder_meaning t)) (λ x y is. subst (λ z. IsKeyed (folder_keys (roll-Folder z)) (folder_meaning (roll-Folder z))) is (folder_keyed_layer y))

folder_planned_layer : (y : Folder-F ((t : Folder-Source) × HasPlan folder_definitions folder_shape (folder_keys t) (folder_meaning t))) → HasPlan folder_definitions folder_shape (folder_keys (roll-Folder (map-Folder ((t : Folder-Source) × HasPlan folder_definitions folder_shape (folder_keys t) (folder_meaning t)) Folder-Source (λ e. e.0) y))) (folder_meaning (roll-Folder (map-Folder ((t : Folder-Source) × HasPlan folder_definitions folder_shape (folder_keys t) (folder_meaning t)) Folder-Source (λ e. e.0) y)))
folder_planned_layer y = planned_as (folder_has_keys_roll _) (folder_means_roll _) (record_planned folder_definitions folder_shape folder_part_definitions folder_parts _ _ folder_has_parts (part_planned no_definition (leaf (number_kind unsigned w8)) [] (number (pos y.id)) (leaf_planned no_definition _ _ [] _ refl) (part_planned pair_string_folder_definitions (sorted_map str_key folder_shape) _ _ (map_planned pair_string_folder_definitions str_key folder_shape _ _ _ (run_region_planned pair_string_folder_definitions pair_string_folder_shape _ _ _ (held_each_planned _ (λ y. ([] ++ ((folder_keys y.1) ++ []))) (λ y. (product (value (text_value (string_bytes y.0)) (value (folder_meaning y.1) no_value)))) pair_string_folder_definitions pair_string_folder_shape (λ e. (product_planned _ _ _ _ (part_planned no_definition str [] (text_value (string_bytes e.0)) (string_planned no_definition [] (string_bytes e.0)) (part_planned folder_definitions folder_shape (folder_keys e.1.0) (folder_meaning e.1.0) e.1.1 no_part_planned)))) y.entries.entries))) no_part_planned)))

pub folder_planned : (t : Folder-Source) → HasPlan folder_definitions folder_shape (folder_keys t) (folder_meaning t)
folder_planned = ind-Folder (λ t. HasPlan folder_definitions folder_shape (folder_keys t) (folder_meaning t)) (λ x y is. subst (λ z. HasPlan folder_definitions folder_shape (folder_keys (roll-Folder z)) (folder_meaning (roll-Folder z))) is (folder_planned_layer y))
