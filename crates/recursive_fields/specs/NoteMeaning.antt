-- What Note means. Written by tools/derive: change the declaration, and run it again.
use Rattle.archive_core.specs.Choices.{option_shape}
use Rattle.archive_core.specs.Definitions.{both, no_definition}
use Rattle.archive_core.specs.Denotes.{Naming}
use Rattle.archive_core.specs.Digits.{bool_byte}
use Rattle.archive_core.specs.Held.{each_mapped, each_mapped_keys, held_keyed, held_planned, variant_planned, keyed_as, planned_as}
use Rattle.archive_core.specs.HeldLists.{each_alike, each_alike_keys, held_each_keyed, held_each_planned}
use Rattle.archive_core.specs.Keyed.{each_keyed, case_keyed, record_keyed, nothing_keyed, part_keyed, number_keyed, text_keyed, box_keyed}
use Rattle.archive_core.specs.MapPairs.{pair_meaning, pair_keys}
use Rattle.archive_core.specs.Options.{option_keys, option_meaning, option_keyed, option_planned}
use Rattle.archive_core.specs.PartsPlanned.{part_planned, no_part_planned, product_planned}
use Rattle.archive_core.specs.Planned.{leaf_planned, string_planned}
use Rattle.archive_core.specs.PlannedMaps.{pairs_keyed, map_of_pairs_planned}
use Rattle.archive_core.specs.PlannedOwners.{boxed_one_planned, vec_planned, run_region_planned, slice_planned}
use Rattle.archive_core.specs.Plans.{HasPlan}
use Rattle.archive_core.specs.Runs.{each_keys, each_meaning}
use Rattle.archive_core.specs.Shape.{boxed, vec, sorted_map, str, one, run, leaf, bool, unsigned, signed, leaf_key, variant, number as number_kind}
use Rattle.archive_core.specs.Strings.{string_flat}
use Rattle.archive_core.specs.Value.{Value, case, product, list, box, hole, number, value, no_value, text_value}
use Rattle.archive_core.specs.Writing.{IsKeyed, to_pointee, map_flat}
use Rattle.recursive_fields.specs.declared.note.Note.{Note-F, out-Note, roll-Note, fold-Note, fold-roll-Note, ind-Note, out-roll-Note}
use Rattle.recursive_fields.specs.declared.note.Note.TheFolds.{map-Note}
use Rattle.recursive_fields.specs.declared.note.NoteResolver.{NoteResolver}
use Rattle.std.proofs.Common.{ap, subst, sym, ◌∙◌, ℤ, Box, Global, String, Vec, BTreeMap}
use Rattle.std.specs.BTreeMap.{btree_map_len}
use Rattle.std.specs.Int.{w8, w16}
use Rattle.std.specs.Prelude.{ℕ, List, [], ◌++◌, ◌≡◌, ◌≤◌, refl, pos, length, map, string_bytes, ⊤, Option, Bool}
use Rattle.recursive_fields.specs.NoteShape.{note_name, note_shape, note_definitions, tuple3_string_note_option_string_shape, tuple3_string_note_option_string_definitions, note_variants, note_variant_definitions, note_has_variants, note_text_parts, note_text_definitions, note_work_parts, note_work_definitions, note_table_parts, note_table_definitions, note_done_parts, note_done_definitions, note_days_parts, note_days_definitions, note_about_parts, note_about_definitions, note_either_parts, note_either_definitions, note_several_parts, note_several_definitions}
use Rattle.recursive_fields.specs.declared.note.Note.{Note as Note-Source}
use Rattle.recursive_fields.specs.declared.note.Note.TheOpen as Layer
use Rattle.recursive_fields.specs.declared.note.Note.TheVariants as Its
use Rattle.recursive_fields.specs.declared.note.NoteResolver.TheVariants as Kept

abbrev pub note_meaning_layer : {A : Type 0} → (A → Value) → Note-F A → Value
note_meaning_layer m (Layer.Text a0) = case 0 (value (text_value (string_bytes a0)) no_value)
note_meaning_layer m (Layer.Work a0) = case 1 (value (list (each_meaning (pair_meaning (λ y. (number (pos y))) (λ y. (number y))) a0.entries)) no_value)
note_meaning_layer m (Layer.Table a0) = case 2 (value (list (each_meaning (λ y. (product (value (text_value (string_bytes y.0)) (value (m y.1) (value (option_meaning (λ y. (text_value (string_bytes y))) y.2) no_value))))) a0.items)) no_value)
note_meaning_layer m (Layer.Done a0) = case 3 (value (number (pos (bool_byte a0))) no_value)
note_meaning_layer m (Layer.Days a0) = case 4 (value (list (each_meaning (λ y. (number (pos y))) a0.items)) no_value)
note_meaning_layer m (Layer.About a0) = case 5 (value (box (m a0.value)) no_value)
note_meaning_layer m (Layer.Either a0 a1) = case 6 (value (box (m a0.value)) (value (box (m a1.value)) no_value))
note_meaning_layer m (Layer.Several a0) = case 7 (value (list (each_meaning m a0.items)) no_value)

pub note_meaning : Note-Source → Value
note_meaning = fold-Note Value (note_meaning_layer (λ v. v))

pub note_means_roll : (x : Note-F Note-Source) → note_meaning (roll-Note x) ≡ note_meaning_layer note_meaning x
unfolding note_meaning
note_means_roll (Layer.Text a0) = fold-roll-Note Value (note_meaning_layer (λ v. v)) (Layer.Text a0)
note_means_roll (Layer.Work a0) = fold-roll-Note Value (note_meaning_layer (λ v. v)) (Layer.Work a0)
note_means_roll (Layer.Table a0) = fold-roll-Note Value (note_meaning_layer (λ v. v)) (Layer.Table a0) ∙ ap (λ vs. case 2 (value (list vs) no_value)) (each_alike _ (λ (y : ((String Global) × Value × (Option (String Global)))). (product (value (text_value (string_bytes y.0)) (value (y.1) (value (option_meaning (λ y. (text_value (string_bytes y))) y.2) no_value))))) (λ (y : ((String Global) × Note-Source × (Option (String Global)))). (product (value (text_value (string_bytes y.0)) (value (note_meaning y.1) (value (option_meaning (λ y. (text_value (string_bytes y))) y.2) no_value))))) (λ x. refl) a0.items)
note_means_roll (Layer.Done a0) = fold-roll-Note Value (note_meaning_layer (λ v. v)) (Layer.Done a0)
note_means_roll (Layer.Days a0) = fold-roll-Note Value (note_meaning_layer (λ v. v)) (Layer.Days a0)
note_means_roll (Layer.About a0) = fold-roll-Note Value (note_meaning_layer (λ v. v)) (Layer.About a0)
note_means_roll (Layer.Either a0 a1) = fold-roll-Note Value (note_meaning_layer (λ v. v)) (Layer.Either a0 a1)
note_means_roll (Layer.Several a0) = fold-roll-Note Value (note_meaning_layer (λ v. v)) (Layer.Several a0) ∙ ap (λ vs. case 7 (value (list vs) no_value)) (each_mapped note_meaning a0.items)

pub note_text_means : (a0 : (String Global)) → note_meaning (Its.Text a0) ≡ note_meaning_layer note_meaning (Layer.Text a0)
note_text_means a0 = ap note_meaning (sym (Its.rolls-Text a0)) ∙ note_means_roll (Layer.Text a0)

pub note_work_means : (a0 : (BTreeMap ℕ ℤ)) → note_meaning (Its.Work a0) ≡ note_meaning_layer note_meaning (Layer.Work a0)
note_work_means a0 = ap note_meaning (sym (Its.rolls-Work a0)) ∙ note_means_roll (Layer.Work a0)

pub note_table_means : (a0 : (Vec ((String Global) × Note-Source × (Option (String Global))) Global)) → note_meaning (Its.Table a0) ≡ note_meaning_layer note_meaning (Layer.Table a0)
note_table_means a0 = ap note_meaning (sym (Its.rolls-Table a0)) ∙ note_means_roll (Layer.Table a0)

pub note_done_means : (a0 : Bool) → note_meaning (Its.Done a0) ≡ note_meaning_layer note_meaning (Layer.Done a0)
note_done_means a0 = ap note_meaning (sym (Its.rolls-Done a0)) ∙ note_means_roll (Layer.Done a0)

pub note_days_means : (a0 : (Vec ℕ Global)) → note_meaning (Its.Days a0) ≡ note_meaning_layer note_meaning (Layer.Days a0)
note_days_means a0 = ap note_meaning (sym (Its.rolls-Days a0)) ∙ note_means_roll (Layer.Days a0)

pub note_about_means : (a0 : (Box Note-Source Global)) → note_meaning (Its.About a0) ≡ note_meaning_layer note_meaning (Layer.About a0)
note_about_means a0 = ap note_meaning (sym (Its.rolls-About a0)) ∙ note_means_roll (Layer.About a0)

pub note_either_means : (a0 : (Box Note-Source Global)) (a1 : (Box Note-Source Global)) → note_meaning (Its.Either a0 a1) ≡ note_meaning_layer note_meaning (Layer.Either a0 a1)
note_either_means a0 a1 = ap note_meaning (sym (Its.rolls-Either a0 a1)) ∙ note_means_roll (Layer.Either a0 a1)

pub note_several_means : (a0 : (Vec Note-Source Global)) → note_meaning (Its.Several a0) ≡ note_meaning_layer note_meaning (Layer.Several a0)
note_several_means a0 = ap note_meaning (sym (Its.rolls-Several a0)) ∙ note_means_roll (Layer.Several a0)

abbrev pub note_keys_layer : {A : Type 0} → (A → (List Naming)) → Note-F A → (List Naming)
note_keys_layer m (Layer.Text a0) = ([] ++ [])
note_keys_layer m (Layer.Work a0) = ((each_keys (pair_keys (λ y. []) (λ y. [])) a0.entries) ++ [])
note_keys_layer m (Layer.Table a0) = ((each_keys (λ y. ([] ++ ((m y.1) ++ ((option_keys (λ y. []) y.2) ++ [])))) a0.items) ++ [])
note_keys_layer m (Layer.Done a0) = ([] ++ [])
note_keys_layer m (Layer.Days a0) = ((each_keys (λ y. []) a0.items) ++ [])
note_keys_layer m (Layer.About a0) = ((m a0.value) ++ [])
note_keys_layer m (Layer.Either a0 a1) = ((m a0.value) ++ ((m a1.value) ++ []))
note_keys_layer m (Layer.Several a0) = ((each_keys m a0.items) ++ [])

pub note_keys : Note-Source → (List Naming)
note_keys = fold-Note (List Naming) (note_keys_layer (λ v. v))

pub note_has_keys_roll : (x : Note-F Note-Source) → note_keys (roll-Note x) ≡ note_keys_layer note_keys x
unfolding note_keys
note_has_keys_roll (Layer.Text a0) = fold-roll-Note (List Naming) (note_keys_layer (λ v. v)) (Layer.Text a0)
note_has_keys_roll (Layer.Work a0) = fold-roll-Note (List Naming) (note_keys_layer (λ v. v)) (Layer.Work a0)
note_has_keys_roll (Layer.Table a0) = fold-roll-Note (List Naming) (note_keys_layer (λ v. v)) (Layer.Table a0) ∙ ap (λ vs. (vs ++ [])) (each_alike_keys _ (λ (y : ((String Global) × (List Naming) × (Option (String Global)))). ([] ++ ((y.1) ++ ((option_keys (λ y. []) y.2) ++ [])))) (λ (y : ((String Global) × Note-Source × (Option (String Global)))). ([] ++ ((note_keys y.1) ++ ((option_keys (λ y. []) y.2) ++ [])))) (λ x. refl) a0.items)
note_has_keys_roll (Layer.Done a0) = fold-roll-Note (List Naming) (note_keys_layer (λ v. v)) (Layer.Done a0)
note_has_keys_roll (Layer.Days a0) = fold-roll-Note (List Naming) (note_keys_layer (λ v. v)) (Layer.Days a0)
note_has_keys_roll (Layer.About a0) = fold-roll-Note (List Naming) (note_keys_layer (λ v. v)) (Layer.About a0)
note_has_keys_roll (Layer.Either a0 a1) = fold-roll-Note (List Naming) (note_keys_layer (λ v. v)) (Layer.Either a0 a1)
note_has_keys_roll (Layer.Several a0) = fold-roll-Note (List Naming) (note_keys_layer (λ v. v)) (Layer.Several a0) ∙ ap (λ vs. (vs ++ [])) (each_mapped_keys note_keys a0.items)

pub note_text_has_keys : (a0 : (String Global)) → note_keys (Its.Text a0) ≡ note_keys_layer note_keys (Layer.Text a0)
note_text_has_keys a0 = ap note_keys (sym (Its.rolls-Text a0)) ∙ note_has_keys_roll (Layer.Text a0)

pub note_work_has_keys : (a0 : (BTreeMap ℕ ℤ)) → note_keys (Its.Work a0) ≡ note_keys_layer note_keys (Layer.Work a0)
note_work_has_keys a0 = ap note_keys (sym (Its.rolls-Work a0)) ∙ note_has_keys_roll (Layer.Work a0)

pub note_table_has_keys : (a0 : (Vec ((String Global) × Note-Source × (Option (String Global))) Global)) → note_keys (Its.Table a0) ≡ note_keys_layer note_keys (Layer.Table a0)
note_table_has_keys a0 = ap note_keys (sym (Its.rolls-Table a0)) ∙ note_has_keys_roll (Layer.Table a0)

pub note_done_has_keys : (a0 : Bool) → note_keys (Its.Done a0) ≡ note_keys_layer note_keys (Layer.Done a0)
note_done_has_keys a0 = ap note_keys (sym (Its.rolls-Done a0)) ∙ note_has_keys_roll (Layer.Done a0)

pub note_days_has_keys : (a0 : (Vec ℕ Global)) → note_keys (Its.Days a0) ≡ note_keys_layer note_keys (Layer.Days a0)
note_days_has_keys a0 = ap note_keys (sym (Its.rolls-Days a0)) ∙ note_has_keys_roll (Layer.Days a0)

pub note_about_has_keys : (a0 : (Box Note-Source Global)) → note_keys (Its.About a0) ≡ note_keys_layer note_keys (Layer.About a0)
note_about_has_keys a0 = ap note_keys (sym (Its.rolls-About a0)) ∙ note_has_keys_roll (Layer.About a0)

pub note_either_has_keys : (a0 : (Box Note-Source Global)) (a1 : (Box Note-Source Global)) → note_keys (Its.Either a0 a1) ≡ note_keys_layer note_keys (Layer.Either a0 a1)
note_either_has_keys a0 a1 = ap note_keys (sym (Its.rolls-Either a0 a1)) ∙ note_has_keys_roll (Layer.Either a0 a1)

pub note_several_has_keys : (a0 : (Vec Note-Source Global)) → note_keys (Its.Several a0) ≡ note_keys_layer note_keys (Layer.Several a0)
note_several_has_keys a0 = ap note_keys (sym (Its.rolls-Several a0)) ∙ note_has_keys_roll (Layer.Several a0)

-- what is read in its place, by the resolver of the same variant
abbrev pub note_flat_layer : Note-F Note-Source → NoteResolver → Value
note_flat_layer (Layer.Text a0) r = elim r [ Kept.Text s ↦ case 0 (value (string_flat (string_bytes a0) s.0) no_value) | _ ↦ case 0 no_value ]
note_flat_layer (Layer.Work a0) r = elim r [ Kept.Work s ↦ case 1 (value (map_flat (leaf_key (number_kind unsigned w16)) (leaf (number_kind signed w8)) (btree_map_len a0) s.0) no_value) | _ ↦ case 1 no_value ]
note_flat_layer (Layer.Table a0) r = elim r [ Kept.Table s ↦ case 2 (value (hole (to_pointee s.0 (run tuple3_string_note_option_string_shape) (length a0.items))) no_value) | _ ↦ case 2 no_value ]
note_flat_layer (Layer.Done a0) r = elim r [ Kept.Done s ↦ case 3 (value (number (pos (bool_byte a0))) no_value) | _ ↦ case 3 no_value ]
note_flat_layer (Layer.Days a0) r = elim r [ Kept.Days s ↦ case 4 (value (hole (to_pointee s.0 (run (leaf (number_kind unsigned w16))) (length a0.items))) no_value) | _ ↦ case 4 no_value ]
note_flat_layer (Layer.About a0) r = elim r [ Kept.About s ↦ case 5 (value (box (hole (to_pointee s.0 (one note_shape) 0))) no_value) | _ ↦ case 5 no_value ]
note_flat_layer (Layer.Either a0 a1) r = elim r [ Kept.Either s ↦ case 6 (value (box (hole (to_pointee s.0 (one note_shape) 0))) (value (box (hole (to_pointee s.1.0 (one note_shape) 0))) no_value)) | _ ↦ case 6 no_value ]
note_flat_layer (Layer.Several a0) r = elim r [ Kept.Several s ↦ case 7 (value (hole (to_pointee s.0 (run note_shape) (length a0.items))) no_value) | _ ↦ case 7 no_value ]

abbrev pub note_flat : Note-Source → NoteResolver → Value
note_flat v r = note_flat_layer (out-Note v) r

abbrev pub note_belongs_layer : Note-F Note-Source → NoteResolver → Type 0
note_belongs_layer (Layer.Text a0) r = elim r [ Kept.Text s ↦ ((length (string_bytes a0) ≤ 1073741823) × Unit {0}) | _ ↦ ⊥ ]
note_belongs_layer (Layer.Work a0) r = elim r [ Kept.Work s ↦ ((btree_map_len a0 ≤ 4294967295) × Unit {0}) | _ ↦ ⊥ ]
note_belongs_layer (Layer.Table a0) r = elim r [ Kept.Table s ↦ ((length a0.items ≤ 4294967295) × Unit {0}) | _ ↦ ⊥ ]
note_belongs_layer (Layer.Done a0) r = elim r [ Kept.Done s ↦ (⊤ × Unit {0}) | _ ↦ ⊥ ]
note_belongs_layer (Layer.Days a0) r = elim r [ Kept.Days s ↦ ((length a0.items ≤ 4294967295) × Unit {0}) | _ ↦ ⊥ ]
note_belongs_layer (Layer.About a0) r = elim r [ Kept.About s ↦ (⊤ × Unit {0}) | _ ↦ ⊥ ]
note_belongs_layer (Layer.Either a0 a1) r = elim r [ Kept.Either s ↦ (⊤ × (⊤ × Unit {0})) | _ ↦ ⊥ ]
note_belongs_layer (Layer.Several a0) r = elim r [ Kept.Several s ↦ ((length a0.items ≤ 4294967295) × Unit {0}) | _ ↦ ⊥ ]

abbrev pub note_belongs : Note-Source → NoteResolver → Type 0
note_belongs v r = note_belongs_layer (out-Note v) r

pub note_text_opens : (a0 : (String Global)) → out-Note (Its.Text a0) ≡ (Layer.Text a0)
note_text_opens a0 = ap out-Note (sym (Its.rolls-Text a0)) ∙ out-roll-Note (Layer.Text a0)

pub note_work_opens : (a0 : (BTreeMap ℕ ℤ)) → out-Note (Its.Work a0) ≡ (Layer.Work a0)
note_work_opens a0 = ap out-Note (sym (Its.rolls-Work a0)) ∙ out-roll-Note (Layer.Work a0)

pub note_table_opens : (a0 : (Vec ((String Global) × Note-Source × (Option (String Global))) Global)) → out-Note (Its.Table a0) ≡ (Layer.Table a0)
note_table_opens a0 = ap out-Note (sym (Its.rolls-Table a0)) ∙ out-roll-Note (Layer.Table a0)

pub note_done_opens : (a0 : Bool) → out-Note (Its.Done a0) ≡ (Layer.Done a0)
note_done_opens a0 = ap out-Note (sym (Its.rolls-Done a0)) ∙ out-roll-Note (Layer.Done a0)

pub note_days_opens : (a0 : (Vec ℕ Global)) → out-Note (Its.Days a0) ≡ (Layer.Days a0)
note_days_opens a0 = ap out-Note (sym (Its.rolls-Days a0)) ∙ out-roll-Note (Layer.Days a0)

pub note_about_opens : (a0 : (Box Note-Source Global)) → out-Note (Its.About a0) ≡ (Layer.About a0)
note_about_opens a0 = ap out-Note (sym (Its.rolls-About a0)) ∙ out-roll-Note (Layer.About a0)

pub note_either_opens : (a0 : (Box Note-Source Global)) (a1 : (Box Note-Source Global)) → out-Note (Its.Either a0 a1) ≡ (Layer.Either a0 a1)
note_either_opens a0 a1 = ap out-Note (sym (Its.rolls-Either a0 a1)) ∙ out-roll-Note (Layer.Either a0 a1)

pub note_several_opens : (a0 : (Vec Note-Source Global)) → out-Note (Its.Several a0) ≡ (Layer.Several a0)
note_several_opens a0 = ap out-Note (sym (Its.rolls-Several a0)) ∙ out-roll-Note (Layer.Several a0)

abbrev pub tuple3_string_note_option_string_meaning : ((String Global) × Note-Source × (Option (String Global))) → Value
tuple3_string_note_option_string_meaning t = (product (value (text_value (string_bytes t.0)) (value (note_meaning t.1) (value (option_meaning (λ y. (text_value (string_bytes y))) t.2) no_value))))

abbrev pub tuple3_string_note_option_string_keys : ((String Global) × Note-Source × (Option (String Global))) → (List Naming)
tuple3_string_note_option_string_keys t = ([] ++ ((note_keys t.1) ++ ((option_keys (λ y. []) t.2) ++ [])))

note_keyed_layer : (y : Note-F ((t : Note-Source) × IsKeyed (note_keys t) (note_meaning t))) → IsKeyed (note_keys (roll-Note (map-Note ((t : Note-Source) × IsKeyed (note_keys t) (note_meaning t)) Note-Source (λ e. e.0) y))) (note_meaning (roll-Note (map-Note ((t : Note-Source) × IsKeyed (note_keys t) (note_meaning t)) Note-Source (λ e. e.0) y)))
note_keyed_layer (Layer.Text a0) = keyed_as (note_has_keys_roll _) (note_means_roll _) (case_keyed _ 0 _ (part_keyed (text_keyed (string_bytes a0)) nothing_keyed))
note_keyed_layer (Layer.Work a0) = keyed_as (note_has_keys_roll _) (note_means_roll _) (case_keyed _ 1 _ (part_keyed (pairs_keyed (λ y. []) (λ y. []) (λ y. (number (pos y))) (λ y. (number y)) (λ y. (number_keyed _)) (λ y. (number_keyed _)) a0.entries) nothing_keyed))
note_keyed_layer (Layer.Table a0) = keyed_as (note_has_keys_roll _) (note_means_roll _) (case_keyed _ 2 _ (part_keyed (held_each_keyed _ (λ y. ([] ++ ((note_keys y.1) ++ ((option_keys (λ y. []) y.2) ++ [])))) (λ y. (product (value (text_value (string_bytes y.0)) (value (note_meaning y.1) (value (option_meaning (λ y. (text_value (string_bytes y))) y.2) no_value))))) (λ e. (record_keyed (part_keyed (text_keyed (string_bytes e.0)) (part_keyed e.1.1 (part_keyed (option_keyed (λ y. []) (λ y. (text_value (string_bytes y))) (λ y. (text_keyed (string_bytes y))) e.2) nothing_keyed))))) a0.items) nothing_keyed))
note_keyed_layer (Layer.Done a0) = keyed_as (note_has_keys_roll _) (note_means_roll _) (case_keyed _ 3 _ (part_keyed (number_keyed _) nothing_keyed))
note_keyed_layer (Layer.Days a0) = keyed_as (note_has_keys_roll _) (note_means_roll _) (case_keyed _ 4 _ (part_keyed (each_keyed (λ y. []) (λ y. (number (pos y))) (λ y. (number_keyed _)) a0.items) nothing_keyed))
note_keyed_layer (Layer.About a0) = keyed_as (note_has_keys_roll _) (note_means_roll _) (case_keyed _ 5 _ (part_keyed (box_keyed _ _ a0.value.1) nothing_keyed))
note_keyed_layer (Layer.Either a0 a1) = keyed_as (note_has_keys_roll _) (note_means_roll _) (case_keyed _ 6 _ (part_keyed (box_keyed _ _ a0.value.1) (part_keyed (box_keyed _ _ a1.value.1) nothing_keyed)))
note_keyed_layer (Layer.Several a0) = keyed_as (note_has_keys_roll _) (note_means_roll _) (case_keyed _ 7 _ (part_keyed (held_keyed note_keys note_meaning a0.items) nothing_keyed))

pub note_keyed : (t : Note-Source) → IsKeyed (note_keys t) (note_meaning t)
note_keyed = ind-Note (λ t. IsKeyed (note_keys t) (note_meaning t)) (λ x y is. subst (λ z. IsKeyed (note_keys (roll-Note z)) (note_meaning (roll-Note z))) is (note_keyed_layer y))

note_planned_layer : (y : Note-F ((t : Note-Source) × HasPlan note_definitions note_shape (note_keys t) (note_meaning t))) → HasPlan note_definitions note_shape (note_keys (roll-Note (map-Note ((t : Note-Source) × HasPlan note_definitions note_shape (note_keys t) (note_meaning t)) Note-Source (λ e. e.0) y))) (note_meaning (roll-Note (map-Note ((t : Note-Source) × HasPlan note_definitions note_shape (note_keys t) (note_meaning t)) Note-Source (λ e. e.0) y)))
note_planned_layer (Layer.Text a0) = planned_as (note_has_keys_roll _) (note_means_roll _) (variant_planned note_definitions note_shape note_name note_variant_definitions note_variants note_has_variants 0 note_text_parts refl note_text_definitions refl _ _ (part_planned no_definition str [] (text_value (string_bytes a0)) (string_planned no_definition [] (string_bytes a0)) no_part_planned))
note_planned_layer (Layer.Work a0) = planned_as (note_has_keys_roll _) (note_means_roll _) (variant_planned note_definitions note_shape note_name note_variant_definitions note_variants note_has_variants 1 note_work_parts refl note_work_definitions refl _ _ (part_planned (both no_definition (both no_definition no_definition)) (sorted_map (leaf_key (number_kind unsigned w16)) (leaf (number_kind signed w8))) (each_keys (pair_keys (λ y. []) (λ y. [])) a0.entries) (list (each_meaning (pair_meaning (λ y. (number (pos y))) (λ y. (number y))) a0.entries)) (map_of_pairs_planned (λ y. []) (λ y. []) (λ y. (number (pos y))) (λ y. (number y)) no_definition no_definition (leaf (number_kind unsigned w16)) (leaf (number_kind signed w8)) (λ y. (leaf_planned no_definition _ _ [] _ refl)) (λ y. (leaf_planned no_definition _ _ [] _ refl)) (leaf_key (number_kind unsigned w16)) refl a0.entries) no_part_planned))
note_planned_layer (Layer.Table a0) = planned_as (note_has_keys_roll _) (note_means_roll _) (variant_planned note_definitions note_shape note_name note_variant_definitions note_variants note_has_variants 2 note_table_parts refl note_table_definitions refl _ _ (part_planned tuple3_string_note_option_string_definitions (vec tuple3_string_note_option_string_shape) _ _ (vec_planned tuple3_string_note_option_string_definitions tuple3_string_note_option_string_shape _ _ _ (run_region_planned tuple3_string_note_option_string_definitions tuple3_string_note_option_string_shape _ _ _ (held_each_planned _ (λ y. ([] ++ ((note_keys y.1) ++ ((option_keys (λ y. []) y.2) ++ [])))) (λ y. (product (value (text_value (string_bytes y.0)) (value (note_meaning y.1) (value (option_meaning (λ y. (text_value (string_bytes y))) y.2) no_value))))) tuple3_string_note_option_string_definitions tuple3_string_note_option_string_shape (λ e. (product_planned _ _ _ _ (part_planned no_definition str [] (text_value (string_bytes e.0)) (string_planned no_definition [] (string_bytes e.0)) (part_planned note_definitions note_shape (note_keys e.1.0) (note_meaning e.1.0) e.1.1 (part_planned no_definition (option_shape str) (option_keys (λ y. []) e.2) (option_meaning (λ y. (text_value (string_bytes y))) e.2) (option_planned no_definition str (λ y. []) (λ y. (text_value (string_bytes y))) (λ y. (string_planned no_definition [] (string_bytes y))) e.2) no_part_planned))))) a0.items))) no_part_planned))
note_planned_layer (Layer.Done a0) = planned_as (note_has_keys_roll _) (note_means_roll _) (variant_planned note_definitions note_shape note_name note_variant_definitions note_variants note_has_variants 3 note_done_parts refl note_done_definitions refl _ _ (part_planned no_definition (leaf bool) [] (number (pos (bool_byte a0))) (leaf_planned no_definition _ _ [] _ refl) no_part_planned))
note_planned_layer (Layer.Days a0) = planned_as (note_has_keys_roll _) (note_means_roll _) (variant_planned note_definitions note_shape note_name note_variant_definitions note_variants note_has_variants 4 note_days_parts refl note_days_definitions refl _ _ (part_planned no_definition (vec (leaf (number_kind unsigned w16))) (each_keys (λ y. []) a0.items) (list (each_meaning (λ y. (number (pos y))) a0.items)) (vec_planned no_definition (leaf (number_kind unsigned w16)) _ _ _ (slice_planned no_definition (leaf (number_kind unsigned w16)) (λ y. []) (λ y. (number (pos y))) (λ y. (leaf_planned no_definition _ _ [] _ refl)) a0.items)) no_part_planned))
note_planned_layer (Layer.About a0) = planned_as (note_has_keys_roll _) (note_means_roll _) (variant_planned note_definitions note_shape note_name note_variant_definitions note_variants note_has_variants 5 note_about_parts refl note_about_definitions refl _ _ (part_planned note_definitions (boxed (one note_shape)) (note_keys a0.value.0) (box (note_meaning a0.value.0)) (boxed_one_planned note_definitions (one note_shape) note_shape refl _ _ a0.value.1) no_part_planned))
note_planned_layer (Layer.Either a0 a1) = planned_as (note_has_keys_roll _) (note_means_roll _) (variant_planned note_definitions note_shape note_name note_variant_definitions note_variants note_has_variants 6 note_either_parts refl note_either_definitions refl _ _ (part_planned note_definitions (boxed (one note_shape)) (note_keys a0.value.0) (box (note_meaning a0.value.0)) (boxed_one_planned note_definitions (one note_shape) note_shape refl _ _ a0.value.1) (part_planned note_definitions (boxed (one note_shape)) (note_keys a1.value.0) (box (note_meaning a1.value.0)) (boxed_one_planned note_definitions (one note_shape) note_shape refl _ _ a1.value.1) no_part_planned)))
note_planned_layer (Layer.Several a0) = planned_as (note_has_keys_roll _) (note_means_roll _) (variant_planned note_definitions note_shape note_name note_variant_definitions note_variants note_has_variants 7 note_several_parts refl note_several_definitions refl _ _ (part_planned note_definitions (vec note_shape) (each_keys note_keys (map (λ e. e.0) a0.items)) (list (each_meaning note_meaning (map (λ e. e.0) a0.items))) (vec_planned note_definitions note_shape _ _ _ (run_region_planned note_definitions note_shape _ _ _ (held_planned note_keys note_meaning note_definitions note_shape a0.items))) no_part_planned))

pub note_planned : (t : Note-Source) → HasPlan note_definitions note_shape (note_keys t) (note_meaning t)
note_planned = ind-Note (λ t. HasPlan note_definitions note_shape (note_keys t) (note_meaning t)) (λ x y is. subst (λ z. HasPlan note_definitions note_shape (note_keys (roll-Note z)) (note_meaning (roll-Note z))) is (note_planned_layer y))
