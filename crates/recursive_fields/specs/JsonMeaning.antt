-- What Json and Member mean. Written by tools/derive: change the declaration, and run it again.
use Rattle.archive_core.specs.Definitions.{no_definition}
use Rattle.archive_core.specs.Denotes.{Naming}
use Rattle.archive_core.specs.Held.{each_mapped, each_mapped_keys, held_keyed, held_planned, variant_planned, keyed_as, planned_as}
use Rattle.archive_core.specs.Keyed.{case_keyed, record_keyed, nothing_keyed, part_keyed, text_keyed}
use Rattle.archive_core.specs.PartsPlanned.{part_planned, no_part_planned, record_planned}
use Rattle.archive_core.specs.Planned.{string_planned}
use Rattle.archive_core.specs.PlannedOwners.{vec_planned, run_region_planned}
use Rattle.archive_core.specs.Plans.{HasPlan}
use Rattle.archive_core.specs.Runs.{each_keys, each_meaning}
use Rattle.archive_core.specs.Shape.{parts, vec, str, run, leaf, signed, part, no_part, variant, number as number_kind}
use Rattle.archive_core.specs.Strings.{string_flat}
use Rattle.archive_core.specs.Value.{Value, case, product, list, hole, value, no_value, text_value}
use Rattle.archive_core.specs.Writing.{IsKeyed, to_pointee}
use Rattle.recursive_fields.specs.declared.json.Json.{Json-F, out-Json, roll-Json, fold-Json, fold-roll-Json, ind-Json, out-roll-Json}
use Rattle.recursive_fields.specs.declared.json.Json.TheFolds.{map-Json, map-Member}
use Rattle.recursive_fields.specs.declared.json.JsonResolver.{JsonResolver}
use Rattle.recursive_fields.specs.declared.json.Member.{Member-F, out-Member, roll-Member, fold-Member, fold-roll-Member, ind-Member, roll-out-Member}
use Rattle.recursive_fields.specs.declared.json.MemberResolver.{MemberResolver}
use Rattle.std.proofs.Common.{ap, subst, sym, ◌∙◌, Global, String, Vec}
use Rattle.std.specs.Int.{w64}
use Rattle.std.specs.Prelude.{List, [], ◌++◌, ◌≡◌, ◌≤◌, refl, length, map, string_bytes}
use Rattle.recursive_fields.specs.JsonShape.{json_name, json_shape, json_definitions, json_variants, json_variant_definitions, json_has_variants, json_null_parts, json_null_definitions, json_number_parts, json_number_definitions, json_text_parts, json_text_definitions, json_list_parts, json_list_definitions, json_object_parts, json_object_definitions, member_type_shape, member_type_definitions, member_type_parts, member_type_part_definitions, member_type_has_parts}
use Rattle.recursive_fields.specs.declared.json.Json.{Json as Json-Source}
use Rattle.recursive_fields.specs.declared.json.Number.{Number as Number-Source}
use Rattle.recursive_fields.specs.declared.json.Json.TheOpen as Layer
use Rattle.recursive_fields.specs.declared.json.Json.TheVariants as Its
use Rattle.recursive_fields.specs.declared.json.JsonResolver.TheVariants as Kept
use Rattle.recursive_fields.specs.declared.json.Member.{Member as Member-Source}
use Rattle.recursive_fields.specs.contracts.json.NumberArchive.TheImpl as source_of_number
use Rattle.recursive_fields.specs.contracts.json.NumberArchive.TheImpl.Laws.{keyed-law as keyed_of_number, planned-law as planned_of_number}

abbrev pub json_meaning_layer : {A B : Type 0} → (A → Value) → (B → Value) → Json-F A B → Value
json_meaning_layer m0 m1 Layer.Null = case 0 no_value
json_meaning_layer m0 m1 (Layer.Number a0) = case 1 (value ((source_of_number.ghosts).meaning a0) no_value)
json_meaning_layer m0 m1 (Layer.Text a0) = case 2 (value (text_value (string_bytes a0)) no_value)
json_meaning_layer m0 m1 (Layer.List a0) = case 3 (value (list (each_meaning m0 a0.items)) no_value)
json_meaning_layer m0 m1 (Layer.Object a0) = case 4 (value (list (each_meaning m1 a0.items)) no_value)

abbrev pub member_type_meaning_layer : {A B : Type 0} → (A → Value) → (B → Value) → Member-F A B → Value
member_type_meaning_layer m0 m1 t = product (value (text_value (string_bytes t.name)) (value (m0 t.value) no_value))

pub json_meaning : Json-Source → Value
json_meaning = fold-Json Value Value (json_meaning_layer (λ v. v) (λ v. v)) (member_type_meaning_layer (λ v. v) (λ v. v))

pub member_type_meaning : Member-Source → Value
member_type_meaning = fold-Member Value Value (json_meaning_layer (λ v. v) (λ v. v)) (member_type_meaning_layer (λ v. v) (λ v. v))

pub json_means_roll : (x : Json-F Json-Source Member-Source) → json_meaning (roll-Json x) ≡ json_meaning_layer json_meaning member_type_meaning x
unfolding json_meaning member_type_meaning
json_means_roll Layer.Null = fold-roll-Json Value Value (json_meaning_layer (λ v. v) (λ v. v)) (member_type_meaning_layer (λ v. v) (λ v. v)) Layer.Null
json_means_roll (Layer.Number a0) = fold-roll-Json Value Value (json_meaning_layer (λ v. v) (λ v. v)) (member_type_meaning_layer (λ v. v) (λ v. v)) (Layer.Number a0)
json_means_roll (Layer.Text a0) = fold-roll-Json Value Value (json_meaning_layer (λ v. v) (λ v. v)) (member_type_meaning_layer (λ v. v) (λ v. v)) (Layer.Text a0)
json_means_roll (Layer.List a0) = fold-roll-Json Value Value (json_meaning_layer (λ v. v) (λ v. v)) (member_type_meaning_layer (λ v. v) (λ v. v)) (Layer.List a0) ∙ ap (λ vs. case 3 (value (list vs) no_value)) (each_mapped json_meaning a0.items)
json_means_roll (Layer.Object a0) = fold-roll-Json Value Value (json_meaning_layer (λ v. v) (λ v. v)) (member_type_meaning_layer (λ v. v) (λ v. v)) (Layer.Object a0) ∙ ap (λ vs. case 4 (value (list vs) no_value)) (each_mapped member_type_meaning a0.items)

pub json_null_means : json_meaning Its.Null ≡ json_meaning_layer json_meaning member_type_meaning Layer.Null
json_null_means = ap json_meaning (sym Its.rolls-Null) ∙ json_means_roll Layer.Null

pub json_number_means : (a0 : Number-Source) → json_meaning (Its.Number a0) ≡ json_meaning_layer json_meaning member_type_meaning (Layer.Number a0)
json_number_means a0 = ap json_meaning (sym (Its.rolls-Number a0)) ∙ json_means_roll (Layer.Number a0)

pub json_text_means : (a0 : (String Global)) → json_meaning (Its.Text a0) ≡ json_meaning_layer json_meaning member_type_meaning (Layer.Text a0)
json_text_means a0 = ap json_meaning (sym (Its.rolls-Text a0)) ∙ json_means_roll (Layer.Text a0)

pub json_list_means : (a0 : (Vec Json-Source Global)) → json_meaning (Its.List a0) ≡ json_meaning_layer json_meaning member_type_meaning (Layer.List a0)
json_list_means a0 = ap json_meaning (sym (Its.rolls-List a0)) ∙ json_means_roll (Layer.List a0)

pub json_object_means : (a0 : (Vec Member-Source Global)) → json_meaning (Its.Object a0) ≡ json_meaning_layer json_meaning member_type_meaning (Layer.Object a0)
json_object_means a0 = ap json_meaning (sym (Its.rolls-Object a0)) ∙ json_means_roll (Layer.Object a0)

pub member_type_means_roll : (x : Member-F Json-Source Member-Source) → member_type_meaning (roll-Member x) ≡ member_type_meaning_layer json_meaning member_type_meaning x
unfolding json_meaning member_type_meaning
member_type_means_roll t = fold-roll-Member Value Value (json_meaning_layer (λ v. v) (λ v. v)) (member_type_meaning_layer (λ v. v) (λ v. v)) t

pub member_type_means : (t : Member-Source) → member_type_meaning t ≡ member_type_meaning_layer json_meaning member_type_meaning (out-Member t)
member_type_means t = ap member_type_meaning (sym (roll-out-Member t)) ∙ member_type_means_roll (out-Member t)

abbrev pub json_keys_layer : {A B : Type 0} → (A → (List Naming)) → (B → (List Naming)) → Json-F A B → (List Naming)
json_keys_layer m0 m1 Layer.Null = []
json_keys_layer m0 m1 (Layer.Number a0) = (((source_of_number.ghosts).keys a0) ++ [])
json_keys_layer m0 m1 (Layer.Text a0) = ([] ++ [])
json_keys_layer m0 m1 (Layer.List a0) = ((each_keys m0 a0.items) ++ [])
json_keys_layer m0 m1 (Layer.Object a0) = ((each_keys m1 a0.items) ++ [])

abbrev pub member_type_keys_layer : {A B : Type 0} → (A → (List Naming)) → (B → (List Naming)) → Member-F A B → (List Naming)
member_type_keys_layer m0 m1 t = ([] ++ ((m0 t.value) ++ []))

pub json_keys : Json-Source → (List Naming)
json_keys = fold-Json (List Naming) (List Naming) (json_keys_layer (λ v. v) (λ v. v)) (member_type_keys_layer (λ v. v) (λ v. v))

pub member_type_keys : Member-Source → (List Naming)
member_type_keys = fold-Member (List Naming) (List Naming) (json_keys_layer (λ v. v) (λ v. v)) (member_type_keys_layer (λ v. v) (λ v. v))

pub json_has_keys_roll : (x : Json-F Json-Source Member-Source) → json_keys (roll-Json x) ≡ json_keys_layer json_keys member_type_keys x
unfolding json_keys member_type_keys
json_has_keys_roll Layer.Null = fold-roll-Json (List Naming) (List Naming) (json_keys_layer (λ v. v) (λ v. v)) (member_type_keys_layer (λ v. v) (λ v. v)) Layer.Null
json_has_keys_roll (Layer.Number a0) = fold-roll-Json (List Naming) (List Naming) (json_keys_layer (λ v. v) (λ v. v)) (member_type_keys_layer (λ v. v) (λ v. v)) (Layer.Number a0)
json_has_keys_roll (Layer.Text a0) = fold-roll-Json (List Naming) (List Naming) (json_keys_layer (λ v. v) (λ v. v)) (member_type_keys_layer (λ v. v) (λ v. v)) (Layer.Text a0)
json_has_keys_roll (Layer.List a0) = fold-roll-Json (List Naming) (List Naming) (json_keys_layer (λ v. v) (λ v. v)) (member_type_keys_layer (λ v. v) (λ v. v)) (Layer.List a0) ∙ ap (λ vs. (vs ++ [])) (each_mapped_keys json_keys a0.items)
json_has_keys_roll (Layer.Object a0) = fold-roll-Json (List Naming) (List Naming) (json_keys_layer (λ v. v) (λ v. v)) (member_type_keys_layer (λ v. v) (λ v. v)) (Layer.Object a0) ∙ ap (λ vs. (vs ++ [])) (each_mapped_keys member_type_keys a0.items)

pub json_null_has_keys : json_keys Its.Null ≡ json_keys_layer json_keys member_type_keys Layer.Null
json_null_has_keys = ap json_keys (sym Its.rolls-Null) ∙ json_has_keys_roll Layer.Null

pub json_number_has_keys : (a0 : Number-Source) → json_keys (Its.Number a0) ≡ json_keys_layer json_keys member_type_keys (Layer.Number a0)
json_number_has_keys a0 = ap json_keys (sym (Its.rolls-Number a0)) ∙ json_has_keys_roll (Layer.Number a0)

pub json_text_has_keys : (a0 : (String Global)) → json_keys (Its.Text a0) ≡ json_keys_layer json_keys member_type_keys (Layer.Text a0)
json_text_has_keys a0 = ap json_keys (sym (Its.rolls-Text a0)) ∙ json_has_keys_roll (Layer.Text a0)

pub json_list_has_keys : (a0 : (Vec Json-Source Global)) → json_keys (Its.List a0) ≡ json_keys_layer json_keys member_type_keys (Layer.List a0)
json_list_has_keys a0 = ap json_keys (sym (Its.rolls-List a0)) ∙ json_has_keys_roll (Layer.List a0)

pub json_object_has_keys : (a0 : (Vec Member-Source Global)) → json_keys (Its.Object a0) ≡ json_keys_layer json_keys member_type_keys (Layer.Object a0)
json_object_has_keys a0 = ap json_keys (sym (Its.rolls-Object a0)) ∙ json_has_keys_roll (Layer.Object a0)

pub member_type_has_keys_roll : (x : Member-F Json-Source Member-Source) → member_type_keys (roll-Member x) ≡ member_type_keys_layer json_keys member_type_keys x
unfolding json_keys member_type_keys
member_type_has_keys_roll t = fold-roll-Member (List Naming) (List Naming) (json_keys_layer (λ v. v) (λ v. v)) (member_type_keys_layer (λ v. v) (λ v. v)) t

pub member_type_has_keys : (t : Member-Source) → member_type_keys t ≡ member_type_keys_layer json_keys member_type_keys (out-Member t)
member_type_has_keys t = ap member_type_keys (sym (roll-out-Member t)) ∙ member_type_has_keys_roll (out-Member t)

-- what is read in its place, by the resolver of the same variant
abbrev pub json_flat_layer : Json-F Json-Source Member-Source → JsonResolver → Value
json_flat_layer Layer.Null r = case 0 no_value
json_flat_layer (Layer.Number a0) r = elim r [ Kept.Number s ↦ case 1 (value ((source_of_number.ghosts).flat a0 s.0) no_value) | _ ↦ case 1 no_value ]
json_flat_layer (Layer.Text a0) r = elim r [ Kept.Text s ↦ case 2 (value (string_flat (string_bytes a0) s.0) no_value) | _ ↦ case 2 no_value ]
json_flat_layer (Layer.List a0) r = elim r [ Kept.List s ↦ case 3 (value (hole (to_pointee s.0 (run json_shape) (length a0.items))) no_value) | _ ↦ case 3 no_value ]
json_flat_layer (Layer.Object a0) r = elim r [ Kept.Object s ↦ case 4 (value (hole (to_pointee s.0 (run member_type_shape) (length a0.items))) no_value) | _ ↦ case 4 no_value ]

abbrev pub json_flat : Json-Source → JsonResolver → Value
json_flat v r = json_flat_layer (out-Json v) r

abbrev pub json_belongs_layer : Json-F Json-Source Member-Source → JsonResolver → Type 0
json_belongs_layer Layer.Null r = elim r [ Kept.Null ↦ Unit {0} | _ ↦ ⊥ ]
json_belongs_layer (Layer.Number a0) r = elim r [ Kept.Number s ↦ (((source_of_number.ghosts).belongs a0 s.0) × Unit {0}) | _ ↦ ⊥ ]
json_belongs_layer (Layer.Text a0) r = elim r [ Kept.Text s ↦ ((length (string_bytes a0) ≤ 1073741823) × Unit {0}) | _ ↦ ⊥ ]
json_belongs_layer (Layer.List a0) r = elim r [ Kept.List s ↦ ((length a0.items ≤ 4294967295) × Unit {0}) | _ ↦ ⊥ ]
json_belongs_layer (Layer.Object a0) r = elim r [ Kept.Object s ↦ ((length a0.items ≤ 4294967295) × Unit {0}) | _ ↦ ⊥ ]

abbrev pub json_belongs : Json-Source → JsonResolver → Type 0
json_belongs v r = json_belongs_layer (out-Json v) r

pub json_null_opens : out-Json Its.Null ≡ Layer.Null
json_null_opens = ap out-Json (sym Its.rolls-Null) ∙ out-roll-Json Layer.Null

pub json_number_opens : (a0 : Number-Source) → out-Json (Its.Number a0) ≡ (Layer.Number a0)
json_number_opens a0 = ap out-Json (sym (Its.rolls-Number a0)) ∙ out-roll-Json (Layer.Number a0)

pub json_text_opens : (a0 : (String Global)) → out-Json (Its.Text a0) ≡ (Layer.Text a0)
json_text_opens a0 = ap out-Json (sym (Its.rolls-Text a0)) ∙ out-roll-Json (Layer.Text a0)

pub json_list_opens : (a0 : (Vec Json-Source Global)) → out-Json (Its.List a0) ≡ (Layer.List a0)
json_list_opens a0 = ap out-Json (sym (Its.rolls-List a0)) ∙ out-roll-Json (Layer.List a0)

pub json_object_opens : (a0 : (Vec Member-Source Global)) → out-Json (Its.Object a0) ≡ (Layer.Object a0)
json_object_opens a0 = ap out-Json (sym (Its.rolls-Object a0)) ∙ out-roll-Json (Layer.Object a0)

-- what is read in its place
abbrev pub member_type_flat : Member-Source → MemberResolver → Value
member_type_flat t r = product (value (string_flat (string_bytes (out-Member t).name) r.kept.0) (value (json_flat (out-Member t).value r.kept.1.0) no_value))

abbrev pub member_type_belongs : Member-Source → MemberResolver → Type 0
member_type_belongs t r = ((length (string_bytes (out-Member t).name) ≤ 1073741823) × ((json_belongs (out-Member t).value r.kept.1.0) × Unit {0}))

json_keyed_layer : (y : Json-F ((t : Json-Source) × IsKeyed (json_keys t) (json_meaning t)) ((t : Member-Source) × IsKeyed (member_type_keys t) (member_type_meaning t))) → IsKeyed (json_keys (roll-Json (map-Json ((t : Json-Source) × IsKeyed (json_keys t) (json_meaning t)) ((t : Member-Source) × IsKeyed (member_type_keys t) (member_type_meaning t)) Json-Source Member-Source (λ e. e.0) (λ e. e.0) y))) (json_meaning (roll-Json (map-Json ((t : Json-Source) × IsKeyed (json_keys t) (json_meaning t)) ((t : Member-Source) × IsKeyed (member_type_keys t) (member_type_meaning t)) Json-Source Member-Source (λ e. e.0) (λ e. e.0) y)))
json_keyed_layer Layer.Null = keyed_as (json_has_keys_roll _) (json_means_roll _) (case_keyed _ 0 _ nothing_keyed)
json_keyed_layer (Layer.Number a0) = keyed_as (json_has_keys_roll _) (json_means_roll _) (case_keyed _ 1 _ (part_keyed (keyed_of_number a0) nothing_keyed))
json_keyed_layer (Layer.Text a0) = keyed_as (json_has_keys_roll _) (json_means_roll _) (case_keyed _ 2 _ (part_keyed (text_keyed (string_bytes a0)) nothing_keyed))
json_keyed_layer (Layer.List a0) = keyed_as (json_has_keys_roll _) (json_means_roll _) (case_keyed _ 3 _ (part_keyed (held_keyed json_keys json_meaning a0.items) nothing_keyed))
json_keyed_layer (Layer.Object a0) = keyed_as (json_has_keys_roll _) (json_means_roll _) (case_keyed _ 4 _ (part_keyed (held_keyed member_type_keys member_type_meaning a0.items) nothing_keyed))

member_type_keyed_layer : (y : Member-F ((t : Json-Source) × IsKeyed (json_keys t) (json_meaning t)) ((t : Member-Source) × IsKeyed (member_type_keys t) (member_type_meaning t))) → IsKeyed (member_type_keys (roll-Member (map-Member ((t : Json-Source) × IsKeyed (json_keys t) (json_meaning t)) ((t : Member-Source) × IsKeyed (member_type_keys t) (member_type_meaning t)) Json-Source Member-Source (λ e. e.0) (λ e. e.0) y))) (member_type_meaning (roll-Member (map-Member ((t : Json-Source) × IsKeyed (json_keys t) (json_meaning t)) ((t : Member-Source) × IsKeyed (member_type_keys t) (member_type_meaning t)) Json-Source Member-Source (λ e. e.0) (λ e. e.0) y)))
member_type_keyed_layer y = keyed_as (member_type_has_keys_roll _) (member_type_means_roll _) (record_keyed (part_keyed (text_keyed (string_bytes y.name)) (part_keyed y.value.1 nothing_keyed)))

pub json_keyed : (t : Json-Source) → IsKeyed (json_keys t) (json_meaning t)
json_keyed = ind-Json (λ t. IsKeyed (json_keys t) (json_meaning t)) (λ t. IsKeyed (member_type_keys t) (member_type_meaning t)) (λ x y is. subst (λ z. IsKeyed (json_keys (roll-Json z)) (json_meaning (roll-Json z))) is (json_keyed_layer y)) (λ x y is. subst (λ z. IsKeyed (member_type_keys (roll-Member z)) (member_type_meaning (roll-Member z))) is (member_type_keyed_layer y))

pub member_type_keyed : (t : Member-Source) → IsKeyed (member_type_keys t) (member_type_meaning t)
member_type_keyed = ind-Member (λ t. IsKeyed (json_keys t) (json_meaning t)) (λ t. IsKeyed (member_type_keys t) (member_type_meaning t)) (λ x y is. subst (λ z. IsKeyed (json_keys (roll-Json z)) (json_meaning (roll-Json z))) is (json_keyed_layer y)) (λ x y is. subst (λ z. IsKeyed (member_type_keys (roll-Member z)) (member_type_meaning (roll-Member z))) is (member_type_keyed_layer y))

json_planned_layer : (y : Json-F ((t : Json-Source) × HasPlan json_definitions json_shape (json_keys t) (json_meaning t)) ((t : Member-Source) × HasPlan member_type_definitions member_type_shape (member_type_keys t) (member_type_meaning t))) → HasPlan json_definitions json_shape (json_keys (roll-Json (map-Json ((t : Json-Source) × HasPlan json_definitions json_shape (json_keys t) (json_meaning t)) ((t : Member-Source) × HasPlan member_type_definitions member_type_shape (member_type_keys t) (member_type_meaning t)) Json-Source Member-Source (λ e. e.0) (λ e. e.0) y))) (json_meaning (roll-Json (map-Json ((t : Json-Source) × HasPlan json_definitions json_shape (json_keys t) (json_meaning t)) ((t : Member-Source) × HasPlan member_type_definitions member_type_shape (member_type_keys t) (member_type_meaning t)) Json-Source Member-Source (λ e. e.0) (λ e. e.0) y)))
json_planned_layer Layer.Null = planned_as (json_has_keys_roll _) (json_means_roll _) (variant_planned json_definitions json_shape json_name json_variant_definitions json_variants json_has_variants 0 json_null_parts refl json_null_definitions refl _ _ no_part_planned)
json_planned_layer (Layer.Number a0) = planned_as (json_has_keys_roll _) (json_means_roll _) (variant_planned json_definitions json_shape json_name json_variant_definitions json_variants json_has_variants 1 json_number_parts refl json_number_definitions refl _ _ (part_planned no_definition (parts (part (leaf (number_kind signed w64)) no_part)) ((source_of_number.ghosts).keys a0) ((source_of_number.ghosts).meaning a0) (planned_of_number a0) no_part_planned))
json_planned_layer (Layer.Text a0) = planned_as (json_has_keys_roll _) (json_means_roll _) (variant_planned json_definitions json_shape json_name json_variant_definitions json_variants json_has_variants 2 json_text_parts refl json_text_definitions refl _ _ (part_planned no_definition str [] (text_value (string_bytes a0)) (string_planned no_definition [] (string_bytes a0)) no_part_planned))
json_planned_layer (Layer.List a0) = planned_as (json_has_keys_roll _) (json_means_roll _) (variant_planned json_definitions json_shape json_name json_variant_definitions json_variants json_has_variants 3 json_list_parts refl json_list_definitions refl _ _ (part_planned json_definitions (vec json_shape) (each_keys json_keys (map (λ e. e.0) a0.items)) (list (each_meaning json_meaning (map (λ e. e.0) a0.items))) (vec_planned json_definitions json_shape _ _ _ (run_region_planned json_definitions json_shape _ _ _ (held_planned json_keys json_meaning json_definitions json_shape a0.items))) no_part_planned))
json_planned_layer (Layer.Object a0) = planned_as (json_has_keys_roll _) (json_means_roll _) (variant_planned json_definitions json_shape json_name json_variant_definitions json_variants json_has_variants 4 json_object_parts refl json_object_definitions refl _ _ (part_planned json_definitions (vec member_type_shape) (each_keys member_type_keys (map (λ e. e.0) a0.items)) (list (each_meaning member_type_meaning (map (λ e. e.0) a0.items))) (vec_planned json_definitions member_type_shape _ _ _ (run_region_planned json_definitions member_type_shape _ _ _ (held_planned member_type_keys member_type_meaning json_definitions member_type_shape a0.items))) no_part_planned))

member_type_planned_layer : (y : Member-F ((t : Json-Source) × HasPlan json_definitions json_shape (json_keys t) (json_meaning t)) ((t : Member-Source) × HasPlan member_type_definitions member_type_shape (member_type_keys t) (member_type_meaning t))) → HasPlan member_type_definitions member_type_shape (member_type_keys (roll-Member (map-Member ((t : Json-Source) × HasPlan json_definitions json_shape (json_keys t) (json_meaning t)) ((t : Member-Source) × HasPlan member_type_definitions member_type_shape (member_type_keys t) (member_type_meaning t)) Json-Source Member-Source (λ e. e.0) (λ e. e.0) y))) (member_type_meaning (roll-Member (map-Member ((t : Json-Source) × HasPlan json_definitions json_shape (json_keys t) (json_meaning t)) ((t : Member-Source) × HasPlan member_type_definitions member_type_shape (member_type_keys t) (member_type_meaning t)) Json-Source Member-Source (λ e. e.0) (λ e. e.0) y)))
member_type_planned_layer y = planned_as (member_type_has_keys_roll _) (member_type_means_roll _) (record_planned member_type_definitions member_type_shape member_type_part_definitions member_type_parts _ _ member_type_has_parts (part_planned no_definition str [] (text_value (string_bytes y.name)) (string_planned no_definition [] (string_bytes y.name)) (part_planned member_type_definitions json_shape (json_keys y.value.0) (json_meaning y.value.0) y.value.1 no_part_planned)))

pub json_planned : (t : Json-Source) → HasPlan json_definitions json_shape (json_keys t) (json_meaning t)
json_planned = ind-Json (λ t. HasPlan json_definitions json_shape (json_keys t) (json_meaning t)) (λ t. HasPlan member_type_definitions member_type_shape (member_type_keys t) (member_type_meaning t)) (λ x y is. subst (λ z. HasPlan json_definitions json_shape (json_keys (roll-Json z)) (json_meaning (roll-Json z))) is (json_planned_layer y)) (λ x y is. subst (λ z. HasPlan member_type_definitions member_type_shape (member_type_keys (roll-Member z)) (member_type_meaning (roll-Member z))) is (member_type_planned_layer y))

pub member_type_planned : (t : Member-Source) → HasPlan member_type_definitions member_type_shape (member_type_keys t) (member_type_meaning t)
member_type_planned = ind-Member (λ t. HasPlan json_definitions json_shape (json_keys t) (json_meaning t)) (λ t. HasPlan member_type_definitions member_type_shape (member_type_keys t) (member_type_meaning t)) (λ x y is. subst (λ z. HasPlan json_definitions json_shape (json_keys (roll-Json z)) (json_meaning (roll-Json z))) is (json_planned_layer y)) (λ x y is. subst (λ z. HasPlan member_type_definitions member_type_shape (member_type_keys (roll-Member z)) (member_type_meaning (roll-Member z))) is (member_type_planned_layer y))
