-- What Message means. Written by tools/derive: change the declaration, and run it again.
use Rattle.archive_core.specs.Choices.{option_shape}
use Rattle.archive_core.specs.Definitions.{no_definition}
use Rattle.archive_core.specs.Denotes.{Naming}
use Rattle.archive_core.specs.Held.{variant_planned}
use Rattle.archive_core.specs.Keyed.{each_keyed, case_keyed, nothing_keyed, part_keyed, number_keyed}
use Rattle.archive_core.specs.Options.{option_keys, option_meaning, option_flat, OptionBelongs, option_keyed, option_planned}
use Rattle.archive_core.specs.PartsPlanned.{part_planned, no_part_planned}
use Rattle.archive_core.specs.Planned.{leaf_planned}
use Rattle.archive_core.specs.PlannedOwners.{vec_planned, slice_planned}
use Rattle.archive_core.specs.Plans.{HasPlan}
use Rattle.archive_core.specs.Runs.{each_keys, each_meaning}
use Rattle.archive_core.specs.Shape.{vec, run, leaf, unsigned, variant, number as number_kind}
use Rattle.archive_core.specs.Value.{Value, case, list, hole, number, value, no_value}
use Rattle.archive_core.specs.Writing.{IsKeyed, to_pointee}
use Rattle.recursive_fields.specs.declared.json.MessageResolver.{MessageResolver}
use Rattle.std.specs.Int.{w8}
use Rattle.std.specs.Prelude.{List, [], ◌++◌, ◌≤◌, refl, pos, length, ⊤}
use Rattle.recursive_fields.specs.MessageShape.{message_name, message_shape, message_definitions, message_variants, message_variant_definitions, message_has_variants, message_nothing_parts, message_nothing_definitions, message_sent_parts, message_sent_definitions, message_listed_parts, message_listed_definitions}
use Rattle.recursive_fields.specs.declared.json.Message.{Message as Message-Source}
use Rattle.recursive_fields.specs.declared.json.Message.TheVariants as Its
use Rattle.recursive_fields.specs.declared.json.MessageResolver.TheVariants as Kept
use Rattle.recursive_fields.specs.JsonShape.{json_shape as shape_of_json, json_definitions as definitions_of_json}
use Rattle.recursive_fields.specs.contracts.json.JsonArchive.TheImpl as source_of_json
use Rattle.recursive_fields.specs.contracts.json.JsonArchive.TheImpl.Laws.{keyed-law as keyed_of_json, planned-law as planned_of_json}

abbrev pub message_meaning : Message-Source → Value
message_meaning Its.Nothing = case 0 no_value
message_meaning (Its.Sent a0 a1) = case 1 (value ((source_of_json.ghosts).meaning a0) (value (option_meaning (λ y. ((source_of_json.ghosts).meaning y)) a1) no_value))
message_meaning (Its.Listed a0 a1) = case 2 (value (number (pos a0)) (value (list (each_meaning (λ y. ((source_of_json.ghosts).meaning y)) a1.items)) no_value))

abbrev pub message_keys : Message-Source → (List Naming)
message_keys Its.Nothing = []
message_keys (Its.Sent a0 a1) = (((source_of_json.ghosts).keys a0) ++ ((option_keys (λ y. ((source_of_json.ghosts).keys y)) a1) ++ []))
message_keys (Its.Listed a0 a1) = ([] ++ ((each_keys (λ y. ((source_of_json.ghosts).keys y)) a1.items) ++ []))

-- what is read in its place, by the resolver of the same variant
abbrev pub message_flat : Message-Source → MessageResolver → Value
message_flat Its.Nothing r = case 0 no_value
message_flat (Its.Sent a0 a1) r = elim r [ Kept.Sent s ↦ case 1 (value ((source_of_json.ghosts).flat a0 s.0) (value (option_flat (λ y s. ((source_of_json.ghosts).flat y s)) a1 s.1.0) no_value)) | _ ↦ case 1 no_value ]
message_flat (Its.Listed a0 a1) r = elim r [ Kept.Listed s ↦ case 2 (value (number (pos a0)) (value (hole (to_pointee s.1.0 (run shape_of_json) (length a1.items))) no_value)) | _ ↦ case 2 no_value ]

abbrev pub message_belongs : Message-Source → MessageResolver → Type 0
message_belongs Its.Nothing r = elim r [ Kept.Nothing ↦ Unit {0} | _ ↦ ⊥ ]
message_belongs (Its.Sent a0 a1) r = elim r [ Kept.Sent s ↦ (((source_of_json.ghosts).belongs a0 s.0) × ((OptionBelongs (λ y s. ((source_of_json.ghosts).belongs y s)) a1 s.1.0) × Unit {0})) | _ ↦ ⊥ ]
message_belongs (Its.Listed a0 a1) r = elim r [ Kept.Listed s ↦ (⊤ × ((length a1.items ≤ 4294967295) × Unit {0})) | _ ↦ ⊥ ]

pub message_keyed : (t : Message-Source) → IsKeyed (message_keys t) (message_meaning t)
message_keyed Its.Nothing = case_keyed _ 0 _ nothing_keyed
message_keyed (Its.Sent a0 a1) = case_keyed _ 1 _ (part_keyed (keyed_of_json a0) (part_keyed (option_keyed (λ y. ((source_of_json.ghosts).keys y)) (λ y. ((source_of_json.ghosts).meaning y)) (λ y. (keyed_of_json y)) a1) nothing_keyed))
message_keyed (Its.Listed a0 a1) = case_keyed _ 2 _ (part_keyed (number_keyed _) (part_keyed (each_keyed (λ y. ((source_of_json.ghosts).keys y)) (λ y. ((source_of_json.ghosts).meaning y)) (λ y. (keyed_of_json y)) a1.items) nothing_keyed))

pub message_planned : (t : Message-Source) → HasPlan message_definitions message_shape (message_keys t) (message_meaning t)
message_planned Its.Nothing = variant_planned message_definitions message_shape message_name message_variant_definitions message_variants message_has_variants 0 message_nothing_parts refl message_nothing_definitions refl _ _ no_part_planned
message_planned (Its.Sent a0 a1) = variant_planned message_definitions message_shape message_name message_variant_definitions message_variants message_has_variants 1 message_sent_parts refl message_sent_definitions refl _ _ (part_planned definitions_of_json shape_of_json ((source_of_json.ghosts).keys a0) ((source_of_json.ghosts).meaning a0) (planned_of_json a0) (part_planned definitions_of_json (option_shape shape_of_json) (option_keys (λ y. ((source_of_json.ghosts).keys y)) a1) (option_meaning (λ y. ((source_of_json.ghosts).meaning y)) a1) (option_planned definitions_of_json shape_of_json (λ y. ((source_of_json.ghosts).keys y)) (λ y. ((source_of_json.ghosts).meaning y)) (λ y. (planned_of_json y)) a1) no_part_planned))
message_planned (Its.Listed a0 a1) = variant_planned message_definitions message_shape message_name message_variant_definitions message_variants message_has_variants 2 message_listed_parts refl message_listed_definitions refl _ _ (part_planned no_definition (leaf (number_kind unsigned w8)) [] (number (pos a0)) (leaf_planned no_definition _ _ [] _ refl) (part_planned definitions_of_json (vec shape_of_json) (each_keys (λ y. ((source_of_json.ghosts).keys y)) a1.items) (list (each_meaning (λ y. ((source_of_json.ghosts).meaning y)) a1.items)) (vec_planned definitions_of_json shape_of_json _ _ _ (slice_planned definitions_of_json shape_of_json (λ y. ((source_of_json.ghosts).keys y)) (λ y. ((source_of_json.ghosts).meaning y)) (λ y. (planned_of_json y)) a1.items)) no_part_planned))
