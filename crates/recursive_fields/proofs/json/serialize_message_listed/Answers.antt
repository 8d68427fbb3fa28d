-- Written by tools/derive: change the declaration, and run it again.
use Rattle.archive_core.proofs.Causes.{goes_both}
use Rattle.archive_core.proofs.OwnChoices.{serialized_variant, variant_refused}
use Rattle.archive_core.proofs.PlannedParts.{serialized_no_part, serialized_part, first_refused, later_refused}
use Rattle.archive_core.specs.Definitions.{both, no_definition}
use Rattle.archive_core.specs.PartsPlanned.{part_planned, no_part_planned}
use Rattle.archive_core.specs.PlannedOwners.{vec_planned, slice_planned}
use Rattle.archive_core.specs.Runs.{each_keys, each_meaning}
use Rattle.archive_core.specs.Shape.{vec, leaf, unsigned, part, no_part, number as number_kind}
use Rattle.archive_core.specs.Value.{list, number, value, no_value}
use Rattle.recursive_fields.specs.MessageShape.{message_name, message_shape, message_definitions, message_variants, message_variant_definitions, message_has_variants, message_listed_parts, message_listed_definitions}
use Rattle.std.proofs.Common.{◌++◌, [], refl, pos}
use Rattle.std.specs.Int.{w8}
use Rattle.std.specs.Prelude.{[], ◌++◌, refl, pos}
use Rattle.recursive_fields.specs.JsonShape.{json_shape as shape_of_json, json_definitions as definitions_of_json}
use Rattle.recursive_fields.specs.contracts.json.JsonArchive.TheImpl as source_of_json
use Rattle.recursive_fields.specs.contracts.json.JsonArchive.TheImpl.Laws.{planned-law as planned_of_json}
use Rattle.recursive_fields.proofs.json.serialize_message_listed.Goals as goal

pub returns-in-Err-clause-refused : goal.returns-in-Err-clause-refused
returns-in-Err-clause-refused g c = (variant_refused message_definitions message_shape message_name message_variant_definitions message_variants message_has_variants 2 message_listed_parts refl message_listed_definitions refl _ _ _ _ _ (first_refused no_definition (both definitions_of_json no_definition) (leaf (number_kind unsigned w8)) (part (vec shape_of_json) no_part) [] ((each_keys (λ y. ((source_of_json.ghosts).keys y)) c.args.a1.now.items) ++ []) (number (pos c.args.a0.now)) (value (list (each_meaning (λ y. ((source_of_json.ghosts).meaning y)) c.args.a1.now.items)) no_value) _ _ _ (part_planned definitions_of_json (vec shape_of_json) (each_keys (λ y. ((source_of_json.ghosts).keys y)) c.args.a1.now.items) (list (each_meaning (λ y. ((source_of_json.ghosts).meaning y)) c.args.a1.now.items)) (vec_planned definitions_of_json shape_of_json _ _ _ (slice_planned definitions_of_json shape_of_json (λ y. ((source_of_json.ghosts).keys y)) (λ y. ((source_of_json.ghosts).meaning y)) (λ y. (planned_of_json y)) c.args.a1.now.items)) no_part_planned) c.in-Err.ensures.refused))

pub returns-in-Err-serialize_part-clause-refused : goal.returns-in-Err-serialize_part-clause-refused
returns-in-Err-serialize_part-clause-refused g c = (variant_refused message_definitions message_shape message_name message_variant_definitions message_variants message_has_variants 2 message_listed_parts refl message_listed_definitions refl _ _ _ _ _ (later_refused no_definition (both definitions_of_json no_definition) (leaf (number_kind unsigned w8)) (part (vec shape_of_json) no_part) [] ((each_keys (λ y. ((source_of_json.ghosts).keys y)) c.args.a1.now.items) ++ []) (number (pos c.args.a0.now)) (value (list (each_meaning (λ y. ((source_of_json.ghosts).meaning y)) c.args.a1.now.items)) no_value) _ _ _ _ _ c.in-Ok.ensures.serialized c.serialize_part.ensures.goes_on c.serialize_part-2.ensures.goes_on (first_refused definitions_of_json no_definition (vec shape_of_json) no_part (each_keys (λ y. ((source_of_json.ghosts).keys y)) c.args.a1.now.items) [] (list (each_meaning (λ y. ((source_of_json.ghosts).meaning y)) c.args.a1.now.items)) no_value _ _ _ no_part_planned c.in-Err-serialize_part.ensures.refused)))

pub returns-in-Err-serialize_part-clause-goes_on : goal.returns-in-Err-serialize_part-clause-goes_on
returns-in-Err-serialize_part-clause-goes_on g c = (goes_both _ _ _ c.serialize_part.ensures.goes_on c.serialize_part-2.ensures.goes_on)

pub returns-clause-serialized : goal.returns-clause-serialized
returns-clause-serialized g c = (serialized_variant message_definitions message_shape message_name message_variant_definitions message_variants message_has_variants 2 message_listed_parts refl message_listed_definitions refl _ _ _ _ _ (serialized_part no_definition (both definitions_of_json no_definition) (leaf (number_kind unsigned w8)) (part (vec shape_of_json) no_part) [] ((each_keys (λ y. ((source_of_json.ghosts).keys y)) c.args.a1.now.items) ++ []) (number (pos c.args.a0.now)) (value (list (each_meaning (λ y. ((source_of_json.ghosts).meaning y)) c.args.a1.now.items)) no_value) _ _ _ _ _ c.in-Ok.ensures.serialized (serialized_part definitions_of_json no_definition (vec shape_of_json) no_part (each_keys (λ y. ((source_of_json.ghosts).keys y)) c.args.a1.now.items) [] (list (each_meaning (λ y. ((source_of_json.ghosts).meaning y)) c.args.a1.now.items)) no_value _ _ _ _ _ c.in-Ok-serialize_part.ensures.serialized (serialized_no_part no_definition _))))

pub returns-clause-goes_on : goal.returns-clause-goes_on
returns-clause-goes_on g c = (goes_both _ _ _ c.serialize_part.ensures.goes_on c.serialize_part-2.ensures.goes_on)
