-- Written by tools/derive: change the declaration, and run it again.
use Rattle.archive_core.proofs.Causes.{goes_both}
use Rattle.archive_core.proofs.OwnChoices.{serialized_variant, variant_refused}
use Rattle.archive_core.proofs.PlannedParts.{serialized_no_part, serialized_part, first_refused, later_refused}
use Rattle.archive_core.specs.Choices.{option_shape}
use Rattle.archive_core.specs.Definitions.{both, no_definition}
use Rattle.archive_core.specs.Options.{option_keys, option_meaning, option_planned}
use Rattle.archive_core.specs.PartsPlanned.{part_planned, no_part_planned}
use Rattle.archive_core.specs.Shape.{part, no_part}
use Rattle.archive_core.specs.Value.{value, no_value}
use Rattle.recursive_fields.specs.MessageShape.{message_name, message_shape, message_definitions, message_variants, message_variant_definitions, message_has_variants, message_sent_parts, message_sent_definitions}
use Rattle.std.proofs.Common.{◌++◌, [], refl}
use Rattle.std.specs.Prelude.{[], ◌++◌, refl}
use Rattle.recursive_fields.specs.JsonShape.{json_shape as shape_of_json, json_definitions as definitions_of_json}
use Rattle.recursive_fields.specs.contracts.json.JsonArchive.TheImpl as source_of_json
use Rattle.recursive_fields.specs.contracts.json.JsonArchive.TheImpl.Laws.{planned-law as planned_of_json}
use Rattle.recursive_fields.proofs.json.serialize_message_sent.Goals as goal

pub returns-in-Err-clause-refused : goal.returns-in-Err-clause-refused
returns-in-Err-clause-refused g c = (variant_refused message_definitions message_shape message_name message_variant_definitions message_variants message_has_variants 1 message_sent_parts refl message_sent_definitions refl _ _ _ _ _ (first_refused definitions_of_json (both definitions_of_json no_definition) shape_of_json (part (option_shape shape_of_json) no_part) ((source_of_json.ghosts).keys c.args.a0.now) ((option_keys (λ y. ((source_of_json.ghosts).keys y)) c.args.a1.now) ++ []) ((source_of_json.ghosts).meaning c.args.a0.now) (value (option_meaning (λ y. ((source_of_json.ghosts).meaning y)) c.args.a1.now) no_value) _ _ _ (part_planned definitions_of_json (option_shape shape_of_json) (option_keys (λ y. ((source_of_json.ghosts).keys y)) c.args.a1.now) (option_meaning (λ y. ((source_of_json.ghosts).meaning y)) c.args.a1.now) (option_planned definitions_of_json shape_of_json (λ y. ((source_of_json.ghosts).keys y)) (λ y. ((source_of_json.ghosts).meaning y)) (λ y. (planned_of_json y)) c.args.a1.now) no_part_planned) c.in-Err.ensures.refused))

pub returns-in-Err-serialize_part-clause-refused : goal.returns-in-Err-serialize_part-clause-refused
returns-in-Err-serialize_part-clause-refused g c = (variant_refused message_definitions message_shape message_name message_variant_definitions message_variants message_has_variants 1 message_sent_parts refl message_sent_definitions refl _ _ _ _ _ (later_refused definitions_of_json (both definitions_of_json no_definition) shape_of_json (part (option_shape shape_of_json) no_part) ((source_of_json.ghosts).keys c.args.a0.now) ((option_keys (λ y. ((source_of_json.ghosts).keys y)) c.args.a1.now) ++ []) ((source_of_json.ghosts).meaning c.args.a0.now) (value (option_meaning (λ y. ((source_of_json.ghosts).meaning y)) c.args.a1.now) no_value) _ _ _ _ _ c.in-Ok.ensures.serialized c.serialize_part.ensures.goes_on c.serialize_part-2.ensures.goes_on (first_refused definitions_of_json no_definition (option_shape shape_of_json) no_part (option_keys (λ y. ((source_of_json.ghosts).keys y)) c.args.a1.now) [] (option_meaning (λ y. ((source_of_json.ghosts).meaning y)) c.args.a1.now) no_value _ _ _ no_part_planned c.in-Err-serialize_part.ensures.refused)))

pub returns-in-Err-serialize_part-clause-goes_on : goal.returns-in-Err-serialize_part-clause-goes_on
returns-in-Err-serialize_part-clause-goes_on g c = (goes_both _ _ _ c.serialize_part.ensures.goes_on c.serialize_part-2.ensures.goes_on)

pub returns-clause-serialized : goal.returns-clause-serialized
returns-clause-serialized g c = (serialized_variant message_definitions message_shape message_name message_variant_definitions message_variants message_has_variants 1 message_sent_parts refl message_sent_definitions refl _ _ _ _ _ (serialized_part definitions_of_json (both definitions_of_json no_definition) shape_of_json (part (option_shape shape_of_json) no_part) ((source_of_json.ghosts).keys c.args.a0.now) ((option_keys (λ y. ((source_of_json.ghosts).keys y)) c.args.a1.now) ++ []) ((source_of_json.ghosts).meaning c.args.a0.now) (value (option_meaning (λ y. ((source_of_json.ghosts).meaning y)) c.args.a1.now) no_value) _ _ _ _ _ c.in-Ok.ensures.serialized (serialized_part definitions_of_json no_definition (option_shape shape_of_json) no_part (option_keys (λ y. ((source_of_json.ghosts).keys y)) c.args.a1.now) [] (option_meaning (λ y. ((source_of_json.ghosts).meaning y)) c.args.a1.now) no_value _ _ _ _ _ c.in-Ok-serialize_part.ensures.serialized (serialized_no_part no_definition _))))

pub returns-clause-goes_on : goal.returns-clause-goes_on
returns-clause-goes_on g c = (goes_both _ _ _ c.serialize_part.ensures.goes_on c.serialize_part-2.ensures.goes_on)
