-- Written by tools/derive: change the declaration, and run it again.
use Rattle.archive_core.proofs.Causes.{goes_both}
use Rattle.archive_core.proofs.PlannedParts.{serialized_no_part, serialized_part, serialized_record, record_refused, first_refused, later_refused}
use Rattle.archive_core.specs.Definitions.{both, no_definition}
use Rattle.archive_core.specs.PartsPlanned.{part_planned, no_part_planned}
use Rattle.archive_core.specs.PlannedOwners.{vec_planned, slice_planned}
use Rattle.archive_core.specs.Runs.{each_keys, each_meaning}
use Rattle.archive_core.specs.Shape.{vec, part, no_part}
use Rattle.archive_core.specs.Value.{list, value, no_value}
use Rattle.recursive_fields.specs.PageShape.{page_shape, page_definitions, page_parts, page_part_definitions, page_has_parts}
use Rattle.std.proofs.Common.{◌++◌, []}
use Rattle.std.specs.Prelude.{[], ◌++◌}
use Rattle.recursive_fields.specs.JsonShape.{json_shape as shape_of_json, json_definitions as definitions_of_json}
use Rattle.recursive_fields.specs.MessageShape.{message_shape as shape_of_message, message_definitions as definitions_of_message}
use Rattle.recursive_fields.specs.contracts.json.JsonArchive.TheImpl as source_of_json
use Rattle.recursive_fields.specs.contracts.json.MessageArchive.TheImpl as source_of_message
use Rattle.recursive_fields.specs.contracts.json.MessageArchive.TheImpl.Laws.{planned-law as planned_of_message}
use Rattle.recursive_fields.proofs.page.serialize_page.Goals as goal

pub returns-in-Err-clause-refused : goal.returns-in-Err-clause-refused
returns-in-Err-clause-refused g c = (record_refused page_definitions page_shape page_part_definitions page_parts page_has_parts _ _ _ _ _ (first_refused definitions_of_json (both definitions_of_message no_definition) shape_of_json (part (vec shape_of_message) no_part) ((source_of_json.ghosts).keys c.args.value.now.subject) ((each_keys (λ y. ((source_of_message.ghosts).keys y)) c.args.value.now.messages.items) ++ []) ((source_of_json.ghosts).meaning c.args.value.now.subject) (value (list (each_meaning (λ y. ((source_of_message.ghosts).meaning y)) c.args.value.now.messages.items)) no_value) _ _ _ (part_planned definitions_of_message (vec shape_of_message) (each_keys (λ y. ((source_of_message.ghosts).keys y)) c.args.value.now.messages.items) (list (each_meaning (λ y. ((source_of_message.ghosts).meaning y)) c.args.value.now.messages.items)) (vec_planned definitions_of_message shape_of_message _ _ _ (slice_planned definitions_of_message shape_of_message (λ y. ((source_of_message.ghosts).keys y)) (λ y. ((source_of_message.ghosts).meaning y)) (λ y. (planned_of_message y)) c.args.value.now.messages.items)) no_part_planned) c.in-Err.ensures.refused))

pub returns-in-Err-serialize_part-clause-refused : goal.returns-in-Err-serialize_part-clause-refused
returns-in-Err-serialize_part-clause-refused g c = (record_refused page_definitions page_shape page_part_definitions page_parts page_has_parts _ _ _ _ _ (later_refused definitions_of_json (both definitions_of_message no_definition) shape_of_json (part (vec shape_of_message) no_part) ((source_of_json.ghosts).keys c.args.value.now.subject) ((each_keys (λ y. ((source_of_message.ghosts).keys y)) c.args.value.now.messages.items) ++ []) ((source_of_json.ghosts).meaning c.args.value.now.subject) (value (list (each_meaning (λ y. ((source_of_message.ghosts).meaning y)) c.args.value.now.messages.items)) no_value) _ _ _ _ _ c.in-Ok.ensures.serialized c.serialize_part.ensures.goes_on c.serialize_part-2.ensures.goes_on (first_refused definitions_of_message no_definition (vec shape_of_message) no_part (each_keys (λ y. ((source_of_message.ghosts).keys y)) c.args.value.now.messages.items) [] (list (each_meaning (λ y. ((source_of_message.ghosts).meaning y)) c.args.value.now.messages.items)) no_value _ _ _ no_part_planned c.in-Err-serialize_part.ensures.refused)))

pub returns-in-Err-serialize_part-clause-goes_on : goal.returns-in-Err-serialize_part-clause-goes_on
returns-in-Err-serialize_part-clause-goes_on g c = (goes_both _ _ _ c.serialize_part.ensures.goes_on c.serialize_part-2.ensures.goes_on)

pub returns-clause-serialized : goal.returns-clause-serialized
returns-clause-serialized g c = (serialized_record page_definitions page_shape page_part_definitions page_parts page_has_parts _ _ _ _ _ (serialized_part definitions_of_json (both definitions_of_message no_definition) shape_of_json (part (vec shape_of_message) no_part) ((source_of_json.ghosts).keys c.args.value.now.subject) ((each_keys (λ y. ((source_of_message.ghosts).keys y)) c.args.value.now.messages.items) ++ []) ((source_of_json.ghosts).meaning c.args.value.now.subject) (value (list (each_meaning (λ y. ((source_of_message.ghosts).meaning y)) c.args.value.now.messages.items)) no_value) _ _ _ _ _ c.in-Ok.ensures.serialized (serialized_part definitions_of_message no_definition (vec shape_of_message) no_part (each_keys (λ y. ((source_of_message.ghosts).keys y)) c.args.value.now.messages.items) [] (list (each_meaning (λ y. ((source_of_message.ghosts).meaning y)) c.args.value.now.messages.items)) no_value _ _ _ _ _ c.in-Ok-serialize_part.ensures.serialized (serialized_no_part no_definition _))))

pub returns-clause-goes_on : goal.returns-clause-goes_on
returns-clause-goes_on g c = (goes_both _ _ _ c.serialize_part.ensures.goes_on c.serialize_part-2.ensures.goes_on)
