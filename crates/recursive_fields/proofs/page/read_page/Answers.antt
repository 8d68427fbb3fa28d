-- Written by tools/derive: change the declaration, and run it again.
use Rattle.archive_core.proofs.ReadRecords.{record_read_back, record_refuses, first_refuses, later_refuses}
use Rattle.archive_core.specs.Definitions.{both, no_definition}
use Rattle.archive_core.specs.PartsReading.{part_read_back, no_part_read_back}
use Rattle.archive_core.specs.Runs.{each_keys}
use Rattle.archive_core.specs.Shape.{vec, part, no_part}
use Rattle.recursive_fields.specs.PageShape.{page_shape, page_definitions, page_parts, page_part_definitions, page_has_parts}
use Rattle.std.proofs.Common.{◌++◌, [], length, refl}
use Rattle.std.specs.Prelude.{[], ◌++◌, refl, length}
use Rattle.recursive_fields.specs.JsonShape.{json_shape as shape_of_json, json_definitions as definitions_of_json, json_has_layout as has_layout_of_json}
use Rattle.recursive_fields.specs.MessageShape.{message_shape as shape_of_message, message_definitions as definitions_of_message}
use Rattle.recursive_fields.specs.contracts.json.JsonArchive.TheImpl as source_of_json
use Rattle.recursive_fields.specs.contracts.json.MessageArchive.TheImpl as source_of_message
use Rattle.recursive_fields.proofs.page.read_page.Goals as goal

pub returns-in-Err-clause-refused : goal.returns-in-Err-clause-refused
returns-in-Err-clause-refused g c = (record_refuses page_definitions page_shape page_part_definitions page_parts page_has_parts _ _ _ _ _ (first_refuses definitions_of_json (both definitions_of_message no_definition) shape_of_json (record { size = 16; align = 8 }) has_layout_of_json (part (vec shape_of_message) no_part) _ _ 0 _ _ (rw (c.part_of_record-p0.ensures.buffer, c.part_of_record-p0.ensures.position, c.part_of_record-p0.ensures.length) at c.in-Err.ensures.refused)))

pub returns-in-Err-read_part-clause-refused : goal.returns-in-Err-read_part-clause-refused
returns-in-Err-read_part-clause-refused g c = (record_refuses page_definitions page_shape page_part_definitions page_parts page_has_parts _ _ _ _ _ (later_refuses definitions_of_json (both definitions_of_message no_definition) shape_of_json (record { size = 16; align = 8 }) has_layout_of_json (part (vec shape_of_message) no_part) _ _ 0 _ _ _ c.in-Ok.ensures.read.kept (first_refuses definitions_of_message no_definition (vec shape_of_message) (record { size = 8; align = 4 }) (record { solved = λ s k. refl }) no_part _ _ 16 _ _ (rw (c.part_of_record-p1.ensures.buffer, c.part_of_record-p1.ensures.position, c.part_of_record-p1.ensures.length) at c.in-Err-read_part.ensures.refused))))

pub returns-clause-read : goal.returns-clause-read
returns-clause-read g c = (record_read_back page_definitions page_shape page_part_definitions page_parts page_has_parts _ _ _ _ _ _ _ (part_read_back {L = (record { size = 16; align = 8 })} {ks = ((source_of_json.ghosts).keys c.in-Ok.a0)} {ls = ((each_keys (λ y. ((source_of_message.ghosts).keys y)) c.in-Ok-read_part.a1.items) ++ [])} has_layout_of_json (rw (c.part_of_record-p0.ensures.buffer, c.part_of_record-p0.ensures.position, c.part_of_record-p0.ensures.length) at c.in-Ok.ensures.read) (part_read_back {L = (record { size = 8; align = 4 })} {ks = (each_keys (λ y. ((source_of_message.ghosts).keys y)) c.in-Ok-read_part.a1.items)} {ls = []} (record { solved = λ s k. refl }) (rw (c.part_of_record-p1.ensures.buffer, c.part_of_record-p1.ensures.position, c.part_of_record-p1.ensures.length) at c.in-Ok-read_part.ensures.read) no_part_read_back)))
