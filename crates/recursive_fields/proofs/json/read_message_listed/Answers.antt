-- Written by tools/derive: change the declaration, and run it again.
use Rattle.archive_core.proofs.ReadChoices.{variant_read_back, variant_refuses}
use Rattle.archive_core.proofs.ReadRecords.{first_refuses, later_refuses}
use Rattle.archive_core.specs.Definitions.{both, no_definition}
use Rattle.archive_core.specs.PartsReading.{part_read_back, no_part_read_back}
use Rattle.archive_core.specs.Runs.{each_keys}
use Rattle.archive_core.specs.Shape.{vec, leaf, unsigned, part, no_part, number as number_kind}
use Rattle.recursive_fields.specs.MessageShape.{message_name, message_shape, message_definitions, message_variants, message_variant_definitions, message_has_variants, message_listed_parts, message_listed_definitions}
use Rattle.std.proofs.Common.{◌++◌, [], length, refl}
use Rattle.std.specs.Int.{w8}
use Rattle.std.specs.Prelude.{[], ◌++◌, refl, length}
use Rattle.recursive_fields.specs.JsonShape.{json_shape as shape_of_json, json_definitions as definitions_of_json}
use Rattle.recursive_fields.specs.contracts.json.JsonArchive.TheImpl as source_of_json
use Rattle.recursive_fields.proofs.json.read_message_listed.Goals as goal

pub returns-in-Err-clause-refused : goal.returns-in-Err-clause-refused
returns-in-Err-clause-refused g c = (variant_refuses message_definitions message_shape message_name message_variant_definitions message_variants message_has_variants 2 message_listed_parts refl message_listed_definitions refl _ _ _ c.requires.tag _ _ (first_refuses no_definition (both definitions_of_json no_definition) (leaf (number_kind unsigned w8)) (record { size = 1; align = 1 }) (record { solved = λ s k. refl }) (part (vec shape_of_json) no_part) _ _ 1 _ _ (rw (c.part_of_variant-p0.ensures.buffer, c.part_of_variant-p0.ensures.position, c.part_of_variant-p0.ensures.length) at c.in-Err.ensures.refused)))

pub returns-in-Err-read_part-clause-refused : goal.returns-in-Err-read_part-clause-refused
returns-in-Err-read_part-clause-refused g c = (variant_refuses message_definitions message_shape message_name message_variant_definitions message_variants message_has_variants 2 message_listed_parts refl message_listed_definitions refl _ _ _ c.requires.tag _ _ (later_refuses no_definition (both definitions_of_json no_definition) (leaf (number_kind unsigned w8)) (record { size = 1; align = 1 }) (record { solved = λ s k. refl }) (part (vec shape_of_json) no_part) _ _ 1 _ _ _ c.in-Ok.ensures.read.kept (first_refuses definitions_of_json no_definition (vec shape_of_json) (record { size = 8; align = 4 }) (record { solved = λ s k. refl }) no_part _ _ 2 _ _ (rw (c.part_of_variant-p1.ensures.buffer, c.part_of_variant-p1.ensures.position, c.part_of_variant-p1.ensures.length) at c.in-Err-read_part.ensures.refused))))

pub returns-clause-read : goal.returns-clause-read
returns-clause-read g c = (variant_read_back message_definitions message_shape message_name message_variant_definitions message_variants message_has_variants 2 message_listed_parts refl message_listed_definitions refl _ _ _ c.requires.tag _ _ _ _ (part_read_back {L = (record { size = 1; align = 1 })} {ks = []} {ls = ((each_keys (λ y. ((source_of_json.ghosts).keys y)) c.in-Ok-read_part.a1.items) ++ [])} (record { solved = λ s k. refl }) (rw (c.part_of_variant-p0.ensures.buffer, c.part_of_variant-p0.ensures.position, c.part_of_variant-p0.ensures.length) at c.in-Ok.ensures.read) (part_read_back {L = (record { size = 8; align = 4 })} {ks = (each_keys (λ y. ((source_of_json.ghosts).keys y)) c.in-Ok-read_part.a1.items)} {ls = []} (record { solved = λ s k. refl }) (rw (c.part_of_variant-p1.ensures.buffer, c.part_of_variant-p1.ensures.position, c.part_of_variant-p1.ensures.length) at c.in-Ok-read_part.ensures.read) no_part_read_back)))
