-- Written by tools/derive: change the declaration, and run it again.
use Rattle.archive_core.proofs.ReadChoices.{variant_read_back, variant_refuses}
use Rattle.archive_core.proofs.ReadRecords.{first_refuses, later_refuses}
use Rattle.archive_core.specs.Choices.{option_has_layout, option_shape}
use Rattle.archive_core.specs.Definitions.{both, no_definition}
use Rattle.archive_core.specs.Options.{option_keys}
use Rattle.archive_core.specs.PartsReading.{part_read_back, no_part_read_back}
use Rattle.archive_core.specs.Shape.{part, no_part}
use Rattle.recursive_fields.specs.MessageShape.{message_name, message_shape, message_definitions, message_variants, message_variant_definitions, message_has_variants, message_sent_parts, message_sent_definitions}
use Rattle.std.proofs.Common.{inl, inr, ◌++◌, [], length, refl}
use Rattle.std.specs.Prelude.{[], ◌++◌, refl, length}
use Rattle.recursive_fields.specs.JsonShape.{json_shape as shape_of_json, json_definitions as definitions_of_json, json_has_layout as has_layout_of_json}
use Rattle.recursive_fields.specs.contracts.json.JsonArchive.TheImpl as source_of_json
use Rattle.recursive_fields.proofs.json.read_message_sent.Goals as goal

pub returns-in-Err-clause-refused : goal.returns-in-Err-clause-refused
returns-in-Err-clause-refused g c = (variant_refuses message_definitions message_shape message_name message_variant_definitions message_variants message_has_variants 1 message_sent_parts refl message_sent_definitions refl _ _ _ c.requires.tag _ _ (first_refuses definitions_of_json (both definitions_of_json no_definition) shape_of_json (record { size = 16; align = 8 }) has_layout_of_json (part (option_shape shape_of_json) no_part) _ _ 1 _ _ (rw (c.part_of_variant-p0.ensures.buffer, c.part_of_variant-p0.ensures.position, c.part_of_variant-p0.ensures.length) at c.in-Err.ensures.refused)))

pub returns-in-Err-read_part-clause-refused : goal.returns-in-Err-read_part-clause-refused
returns-in-Err-read_part-clause-refused g c = (variant_refuses message_definitions message_shape message_name message_variant_definitions message_variants message_has_variants 1 message_sent_parts refl message_sent_definitions refl _ _ _ c.requires.tag _ _ (later_refuses definitions_of_json (both definitions_of_json no_definition) shape_of_json (record { size = 16; align = 8 }) has_layout_of_json (part (option_shape shape_of_json) no_part) _ _ 1 _ _ _ c.in-Ok.ensures.read.kept (first_refuses definitions_of_json no_definition (option_shape shape_of_json) (record { size = 24; align = 8 }) (option_has_layout definitions_of_json shape_of_json (record { size = 16; align = 8 }) (inr (inr (inr (inl refl)))) has_layout_of_json) no_part _ _ 24 _ _ (rw (c.part_of_variant-p1.ensures.buffer, c.part_of_variant-p1.ensures.position, c.part_of_variant-p1.ensures.length) at c.in-Err-read_part.ensures.refused))))

pub returns-clause-read : goal.returns-clause-read
returns-clause-read g c = (variant_read_back message_definitions message_shape message_name message_variant_definitions message_variants message_has_variants 1 message_sent_parts refl message_sent_definitions refl _ _ _ c.requires.tag _ _ _ _ (part_read_back {L = (record { size = 16; align = 8 })} {ks = ((source_of_json.ghosts).keys c.in-Ok.a0)} {ls = ((option_keys (λ y. ((source_of_json.ghosts).keys y)) c.in-Ok-read_part.a1) ++ [])} has_layout_of_json (rw (c.part_of_variant-p0.ensures.buffer, c.part_of_variant-p0.ensures.position, c.part_of_variant-p0.ensures.length) at c.in-Ok.ensures.read) (part_read_back {L = (record { size = 24; align = 8 })} {ks = (option_keys (λ y. ((source_of_json.ghosts).keys y)) c.in-Ok-read_part.a1)} {ls = []} (option_has_layout definitions_of_json shape_of_json (record { size = 16; align = 8 }) (inr (inr (inr (inl refl)))) has_layout_of_json) (rw (c.part_of_variant-p1.ensures.buffer, c.part_of_variant-p1.ensures.position, c.part_of_variant-p1.ensures.length) at c.in-Ok-read_part.ensures.read) no_part_read_back)))
