-- Written by tools/derive: change the declaration, and run it again.
use Rattle.archive_core.proofs.OwnChoices.{serialized_variant, variant_refused}
use Rattle.archive_core.proofs.PlannedParts.{serialized_no_part, serialized_part, first_refused}
use Rattle.archive_core.specs.Definitions.{no_definition}
use Rattle.archive_core.specs.PartsPlanned.{no_part_planned}
use Rattle.archive_core.specs.Shape.{str, no_part}
use Rattle.archive_core.specs.Value.{no_value, text_value}
use Rattle.recursive_fields.specs.NoteShape.{note_name, note_shape, note_definitions, note_variants, note_variant_definitions, note_has_variants, note_text_parts, note_text_definitions}
use Rattle.std.proofs.Common.{[], refl, string_bytes}
use Rattle.std.specs.Prelude.{[], refl, string_bytes}
use Rattle.recursive_fields.proofs.note.serialize_note_text.Goals as goal

pub returns-in-Err-clause-refused : goal.returns-in-Err-clause-refused
returns-in-Err-clause-refused g c = (variant_refused note_definitions note_shape note_name note_variant_definitions note_variants note_has_variants 0 note_text_parts refl note_text_definitions refl _ _ _ _ _ (first_refused no_definition no_definition str no_part [] [] (text_value (string_bytes c.args.a0.now)) no_value _ _ _ no_part_planned c.in-Err.ensures.refused))

pub returns-clause-serialized : goal.returns-clause-serialized
returns-clause-serialized g c = (serialized_variant note_definitions note_shape note_name note_variant_definitions note_variants note_has_variants 0 note_text_parts refl note_text_definitions refl _ _ _ _ _ (serialized_part no_definition no_definition str no_part [] [] (text_value (string_bytes c.args.a0.now)) no_value _ _ _ _ _ c.in-Ok.ensures.serialized (serialized_no_part no_definition _)))
