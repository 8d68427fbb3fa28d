-- Written by tools/derive: change the declaration, and run it again.
use Rattle.archive_core.proofs.OwnChoices.{serialized_variant, variant_refused}
use Rattle.archive_core.proofs.PlannedParts.{serialized_no_part, serialized_part, first_refused}
use Rattle.archive_core.specs.Definitions.{no_definition}
use Rattle.archive_core.specs.Digits.{bool_byte}
use Rattle.archive_core.specs.PartsPlanned.{no_part_planned}
use Rattle.archive_core.specs.Shape.{leaf, bool, no_part}
use Rattle.archive_core.specs.Value.{number, no_value}
use Rattle.recursive_fields.specs.NoteShape.{note_name, note_shape, note_definitions, note_variants, note_variant_definitions, note_has_variants, note_done_parts, note_done_definitions}
use Rattle.std.proofs.Common.{[], refl, pos}
use Rattle.std.specs.Prelude.{[], refl, pos}
use Rattle.recursive_fields.proofs.note.serialize_note_done.Goals as goal

pub returns-in-Err-clause-refused : goal.returns-in-Err-clause-refused
returns-in-Err-clause-refused g c = (variant_refused note_definitions note_shape note_name note_variant_definitions note_variants note_has_variants 3 note_done_parts refl note_done_definitions refl _ _ _ _ _ (first_refused no_definition no_definition (leaf bool) no_part [] [] (number (pos (bool_byte c.args.a0.now))) no_value _ _ _ no_part_planned c.in-Err.ensures.refused))

pub returns-clause-serialized : goal.returns-clause-serialized
returns-clause-serialized g c = (serialized_variant note_definitions note_shape note_name note_variant_definitions note_variants note_has_variants 3 note_done_parts refl note_done_definitions refl _ _ _ _ _ (serialized_part no_definition no_definition (leaf bool) no_part [] [] (number (pos (bool_byte c.args.a0.now))) no_value _ _ _ _ _ c.in-Ok.ensures.serialized (serialized_no_part no_definition _)))
