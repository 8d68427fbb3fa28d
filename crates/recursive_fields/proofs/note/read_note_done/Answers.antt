-- Written by tools/derive: change the declaration, and run it again.
use Rattle.archive_core.proofs.ReadChoices.{variant_read_back, variant_refuses}
use Rattle.archive_core.proofs.ReadRecords.{first_refuses}
use Rattle.archive_core.specs.Definitions.{no_definition}
use Rattle.archive_core.specs.Held.{read_as}
use Rattle.archive_core.specs.PartsReading.{part_read_back, no_part_read_back}
use Rattle.archive_core.specs.Shape.{leaf, bool, no_part}
use Rattle.recursive_fields.specs.NoteMeaning.{note_done_means, note_done_has_keys}
use Rattle.recursive_fields.specs.NoteShape.{note_name, note_shape, note_definitions, note_variants, note_variant_definitions, note_has_variants, note_done_parts, note_done_definitions}
use Rattle.std.proofs.Common.{[], length, refl}
use Rattle.std.specs.Prelude.{[], refl, length}
use Rattle.recursive_fields.proofs.note.read_note_done.Goals as goal

pub returns-in-Err-clause-refused : goal.returns-in-Err-clause-refused
returns-in-Err-clause-refused g c = (variant_refuses note_definitions note_shape note_name note_variant_definitions note_variants note_has_variants 3 note_done_parts refl note_done_definitions refl _ _ _ c.requires.tag _ _ (first_refuses no_definition no_definition (leaf bool) (record { size = 1; align = 1 }) (record { solved = λ s k. refl }) no_part _ _ 1 _ _ (rw (c.part_of_variant-p0.ensures.buffer, c.part_of_variant-p0.ensures.position, c.part_of_variant-p0.ensures.length) at c.in-Err.ensures.refused)))

pub returns-clause-read : goal.returns-clause-read
returns-clause-read g c = read_as (note_done_has_keys c.in-Ok.a0) (note_done_means c.in-Ok.a0) (variant_read_back note_definitions note_shape note_name note_variant_definitions note_variants note_has_variants 3 note_done_parts refl note_done_definitions refl _ _ _ c.requires.tag _ _ _ _ (part_read_back {L = (record { size = 1; align = 1 })} {ks = []} {ls = []} (record { solved = λ s k. refl }) (rw (c.part_of_variant-p0.ensures.buffer, c.part_of_variant-p0.ensures.position, c.part_of_variant-p0.ensures.length) at c.in-Ok.ensures.read) no_part_read_back))
