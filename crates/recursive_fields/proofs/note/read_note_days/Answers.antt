-- Written by tools/derive: change the declaration, and run it again.
use Rattle.archive_core.proofs.ReadChoices.{variant_read_back, variant_refuses}
use Rattle.archive_core.proofs.ReadRecords.{first_refuses}
use Rattle.archive_core.specs.Definitions.{no_definition}
use Rattle.archive_core.specs.Held.{read_as}
use Rattle.archive_core.specs.PartsReading.{part_read_back, no_part_read_back}
use Rattle.archive_core.specs.Runs.{each_keys}
use Rattle.archive_core.specs.Shape.{vec, leaf, unsigned, no_part, number as number_kind}
use Rattle.recursive_fields.specs.NoteMeaning.{note_days_means, note_days_has_keys}
use Rattle.recursive_fields.specs.NoteShape.{note_name, note_shape, note_definitions, note_variants, note_variant_definitions, note_has_variants, note_days_parts, note_days_definitions}
use Rattle.std.proofs.Common.{[], length, refl}
use Rattle.std.specs.Int.{w16}
use Rattle.std.specs.Prelude.{[], refl, length}
use Rattle.recursive_fields.proofs.note.read_note_days.Goals as goal

pub returns-in-Err-clause-refused : goal.returns-in-Err-clause-refused
returns-in-Err-clause-refused g c = (variant_refuses note_definitions note_shape note_name note_variant_definitions note_variants note_has_variants 4 note_days_parts refl note_days_definitions refl _ _ _ c.requires.tag _ _ (first_refuses no_definition no_definition (vec (leaf (number_kind unsigned w16))) (record { size = 8; align = 4 }) (record { solved = λ s k. refl }) no_part _ _ 1 _ _ (rw (c.part_of_variant-p0.ensures.buffer, c.part_of_variant-p0.ensures.position, c.part_of_variant-p0.ensures.length) at c.in-Err.ensures.refused)))

pub returns-clause-read : goal.returns-clause-read
returns-clause-read g c = read_as (note_days_has_keys c.in-Ok.a0) (note_days_means c.in-Ok.a0) (variant_read_back note_definitions note_shape note_name note_variant_definitions note_variants note_has_variants 4 note_days_parts refl note_days_definitions refl _ _ _ c.requires.tag _ _ _ _ (part_read_back {L = (record { size = 8; align = 4 })} {ks = (each_keys (λ y. []) c.in-Ok.a0.items)} {ls = []} (record { solved = λ s k. refl }) (rw (c.part_of_variant-p0.ensures.buffer, c.part_of_variant-p0.ensures.position, c.part_of_variant-p0.ensures.length) at c.in-Ok.ensures.read) no_part_read_back))
