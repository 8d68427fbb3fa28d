-- Written by tools/derive: change the declaration, and run it again.
use Rattle.archive_core.proofs.ReadChoices.{variant_read_back, variant_refuses}
use Rattle.archive_core.proofs.ReadRecords.{first_refuses}
use Rattle.archive_core.specs.Definitions.{no_definition}
use Rattle.archive_core.specs.Held.{read_as}
use Rattle.archive_core.specs.PartsReading.{part_read_back, no_part_read_back}
use Rattle.archive_core.specs.Shape.{leaf, unsigned, no_part, number as number_kind}
use Rattle.recursive_types.specs.DirMeaning.{entry_file_means, entry_file_has_keys}
use Rattle.recursive_types.specs.DirShape.{entry_name, entry_shape, entry_definitions, entry_variants, entry_variant_definitions, entry_has_variants, entry_file_parts, entry_file_definitions}
use Rattle.std.proofs.Common.{[], length, refl}
use Rattle.std.specs.Int.{w64}
use Rattle.std.specs.Prelude.{[], refl, length}
use Rattle.recursive_types.proofs.dir.read_entry_file.Goals as goal

pub returns-in-Err-clause-refused : goal.returns-in-Err-clause-refused
returns-in-Err-clause-refused g c = (variant_refuses entry_definitions entry_shape entry_name entry_variant_definitions entry_variants entry_has_variants 0 entry_file_parts refl entry_file_definitions refl _ _ _ c.requires.tag _ _ (first_refuses no_definition no_definition (leaf (number_kind unsigned w64)) (record { size = 8; align = 8 }) (record { solved = λ s k. refl }) no_part _ _ 1 _ _ (rw (c.part_of_variant-p0.ensures.buffer, c.part_of_variant-p0.ensures.position, c.part_of_variant-p0.ensures.length) at c.in-Err.ensures.refused)))

pub returns-clause-read : goal.returns-clause-read
returns-clause-read g c = read_as (entry_file_has_keys c.in-Ok.a0) (entry_file_means c.in-Ok.a0) (variant_read_back entry_definitions entry_shape entry_name entry_variant_definitions entry_variants entry_has_variants 0 entry_file_parts refl entry_file_definitions refl _ _ _ c.requires.tag _ _ _ _ (part_read_back {L = (record { size = 8; align = 8 })} {ks = []} {ls = []} (record { solved = λ s k. refl }) (rw (c.part_of_variant-p0.ensures.buffer, c.part_of_variant-p0.ensures.position, c.part_of_variant-p0.ensures.length) at c.in-Ok.ensures.read) no_part_read_back))
