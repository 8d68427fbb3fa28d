-- Written by tools/derive: change the declaration, and run it again.
use Rattle.archive_core.proofs.OwnChoices.{serialized_variant, variant_refused}
use Rattle.archive_core.proofs.PlannedParts.{serialized_no_part, serialized_part, first_refused}
use Rattle.archive_core.specs.Definitions.{both, no_definition}
use Rattle.archive_core.specs.MapPairs.{pair_meaning, pair_keys}
use Rattle.archive_core.specs.PartsPlanned.{no_part_planned}
use Rattle.archive_core.specs.Runs.{each_keys, each_meaning}
use Rattle.archive_core.specs.Shape.{sorted_map, leaf, unsigned, signed, leaf_key, no_part, number as number_kind}
use Rattle.archive_core.specs.Value.{list, number, no_value}
use Rattle.recursive_fields.specs.NoteShape.{note_name, note_shape, note_definitions, note_variants, note_variant_definitions, note_has_variants, note_work_parts, note_work_definitions}
use Rattle.std.proofs.Common.{[], refl, pos}
use Rattle.std.specs.Int.{w8, w16}
use Rattle.std.specs.Prelude.{[], refl, pos}
use Rattle.recursive_fields.proofs.note.serialize_note_work.Goals as goal

pub returns-in-Err-clause-refused : goal.returns-in-Err-clause-refused
returns-in-Err-clause-refused g c = (variant_refused note_definitions note_shape note_name note_variant_definitions note_variants note_has_variants 1 note_work_parts refl note_work_definitions refl _ _ _ _ _ (first_refused (both no_definition (both no_definition no_definition)) no_definition (sorted_map (leaf_key (number_kind unsigned w16)) (leaf (number_kind signed w8))) no_part (each_keys (pair_keys (λ y. []) (λ y. [])) c.args.a0.now.entries) [] (list (each_meaning (pair_meaning (λ y. (number (pos y))) (λ y. (number y))) c.args.a0.now.entries)) no_value _ _ _ no_part_planned c.in-Err.ensures.refused))

pub returns-clause-serialized : goal.returns-clause-serialized
returns-clause-serialized g c = (serialized_variant note_definitions note_shape note_name note_variant_definitions note_variants note_has_variants 1 note_work_parts refl note_work_definitions refl _ _ _ _ _ (serialized_part (both no_definition (both no_definition no_definition)) no_definition (sorted_map (leaf_key (number_kind unsigned w16)) (leaf (number_kind signed w8))) no_part (each_keys (pair_keys (λ y. []) (λ y. [])) c.args.a0.now.entries) [] (list (each_meaning (pair_meaning (λ y. (number (pos y))) (λ y. (number y))) c.args.a0.now.entries)) no_value _ _ _ _ _ c.in-Ok.ensures.serialized (serialized_no_part no_definition _)))
