-- Written by tools/derive: change the declaration, and run it again.
use Rattle.std.proofs.Common.{append_assoc, refl}
use Rattle.archive_core.specs.Definitions.{both, no_definition}
use Rattle.archive_core.specs.Plain.{plain_record}
use Rattle.archive_core.proofs.ReadRecords.{parts_viewed, record_read_back, record_refuses}
use Rattle.archive_core.proofs.fields.ReadPieces.{piece_refused, piece_refused_later, piece_viewed, pieces_read, with_keys}
use Rattle.derived_plain.proofs.parcel.read_parcel.Goals as goal

pub deserialize_parts-requires : goal.deserialize_parts-requires
deserialize_parts-requires g c = record { viewed = piece_viewed 0 3 (both no_definition (both no_definition (both (both no_definition (both no_definition no_definition)) no_definition))) refl (λ s k. refl) (parts_viewed _ _ _ _ (plain_record _ no_definition refl) _ _ _ c.requires.viewed) }

pub deserialize_parts-requires-2 : goal.deserialize_parts-requires-2
deserialize_parts-requires-2 g c = record { viewed = piece_viewed 3 3 (both (both no_definition (both no_definition no_definition)) (both no_definition (both (both no_definition (both no_definition no_definition)) no_definition))) refl (λ s k. refl) (parts_viewed _ _ _ _ (plain_record _ no_definition refl) _ _ _ c.requires.viewed) }

pub deserialize_parts-requires-3 : goal.deserialize_parts-requires-3
deserialize_parts-requires-3 g c = record { viewed = piece_viewed 6 1 (both (both no_definition no_definition) no_definition) refl (λ s k. refl) (parts_viewed _ _ _ _ (plain_record _ no_definition refl) _ _ _ c.requires.viewed) }

pub returns-in-Err-clause-refused : goal.returns-in-Err-clause-refused
returns-in-Err-clause-refused g c = record_refuses _ _ _ _ (plain_record _ (both no_definition (both no_definition (both (both no_definition (both no_definition no_definition)) (both (both no_definition (both no_definition no_definition)) (both no_definition (both (both no_definition (both no_definition no_definition)) (both (both no_definition no_definition) no_definition))))))) refl) _ _ _ _ _ (piece_refused (both (both no_definition (both no_definition no_definition)) (both no_definition (both (both no_definition (both no_definition no_definition)) (both (both no_definition no_definition) no_definition)))) _ c.in-Err.ensures.refused)

pub returns-in-Err-deserialize_parts-clause-refused : goal.returns-in-Err-deserialize_parts-clause-refused
returns-in-Err-deserialize_parts-clause-refused g c = record_refuses _ _ _ _ (plain_record _ (both no_definition (both no_definition (both (both no_definition (both no_definition no_definition)) (both (both no_definition (both no_definition no_definition)) (both no_definition (both (both no_definition (both no_definition no_definition)) (both (both no_definition no_definition) no_definition))))))) refl) _ _ _ _ _ (piece_refused_later c.requires.viewed refl (λ s k. refl) c.in-Ok.ensures.read (piece_refused (both (both no_definition no_definition) no_definition) _ c.in-Err-deserialize_parts.ensures.refused))

pub returns-in-Err-deserialize_parts-2-clause-refused : goal.returns-in-Err-deserialize_parts-2-clause-refused
returns-in-Err-deserialize_parts-2-clause-refused g c = record_refuses _ _ _ _ (plain_record _ (both no_definition (both no_definition (both (both no_definition (both no_definition no_definition)) (both (both no_definition (both no_definition no_definition)) (both no_definition (both (both no_definition (both no_definition no_definition)) (both (both no_definition no_definition) no_definition))))))) refl) _ _ _ _ _ (piece_refused_later c.requires.viewed refl (λ s k. refl) c.in-Ok.ensures.read (piece_refused_later c.requires.viewed refl (λ s k. refl) c.in-Ok-deserialize_parts.ensures.read c.in-Err-deserialize_parts-2.ensures.refused))

pub returns-clause-read : goal.returns-clause-read
returns-clause-read g c = record_read_back _ _ _ _ (plain_record _ (both no_definition (both no_definition (both (both no_definition (both no_definition no_definition)) (both (both no_definition (both no_definition no_definition)) (both no_definition (both (both no_definition (both no_definition no_definition)) (both (both no_definition no_definition) no_definition))))))) refl) _ _ _ _ _ _ _ (with_keys (simp append_assoc) (pieces_read c.requires.viewed refl (λ s k. refl) c.in-Ok.ensures.read (pieces_read c.requires.viewed refl (λ s k. refl) c.in-Ok-deserialize_parts.ensures.read c.in-Ok-deserialize_parts-2.ensures.read)))
