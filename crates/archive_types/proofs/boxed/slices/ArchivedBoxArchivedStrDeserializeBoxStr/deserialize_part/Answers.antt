use Rattle.archive_check.specs.Shape.{text}
use Rattle.archive_check.specs.Definitions.{no_definition}
use Rattle.archive_types.proofs.Reading.OwnersRead.{box_read}
use Rattle.archive_types.proofs.boxed.slices.ArchivedBoxArchivedStrDeserializeBoxStr.deserialize_part.Goals as goal

pub returns-clause-read : goal.returns-clause-read
returns-clause-read g c =
    let h = rw (c.part.ensures.buffer, c.part.ensures.position, c.part.ensures.length, c.get.ensures.buffer, c.get.ensures.position, c.get.ensures.length, c.at-view.ensures.buffer, c.at-view.ensures.position) at c.in_ok-text.ensures.read in
    box_read no_definition c.args.part.bytes.now c.args.part.pos c.args.part.len text _ _ _ _ c.requires h
