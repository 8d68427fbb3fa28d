use Rattle.std.proofs.Common.{rules, ◌≡◌, arith}
use Rattle.std.proofs.lemmas.Grind.{common_steps}
use Rattle.archive_types.proofs.Planning.Causes.{err_by}
use Rattle.archive_types.proofs.Reading.OwnersRead.{box_read, box_unread}
use Rattle.archive_types.proofs.boxed.reading.ArchivedBoxDeserializeBox.deserialize_part.Goals as goal

pub returns-in_err-value : goal.returns-in_err-value
returns-in_err-value g c = record {
  read = search rules;
  refused =
      let h = rw (c.part.ensures.buffer, c.part.ensures.position, c.part.ensures.length, c.get.ensures.buffer, c.get.ensures.position, c.get.ensures.length, c.at-view.ensures.buffer, c.at-view.ensures.position) at c.in_err-value.ensures.refused in
      err_by c.from_residual.result c.in_err-value.field-0.0 _ c.from_residual.ensures.1
      (box_unread g.T.ArchivePointee.definitions c.args.part.bytes.now c.args.part.pos c.args.part.len g.T.ArchivePointee.pointee (g.D.Entries.entry_of c.args.deserializer.now) c.in_err-value.field-0.0 c.requires h);
}

pub returns : goal.returns
returns g c = record {
  read =
      let same : c.in_ok-whole.whole.value ≡ c.in_ok-value.value = grind (arith, common_steps) in
      let h = rw (c.part.ensures.buffer, c.part.ensures.position, c.part.ensures.length, c.get.ensures.buffer, c.get.ensures.position, c.get.ensures.length, c.at-view.ensures.buffer, c.at-view.ensures.position) at c.in_ok-value.ensures.read in
      rw same (box_read g.T.ArchivePointee.definitions c.args.part.bytes.now c.args.part.pos c.args.part.len g.T.ArchivePointee.pointee _ _ _ _ c.requires h);
  refused = search rules;
}
