use Rattle.std.proofs.Common.{rules}
use Rattle.archive_types.proofs.Planning.Causes.{err_by}
use Rattle.archive_types.proofs.Reading.OwnersRead.{vec_read, vec_unread}
use Rattle.archive_types.proofs.vec.reading.ArchivedVecDeserializeVec.deserialize_part.Goals as goal

pub returns-in_err-items : goal.returns-in_err-items
returns-in_err-items g c = record {
  read = search rules;
  refused =
      let h = rw (c.part.ensures.buffer, c.part.ensures.position, c.part.ensures.length, c.as_slice.ensures.buffer, c.as_slice.ensures.position, c.as_slice.ensures.length, c.at-view.ensures.buffer, c.at-view.ensures.position) at c.in_err-items.ensures.refused in
      err_by c.from_residual.result c.in_err-items.field-0.0 _ c.from_residual.ensures.1
      (vec_unread g.T.ArchivePointee.definitions c.args.part.bytes.now c.args.part.pos c.args.part.len g.T.Portable.shape (g.D.Entries.entry_of c.args.deserializer.now) c.in_err-items.field-0.0 c.requires h);
}

pub returns : goal.returns
returns g c = record {
  read =
      let h = rw (c.part.ensures.buffer, c.part.ensures.position, c.part.ensures.length, c.as_slice.ensures.buffer, c.as_slice.ensures.position, c.as_slice.ensures.length, c.at-view.ensures.buffer, c.at-view.ensures.position) at c.in_ok-items.ensures.read in
      vec_read g.T.ArchivePointee.definitions c.args.part.bytes.now c.args.part.pos c.args.part.len g.T.Portable.shape _ _ _ _ c.requires h;
  refused = search rules;
}
