use Rattle.std.proofs.Common.{◌≡◌, ◌≤◌, length}
use Rattle.archive_write.specs.Written.{GoesOn}
use Rattle.archive_types.specs.ItemsWritten.{ItemsLaid}
use Rattle.archive_types.proofs.vec.ArchivedVec.serialize_from_unknown_length_iter.Given as goal

abbrev pub invariant-loop-item : goal.invariant-loop-item
invariant-loop-item g l = record {
  can_next : (goal.iterator-loop-item g).can_next l.item-iterator;
  finite : (goal.iterator-loop-item g).is_finite l.item-iterator;
  goes : GoesOn (g.S.Keys.state l.fn.serializer) (g.S.Keys.state l.serializer);
  counted : l.count ≡ length l.yielded;
  few : length l.yielded ≤ 4294967295;
  laid : ItemsLaid g.T.ArchivePointee.definitions g.T.Portable.shape g.T.Portable.layout g.U.Archive.keys g.U.Archive.meaning g.U.Archive.flat g.U.Archive.belongs
      l.yielded l.pos (g.S.Keys.state l.fn.serializer) (g.S.Keys.state l.serializer);
}
