use Rattle.std.proofs.Common.{◌≡◌, ◌+◌, ◌≤◌, length, take}
use Rattle.archive_types.specs.Runs.{each_flat}
use Rattle.archive_types.proofs.Writing.RunRegions.{Fills}
use Rattle.archive_types.proofs.ser.resolve_each.Given as goal

abbrev pub invariant-loop-resolver : goal.invariant-loop-resolver
invariant-loop-resolver g l = record {
  can_next : (goal.iterator-loop-resolver g).can_next l.resolver-iterator;
  finite : (goal.iterator-loop-resolver g).is_finite l.resolver-iterator;
  room : l.filled + g.T.Archived.Portable.layout.size ≤ length l.block;
  fills : Fills g.T.Archived.ArchivePointee.definitions g.T.Archived.Portable.shape g.T.Archived.Portable.layout g.T.Archive.flat g.T.Archive.belongs
      (g.W.Keys.state l.initial.writer) (g.W.Keys.state l.writer) (take l.filled l.block) (length l.values) (each_flat g.T.Archive.flat l.values l.fn.resolvers.items) l.rest l.resolver-iterator.rest.items;
}
