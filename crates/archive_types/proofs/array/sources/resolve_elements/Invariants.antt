use Rattle.std.proofs.Common.{◌≡◌, ◌+◌, ◌*◌, length, take, drop}
use Rattle.archive_check.specs.CleanRegions.{IsZeroed}
use Rattle.archive_types.specs.Runs.{each_flat}
use Rattle.archive_types.proofs.Writing.Arrays.{Fills}
use Rattle.archive_types.proofs.array.sources.resolve_elements.Given as goal

abbrev pub invariant-loop-resolver : goal.invariant-loop-resolver
invariant-loop-resolver g l = record {
  can_next : (goal.iterator-loop-resolver g).can_next l.resolver-iterator;
  finite : (goal.iterator-loop-resolver g).is_finite l.resolver-iterator;
  room : length l.bytes ≡ length l.fn.bytes;
  left : l.begin + length l.rest * g.T.Archived.Portable.layout.size ≡ length l.bytes;
  zeroed : IsZeroed (drop l.begin l.bytes);
  fills : Fills g.T.Archived.ArchivePointee.definitions g.T.Archived.Portable.shape g.T.Archive.flat g.T.Archive.belongs l.pos (l.pos + l.begin)
      (length l.values) (each_flat g.T.Archive.flat l.values l.fn.resolvers.items) (take l.begin l.bytes) l.rest l.resolver-iterator.rest.items;
}
