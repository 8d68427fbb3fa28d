use Rattle.std.proofs.Common.{◌≡◌, ◌≤◌, drop, length}
use Rattle.std.specs.Vec.{vec_len, vec_capacity}
use Rattle.archive_types.proofs.Planning.Runs.{Continues}
use Rattle.archive_types.proofs.slice.sources.serialize_each.Given as goal

abbrev pub invariant-loop-value : goal.invariant-loop-value
invariant-loop-value g l = record {
  count : vec_len l.resolvers ≡ l.value-index;
  room : length l.values ≤ vec_capacity l.resolvers;
  continues : Continues g.T.Archived.ArchivePointee.definitions g.T.Archived.Portable.shape g.T.Archive.keys g.T.Archive.meaning g.T.Archive.flat g.T.Archive.belongs
      (g.S.Keys.state l.initial.serializer) (g.S.Keys.state l.serializer) l.values (drop l.value-index l.values) l.resolvers.items;
}
