use Rattle.std.proofs.Common.{length}
use Rattle.archive_core.specs.recursive.Chains.{in_lists, weight}
use Rattle.archive_core.proofs.recursive.ChainsWritten.{Down, Up}
use Rattle.archive_core.proofs.recursive.chain.write.serialize_chain.Given as goal

abbrev pub invariant-loop-head : goal.invariant-loop-head
invariant-loop-head g l =
    Down g.T.Archived.ArchivePointee.definitions g.T.Archived.Portable.shape g.T.Archive.keys g.T.Archive.meaning g.T.Archive.flat g.T.Archive.belongs g.T.ChainSource.closed
    l.value (g.S.Keys.state l.fn.serializer) (in_lists l.full.items l.chain.items) l.here (g.S.Keys.state l.serializer)

abbrev pub decreases-loop-head : goal.decreases-loop-head
decreases-loop-head g l = weight (g.T.Archive.meaning l.here)

abbrev pub invariant-loop-rest : goal.invariant-loop-rest
invariant-loop-rest g l =
    Up g.T.Archived.ArchivePointee.definitions g.T.Archived.Portable.shape g.T.Archive.keys g.T.Archive.meaning g.T.Archive.flat g.T.Archive.belongs g.T.ChainSource.closed
    l.value (g.S.Keys.state l.fn.serializer) (in_lists l.full.items l.chain.items) l.resolver (g.S.Keys.state l.serializer)

abbrev pub decreases-loop-rest : goal.decreases-loop-rest
decreases-loop-rest g l = length l.full.items

abbrev pub invariant-loop-rest-2 : goal.invariant-loop-rest-2
invariant-loop-rest-2 g l =
    Up g.T.Archived.ArchivePointee.definitions g.T.Archived.Portable.shape g.T.Archive.keys g.T.Archive.meaning g.T.Archive.flat g.T.Archive.belongs g.T.ChainSource.closed
    l.value (g.S.Keys.state l.fn.serializer) (in_lists l.full.items l.chain.items) l.resolver (g.S.Keys.state l.serializer)

abbrev pub decreases-loop-rest-2 : goal.decreases-loop-rest-2
decreases-loop-rest-2 g l = length l.chain.items
