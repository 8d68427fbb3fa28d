use Rattle.std.proofs.Common.{length}
use Rattle.archive_types.proofs.Copying.Copies.{Copies}
use Rattle.archive_types.proofs.slice.copying.copy_by.Given as goal

abbrev pub invariant-loop-rest : goal.invariant-loop-rest
invariant-loop-rest g l = record {
  copies : Copies g.T.CopiedAs.ArchivePointee.definitions g.T.CopiedAs.Portable.shape g.T.CopiedAs.Portable.layout.size g.T.Copied.copied_meaning g.T.Copied.copied_bytes
      (g.W.Keys.state l.initial.writer) (g.W.Keys.state l.writer) l.values l.rest;
}

abbrev pub decreases-loop-rest : goal.decreases-loop-rest
decreases-loop-rest g l = length l.rest
