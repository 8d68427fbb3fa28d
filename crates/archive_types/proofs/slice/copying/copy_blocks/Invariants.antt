use Rattle.std.proofs.Common.{◌≤◌, ◌-◌, length}
use Rattle.archive_types.proofs.Copying.Copies.{FirstCopied}
use Rattle.archive_types.proofs.slice.copying.copy_blocks.Given as goal

abbrev pub invariant-loop-done : goal.invariant-loop-done
invariant-loop-done g l = record {
  within : l.done ≤ length l.values;
  copied : FirstCopied g.T.CopiedAs.ArchivePointee.definitions g.T.CopiedAs.Portable.shape g.T.CopiedAs.Portable.layout.size g.T.Copied.copied_meaning g.T.Copied.copied_bytes
      (g.W.Keys.state l.initial.writer) (g.W.Keys.state l.writer) l.values l.done;
}

abbrev pub decreases-loop-done : goal.decreases-loop-done
decreases-loop-done g l = length l.values - l.done
