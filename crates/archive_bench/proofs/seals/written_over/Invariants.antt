use Rattle.std.proofs.Common.{◌≤◌}
use Rattle.archive_core.specs.ComesTo.{IsComeTo}
use Rattle.archive_bench.proofs.seals.written_over.Given as goal

abbrev pub invariant-loop-round : goal.invariant-loop-round
invariant-loop-round g l = (l.written ≤ l.round) × IsComeTo g.R.ArchivePointee.definitions l.bytes l.root.pos g.R.ArchivePointee.pointee l.root.len
