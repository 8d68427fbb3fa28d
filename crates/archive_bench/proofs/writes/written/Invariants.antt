use Rattle.std.proofs.Common.{◌≡◌}
use Rattle.archive_bench.proofs.writes.written.Given as goal

abbrev pub invariant-loop-round : goal.invariant-loop-round
invariant-loop-round g l = l.count ≡ 0 → l.total ≡ 0
