use Rattle.std.proofs.Common.{◌≡◌}
use Rattle.archive_bench.proofs.reads.read_back.Given as goal

abbrev pub invariant-loop : goal.invariant-loop
invariant-loop g l = l.count ≡ 0 → l.sum ≡ 0
