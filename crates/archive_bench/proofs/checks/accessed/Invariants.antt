use Rattle.std.proofs.Common.{◌≤◌}
use Rattle.archive_bench.proofs.checks.accessed.Given as goal

abbrev pub invariant-loop : goal.invariant-loop
invariant-loop g l = l.accepted ≤ l.counter
