use Rattle.std.proofs.Common.{◌≡◌, ◌≤◌}
use Rattle.archive_bench.proofs.comparisons.archive_bench_compare_names.Given as goal

abbrev pub invariant-loop : goal.invariant-loop
invariant-loop l = record {
  none : l.count ≡ 0 → l.sum ≡ 0;
  within : l.first ≤ l.last;
}
