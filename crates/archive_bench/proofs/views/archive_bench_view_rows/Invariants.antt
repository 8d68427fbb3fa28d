use Rattle.std.proofs.Common.{◌≡◌}
use Rattle.archive_bench.proofs.views.archive_bench_view_rows.Given as goal

abbrev pub invariant-loop : goal.invariant-loop
invariant-loop l = l.count ≡ 0 → l.sum ≡ 0
