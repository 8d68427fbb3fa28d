use Rattle.std.proofs.Common.{◌<◌, ◌+◌, ◌*◌, ℕ}
use Rattle.archive_schema.specs.check.LoopInvariant.{LeadsNowhere}
use Rattle.archive_schema.proofs.check.Checker.count_weak.Given as goal

abbrev pub invariant-loop-index : goal.invariant-loop-index
invariant-loop-index g l = (k : ℕ) → k < l.index → LeadsNowhere l.self (g.C.Context.positions l.context) l.node (l.at + k * l.size)
