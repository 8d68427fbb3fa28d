use Rattle.std.proofs.Common.{◌<◌, ◌+◌, ◌*◌, ℕ}
use Rattle.archive_schema.specs.check.LoopInvariant.{IsLegalHere}
use Rattle.archive_schema.proofs.check.Checker.count_legal.Given as goal

abbrev pub invariant-loop-index : goal.invariant-loop-index
invariant-loop-index l = (k : ℕ) → k < l.index → IsLegalHere l.self l.node (l.at + k * l.size)
