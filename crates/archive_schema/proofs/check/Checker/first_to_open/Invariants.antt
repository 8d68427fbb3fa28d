use Rattle.std.proofs.Common.{◌<◌, ◌≤◌, ℕ}
use Rattle.archive_schema.specs.check.LoopInvariant.{PartIsLegalHere}
use Rattle.archive_schema.proofs.check.Checker.first_to_open.Given as goal

abbrev pub invariant-loop-index : goal.invariant-loop-index
invariant-loop-index l = (k : ℕ) → l.first ≤ k → k < l.index → PartIsLegalHere l.self l.base k
