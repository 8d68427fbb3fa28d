use Rattle.std.proofs.Common.{◌-◌, ◌≤◌}
use Rattle.archive_check.specs.Expressions.{kind_of}
use Rattle.archive_check.specs.Words.LegalRuns.{AreLegal}
use Rattle.archive_check.proofs.format.leaf.count_in_blocks.Given as goal

abbrev pub invariant-loop-passed : goal.invariant-loop-passed
invariant-loop-passed l = (l.passed ≤ l.count) × AreLegal (kind_of l.kind) l.bytes l.at l.size l.passed

abbrev pub decreases-loop-passed : goal.decreases-loop-passed
decreases-loop-passed l = l.count - l.passed
