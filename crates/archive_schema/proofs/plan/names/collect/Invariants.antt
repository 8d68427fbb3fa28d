use Rattle.std.proofs.Common.{◌+◌, ◌-◌, ◌*◌, length}
use Rattle.archive_check.specs.Expressions.{shape_of, entries_of}
use Rattle.archive_schema.proofs.plan.CollectedDefinitions.{Gathering}
use Rattle.archive_schema.proofs.plan.names.collect.Given as goal

abbrev pub invariant-loop-at : goal.invariant-loop-at
invariant-loop-at l = Gathering (entries_of l.fn.rest.items) (shape_of l.root) l.found.items l.rest.items l.at

abbrev pub decreases-loop-at : goal.decreases-loop-at
decreases-loop-at l = 2 * length l.rest.items + (length l.found.items + 1 - l.at)
