use Rattle.std.proofs.Common.{length}
use Rattle.archive_check.specs.Expressions.{entries_of}
use Rattle.archive_schema.proofs.plan.ArrangedDefinitions.{Arranging}
use Rattle.archive_schema.proofs.plan.names.in_order.Given as goal

abbrev pub invariant-loop-placed : goal.invariant-loop-placed
invariant-loop-placed l = Arranging (entries_of l.fn.rest.items) l.placed.items l.rest.items

abbrev pub decreases-loop-placed : goal.decreases-loop-placed
decreases-loop-placed l = length l.rest.items
