use Rattle.archive_check.specs.Expressions.{entries_of}
use Rattle.archive_schema.specs.plan.Names.{NotReady}
use Rattle.archive_schema.proofs.plan.names.next_ready.Given as goal

abbrev pub invariant-loop-i : goal.invariant-loop-i
invariant-loop-i l = NotReady (entries_of l.placed) l.rest l.i
