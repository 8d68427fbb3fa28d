use Rattle.std.proofs.Common.{◌≡◌, drop}
use Rattle.archive_check.specs.Shape.{definition}
use Rattle.archive_check.specs.Expressions.{entries_of}
use Rattle.archive_schema.proofs.plan.names.take.Given as goal

abbrev pub invariant-loop-i : goal.invariant-loop-i
invariant-loop-i l = (definition (entries_of (drop l.i l.defs.items)) l.name ≡ definition (entries_of l.defs.items) l.name) × (l.defs.items ≡ l.fn.defs.items)
