use Rattle.std.proofs.Common.{◌≡◌, drop, is_some}
use Rattle.archive_check.specs.Shape.{definition}
use Rattle.archive_check.specs.Expressions.{entries_of}
use Rattle.archive_schema.proofs.plan.names.is_defined.Given as goal

abbrev pub invariant-loop-i : goal.invariant-loop-i
invariant-loop-i l = is_some (definition (entries_of (drop l.i l.defs)) l.name) ≡ is_some (definition (entries_of l.defs) l.name)
