use Rattle.std.proofs.Common.{◌≡◌}
use Rattle.archive_schema.specs.plan.NodeNumbers.{def_shapes, start_of, IsNumbered}
use Rattle.archive_schema.proofs.plan.numbering.number.Given as goal

abbrev pub invariant-loop-i : goal.invariant-loop-i
invariant-loop-i l = IsNumbered l.defs l.names.items l.i × (l.start ≡ start_of (def_shapes l.defs) l.i)
