use Rattle.std.proofs.Common.{drop}
use Rattle.archive_check.specs.Expressions.{shapes_in}
use Rattle.archive_inspect.proofs.WaySteps.{PartsLeft}
use Rattle.archive_inspect.proofs.ways.layouts.part_from.Given as goal

abbrev pub invariant-loop-i : goal.invariant-loop-i
invariant-loop-i l = PartsLeft l.form.schema l.at l.start (shapes_in l.parts) (shapes_in (drop l.i l.parts)) l.i l.number l.end
