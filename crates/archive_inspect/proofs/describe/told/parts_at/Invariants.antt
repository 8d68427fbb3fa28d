use Rattle.archive_check.specs.Expressions.{shapes_in}
use Rattle.archive_inspect.proofs.Searched.{PartsFound}
use Rattle.archive_inspect.proofs.describe.told.parts_at.Given as goal

abbrev pub invariant-loop-number : goal.invariant-loop-number
invariant-loop-number l = PartsFound l.form.schema l.at l.start (shapes_in l.parts) l.points.items l.number
