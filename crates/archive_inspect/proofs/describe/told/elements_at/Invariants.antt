use Rattle.archive_check.specs.Expressions.{shape_of}
use Rattle.archive_inspect.proofs.Searched.{ElementsFound}
use Rattle.archive_inspect.proofs.describe.told.elements_at.Given as goal

abbrev pub invariant-loop-number : goal.invariant-loop-number
invariant-loop-number l = ElementsFound l.form.schema (shape_of l.element) l.start l.points.items l.number
