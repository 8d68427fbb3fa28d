use Rattle.archive_check.specs.Expressions.{shape_of}
use Rattle.archive_inspect.specs.Points.{Under, MeantBy}
use Rattle.archive_inspect.proofs.form.Form.meant.Given as goal

abbrev pub invariant-loop : goal.invariant-loop
invariant-loop l = Under l.self.schema (λ s. MeantBy s (shape_of l.fn.expr) (shape_of l.meant))
