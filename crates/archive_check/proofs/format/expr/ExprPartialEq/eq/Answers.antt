use Rattle.std.proofs.Common.{◌∙◌}
use Rattle.archive_check.specs.Equality.{shape_tested}
use Rattle.archive_check.proofs.format.expr.ExprPartialEq.eq.Goals as goal

pub returns-clause-decides : goal.returns-clause-decides
returns-clause-decides c = c.same_expressions.ensures ∙ shape_tested _ _
