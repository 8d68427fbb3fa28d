use Rattle.std.proofs.Common.{◌∙◌}
use Rattle.archive_check.specs.Equality.{pointee_tested}
use Rattle.archive_check.proofs.format.expr.PointeePartialEq.eq.Goals as goal

pub returns-clause-decides : goal.returns-clause-decides
returns-clause-decides c = c.same_pointees.ensures ∙ pointee_tested _ _
