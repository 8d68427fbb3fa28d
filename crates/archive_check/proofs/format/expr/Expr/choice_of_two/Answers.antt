use Rattle.std.proofs.Common.{ap, ◌∙◌}
use Rattle.archive_check.specs.Expressions.{variants_in}
use Rattle.archive_check.specs.Shape.{choice}
use Rattle.archive_check.proofs.format.Views.{shape_of-Choice}
use Rattle.archive_check.proofs.format.expr.Expr.choice_of_two.Goals as goal

pub returns : goal.returns
returns c =
    shape_of-Choice c.args.name c.in_ok-variants.variants
    ∙ ap (λ xs. choice c.args.name.now (variants_in xs)) c.in_ok-variants.ensures.items
