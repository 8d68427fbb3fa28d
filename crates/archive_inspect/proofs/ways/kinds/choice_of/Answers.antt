use Rattle.std.proofs.Common.{ap, sym, ◌∙◌}
use Rattle.archive_check.specs.Expressions.{shape_of, variants_in}
use Rattle.archive_check.specs.Shape.{choice}
use Rattle.archive_check.proofs.format.Views.{shape_of-Choice}
use Rattle.archive_inspect.specs.Ways.{a_value}
use Rattle.archive_inspect.proofs.ways.kinds.choice_of.Goals as goal

pub returns-in-Choice : goal.returns-in-Choice
returns-in-Choice c =
    c.in_ok-expr.ensures ∙ ap (λ x. a_value (shape_of x)) c.in-Choice.is ∙ ap a_value (shape_of-Choice c.in-Choice.name c.in-Choice.variants)
    ∙ ap (λ vs. a_value (choice c.in-Choice.name.now (variants_in vs))) (sym c.deref.ensures.value)
