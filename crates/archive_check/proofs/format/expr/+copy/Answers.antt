use Rattle.std.proofs.Common.{sym, ap, ◌∙◌, refl, arith}
use Rattle.archive_check.specs.Shape.{choice}
use Rattle.archive_check.specs.Expressions.{shape_of}
use Rattle.archive_check.proofs.format.Views.{shape_of-Choice, choice_falls}
use Rattle.archive_check.proofs.format.expr.+copy.Goals as goal

pub copy_expression-copy_variants-requires : goal.copy_expression-copy_variants-requires
copy_expression-copy_variants-requires t c =
    (omega (arith, choice_falls _ _ _ _ c.in-Choice.is refl, c.decreases), tt)

pub copy_expression-returns-in_ok-copy_variants-in-Choice :
    goal.copy_expression-returns-in_ok-copy_variants-in-Choice
copy_expression-returns-in_ok-copy_variants-in-Choice t c =
    shape_of-Choice c.in-Choice.name c.in_ok-copy_variants-in-Choice.field-0
    ∙ ap (choice c.in-Choice.name.now) c.in_ok-copy_variants-in-Choice.ensures
    ∙ sym (shape_of-Choice c.in-Choice.name c.in-Choice.variants)
    ∙ sym (ap shape_of c.in-Choice.is)
