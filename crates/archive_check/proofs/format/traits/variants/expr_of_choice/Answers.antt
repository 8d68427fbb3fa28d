use Rattle.std.proofs.Common.{◌∙◌, ap}
use Rattle.archive_check.specs.Shape.{choice}
use Rattle.archive_check.specs.Expressions.{variants_in}
use Rattle.archive_check.specs.Members.VariantsLayout.{joined_variants}
use Rattle.archive_check.proofs.format.Views.{shape_of-Choice}
use Rattle.archive_check.proofs.format.traits.variants.expr_of_choice.Goals as goal

pub returns-clause-shape : goal.returns-clause-shape
returns-clause-shape g c =
    shape_of-Choice c.args.name c.push_variants.new.list
    ∙ ap (choice c.args.name.now) (c.in_ok-push_variants.ensures.pushed ∙ ap (λ xs. joined_variants (variants_in xs) g.V.CheckedVariants.variants) c.new-list.ensures.items)
