use Rattle.std.proofs.Common.{◌∙◌, ap}
use Rattle.archive_core.specs.Shape.{choice}
use Rattle.archive_core.specs.Expressions.{variants_in}
use Rattle.archive_core.proofs.Views.{shape_of-Choice}
use Rattle.tests_whole.proofs.archive.endless.choice_of.Goals as goal

pub returns : goal.returns
returns c = shape_of-Choice c.args.name c.in_ok-variants.variants ∙ ap (λ vs. choice c.args.name.now (variants_in vs)) c.in_ok-variants.ensures.items
