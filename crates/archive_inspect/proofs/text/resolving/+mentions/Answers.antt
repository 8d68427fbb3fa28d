use Rattle.std.proofs.Common.{◌<◌, subst}
use Rattle.archive_check.specs.Expressions.{variants_in}
use Rattle.archive_check.specs.Measure.{measure_of_variants}
use Rattle.archive_check.proofs.format.Views.{choice_falls}
use Rattle.archive_inspect.proofs.text.resolving.+mentions.Goals as goal

pub mention-mention_variants-requires : goal.mention-mention_variants-requires
mention-mention_variants-requires t c =
    (let h = choice_falls _ _ _ _ c.in-Choice.is c.deref-in-Choice.ensures.value in subst (λ n. measure_of_variants (variants_in c.deref-in-Choice.result.now) < n) c.decreases h, tt)
