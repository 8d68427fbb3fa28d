use Rattle.std.proofs.Common.{◌+◌, ◌<◌, ap, sym, ◌∙◌, subst}
use Rattle.archive_check.specs.Expressions.{shape_of, variants_in}
use Rattle.archive_check.specs.Measure.{measure_of_variants}
use Rattle.archive_schema.specs.plan.NodeCounts.{count_of, variant_counts_of}
use Rattle.archive_check.proofs.format.Views.{choice_falls, shape_of-Choice}
use Rattle.archive_schema.proofs.plan.Restated.{ok_map}
use Rattle.archive_schema.proofs.plan.numbering.+count.Goals as goal

pub count-count_variants-requires : goal.count-count_variants-requires
count-count_variants-requires t c =
    (let h = choice_falls _ _ _ _ c.in-Choice.is c.deref-in-Choice.ensures.value in subst (λ n. measure_of_variants (variants_in c.deref-in-Choice.result.now) < n) c.decreases h, tt)

pub count-returns-in_ok-variants-in-Choice : goal.count-returns-in_ok-variants-in-Choice
count-returns-in_ok-variants-in-Choice t c =
    ok_map c.add-in-Choice.result c.add-in-Choice.ensures
    (λ n e. e ∙ ap (λ k. k + 1) (c.in_ok-variants-in-Choice.ensures ∙ ap (λ xs. variant_counts_of (variants_in xs)) c.deref-in-Choice.ensures.value)
    ∙ sym (ap count_of (ap shape_of c.in-Choice.is ∙ shape_of-Choice c.in-Choice.field-0 c.in-Choice.variants)))
