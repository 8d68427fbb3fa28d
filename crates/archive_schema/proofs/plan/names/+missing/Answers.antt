use Rattle.std.proofs.Common.{◌<◌, ap, sym, ◌∙◌, subst}
use Rattle.archive_check.specs.Expressions.{shape_of, variants_in, entries_of}
use Rattle.archive_check.specs.Measure.{measure_of_variants}
use Rattle.archive_check.specs.MissingNames.{missing as missing_in, variants_missing}
use Rattle.archive_check.proofs.format.Views.{choice_falls, shape_of-Choice}
use Rattle.archive_schema.proofs.plan.names.+missing.Goals as goal

pub missing-missing_variant-requires : goal.missing-missing_variant-requires
missing-missing_variant-requires t c =
    (let h = choice_falls _ _ _ _ c.in-Choice.is c.deref-in-Choice.ensures.value in subst (λ n. measure_of_variants (variants_in c.deref-in-Choice.result.now) < n) c.decreases h, tt)

pub missing-returns-in-Choice : goal.missing-returns-in-Choice
missing-returns-in-Choice t c =
    let far = c.args.far in
    let table = entries_of c.args.defs.now in
    c.missing_variant.ensures
    ∙ ap (λ vs. variants_missing far table (variants_in vs)) c.deref-in-Choice.ensures.value
    ∙ sym (ap (missing_in far table) (ap shape_of c.in-Choice.is ∙ shape_of-Choice c.in-Choice.field-0 c.in-Choice.variants))
