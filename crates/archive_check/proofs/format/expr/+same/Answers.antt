use Rattle.std.proofs.Common.{sym, subst, ◌<◌}
use Rattle.archive_check.specs.Expressions.{variants_in}
use Rattle.archive_check.specs.Measure.{measure_of_variants}
use Rattle.archive_check.proofs.format.EqualExpressions.{choice_same}
use Rattle.archive_check.proofs.format.Views.{choice_falls}
use Rattle.archive_check.proofs.format.expr.+same.Goals as goal

pub same_expressions-returns-then-eq : goal.same_expressions-returns-then-eq
same_expressions-returns-then-eq t c =
    choice_same _ _ _ _ _ _ _ _ _ c.in-Choice-Choice.is-0 c.in-Choice-Choice.is-1 c.deref-then-eq.ensures.value c.deref-then-eq-2.ensures.value (sym c.if-eq.ensures) c.same_variant_lists.ensures

pub same_expressions-same_variant_lists-requires : goal.same_expressions-same_variant_lists-requires
same_expressions-same_variant_lists-requires t c =
    (let h = choice_falls _ _ _ _ c.in-Choice-Choice.is-0 c.deref-then-eq.ensures.value in subst (λ n. measure_of_variants (variants_in c.deref-then-eq.result.now) < n) c.decreases h, tt)
