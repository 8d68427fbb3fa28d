use Rattle.std.proofs.Common.{◌≡◌, drop}
use Rattle.archive_check.specs.Expressions.{shape_of, pointee_of, shapes_in, variants_in}
use Rattle.archive_check.specs.Equality.{same_parts, same_variants}
use Rattle.archive_check.specs.Measure.{measure_of, measure_of_pointee, measure_of_parts, measure_of_variants}
use Rattle.archive_check.proofs.format.expr.+same.Given as goal

abbrev pub invariant-same_lists-loop-i : goal.invariant-same_lists-loop-i
invariant-same_lists-loop-i l =
    same_parts (shapes_in l.a) (shapes_in l.b) ≡ same_parts (shapes_in (drop l.i l.a)) (shapes_in (drop l.i l.b))

abbrev pub invariant-same_variant_lists-loop-i : goal.invariant-same_variant_lists-loop-i
invariant-same_variant_lists-loop-i l =
    same_variants (variants_in l.a) (variants_in l.b) ≡ same_variants (variants_in (drop l.i l.a)) (variants_in (drop l.i l.b))

abbrev pub decreases-same_expressions : goal.decreases-same_expressions
decreases-same_expressions l = measure_of (shape_of l.a.now)

abbrev pub decreases-same_pointees : goal.decreases-same_pointees
decreases-same_pointees l = measure_of_pointee (pointee_of l.a.now)

abbrev pub decreases-same_lists : goal.decreases-same_lists
decreases-same_lists l = measure_of_parts (shapes_in l.a.now)

abbrev pub decreases-same_variant_lists : goal.decreases-same_variant_lists
decreases-same_variant_lists l = measure_of_variants (variants_in l.a.now)
