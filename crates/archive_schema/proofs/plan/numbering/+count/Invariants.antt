use Rattle.std.proofs.Common.{◌≡◌, ◌+◌, drop}
use Rattle.archive_check.specs.Expressions.{shape_of, shapes_in, variants_in}
use Rattle.archive_check.specs.Measure.{measure_of, measure_of_parts, measure_of_variants}
use Rattle.archive_schema.specs.plan.NodeCounts.{counts_of, variant_counts_of}
use Rattle.archive_schema.proofs.plan.numbering.+count.Given as goal

abbrev pub decreases-count : goal.decreases-count
decreases-count l = measure_of (shape_of l.expr.now)

abbrev pub decreases-count_parts : goal.decreases-count_parts
decreases-count_parts l = measure_of_parts (shapes_in l.parts.now)

abbrev pub decreases-count_variants : goal.decreases-count_variants
decreases-count_variants l = measure_of_variants (variants_in l.variants.now)

abbrev pub invariant-count_parts-loop-i : goal.invariant-count_parts-loop-i
invariant-count_parts-loop-i l = l.total + counts_of (shapes_in (drop l.i l.parts)) ≡ counts_of (shapes_in l.parts)

abbrev pub invariant-count_variants-loop-i : goal.invariant-count_variants-loop-i
invariant-count_variants-loop-i l = l.total + variant_counts_of (variants_in (drop l.i l.variants)) ≡ variant_counts_of (variants_in l.variants)
