use Rattle.std.proofs.Common.{◌≡◌, ◌+◌, ◌*◌, ◌++◌, drop}
use Rattle.archive_check.specs.Expressions.{shape_of, pointee_of, shapes_in, variants_in}
use Rattle.archive_check.specs.Measure.{measure_of, measure_of_pointee, measure_of_parts, measure_of_variants}
use Rattle.archive_check.proofs.format.expr.+copy.Given as goal

abbrev pub invariant-copy_parts-loop-i : goal.invariant-copy_parts-loop-i
invariant-copy_parts-loop-i l = shapes_in (l.copies.items ++ drop l.i l.parts.items) ≡ shapes_in l.parts.items

abbrev pub invariant-copy_variants-loop-i : goal.invariant-copy_variants-loop-i
invariant-copy_variants-loop-i l = variants_in (l.copies.items ++ drop l.i l.variants.items) ≡ variants_in l.variants.items

abbrev pub decreases-copy_expression : goal.decreases-copy_expression
decreases-copy_expression l = 2 * measure_of (shape_of l.expr.now)

abbrev pub decreases-copy_pointee : goal.decreases-copy_pointee
decreases-copy_pointee l = 2 * measure_of_pointee (pointee_of l.pointee.now)

abbrev pub decreases-copy_parts : goal.decreases-copy_parts
decreases-copy_parts l = 2 * measure_of_parts (shapes_in l.parts.now.items)

abbrev pub decreases-copy_variants : goal.decreases-copy_variants
decreases-copy_variants l = 2 * measure_of_variants (variants_in l.variants.now.items)

abbrev pub decreases-copy_boxed : goal.decreases-copy_boxed
decreases-copy_boxed l = 2 * measure_of (shape_of l.expr.now.value) + 1

abbrev pub decreases-copy_target : goal.decreases-copy_target
decreases-copy_target l = 2 * measure_of_pointee (pointee_of l.pointee.now.value) + 1
