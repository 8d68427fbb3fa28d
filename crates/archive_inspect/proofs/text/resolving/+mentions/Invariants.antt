use Rattle.archive_check.specs.Expressions.{shape_of, pointee_of, shapes_in, variants_in}
use Rattle.archive_check.specs.Measure.{measure_of, measure_of_pointee, measure_of_parts, measure_of_variants}
use Rattle.archive_inspect.proofs.text.resolving.+mentions.Given as goal

abbrev pub decreases-mention : goal.decreases-mention
decreases-mention l = measure_of (shape_of l.expr.now)

abbrev pub decreases-mention_pointee : goal.decreases-mention_pointee
decreases-mention_pointee l = measure_of_pointee (pointee_of l.pointee.now)

abbrev pub decreases-mention_parts : goal.decreases-mention_parts
decreases-mention_parts l = measure_of_parts (shapes_in l.parts.now)

abbrev pub decreases-mention_variants : goal.decreases-mention_variants
decreases-mention_variants l = measure_of_variants (variants_in l.variants.now)
