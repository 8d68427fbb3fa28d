use Rattle.std.proofs.Common.{◌≡◌, drop}
use Rattle.archive_check.specs.Expressions.{shape_of, pointee_of, shapes_in, variants_in, entries_of}
use Rattle.archive_check.specs.Measure.{measure_of, measure_of_pointee, measure_of_parts, measure_of_variants}
use Rattle.archive_check.specs.MissingNames.{parts_missing, variants_missing}
use Rattle.archive_schema.proofs.plan.names.+missing.Given as goal

abbrev pub invariant-missing_part-loop-i : goal.invariant-missing_part-loop-i
invariant-missing_part-loop-i l = parts_missing l.far (entries_of l.defs) (shapes_in (drop l.i l.parts)) ≡ parts_missing l.far (entries_of l.defs) (shapes_in l.parts)

abbrev pub invariant-missing_variant-loop-i : goal.invariant-missing_variant-loop-i
invariant-missing_variant-loop-i l = variants_missing l.far (entries_of l.defs) (variants_in (drop l.i l.variants)) ≡ variants_missing l.far (entries_of l.defs) (variants_in l.variants)

abbrev pub decreases-missing : goal.decreases-missing
decreases-missing l = measure_of (shape_of l.expr.now)

abbrev pub decreases-missing_pointee : goal.decreases-missing_pointee
decreases-missing_pointee l = measure_of_pointee (pointee_of l.pointee.now)

abbrev pub decreases-missing_part : goal.decreases-missing_part
decreases-missing_part l = measure_of_parts (shapes_in l.parts.now)

abbrev pub decreases-missing_variant : goal.decreases-missing_variant
decreases-missing_variant l = measure_of_variants (variants_in l.variants.now)
