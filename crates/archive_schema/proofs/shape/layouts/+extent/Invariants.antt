use Rattle.std.proofs.Common.{◌≡◌, None, false, drop}
use Rattle.archive_check.specs.Expressions.{shape_of, shapes_in, variants_in, entries_of}
use Rattle.archive_check.specs.Measure.{measure_of, measure_of_parts, measure_of_variants}
use Rattle.archive_check.specs.MissingNames.{parts_missing, variants_missing}
use Rattle.archive_check.specs.Reads.{SchemaTable}
use Rattle.archive_check.specs.Definitions.{Knows}
use Rattle.archive_schema.specs.Schemas.{definitions_in}
use Rattle.archive_schema.specs.plan.Extents.{PartsSoFar, VariantsSoFar}
use Rattle.archive_schema.proofs.shape.layouts.+extent.Given as goal

abbrev pub decreases-extent_of : goal.decreases-extent_of
decreases-extent_of l = measure_of (shape_of l.expr.now)

abbrev pub decreases-extent_of_parts : goal.decreases-extent_of_parts
decreases-extent_of_parts l = measure_of_parts (shapes_in l.parts.now)

abbrev pub decreases-extent_of_variants : goal.decreases-extent_of_variants
decreases-extent_of_variants l = measure_of_variants (variants_in l.variants.now)

abbrev pub invariant-extent_of_parts-loop-i : goal.invariant-extent_of_parts-loop-i
invariant-extent_of_parts-loop-i l =
    (parts_missing false (entries_of l.schema.definitions.items) (shapes_in (drop l.i l.parts)) ≡ None)
    × ((t : SchemaTable) → Knows t (definitions_in l.schema) → PartsSoFar t.layouts l.start (shapes_in l.parts) (shapes_in (drop l.i l.parts)) l.extent)

abbrev pub invariant-extent_of_variants-loop-i : goal.invariant-extent_of_variants-loop-i
invariant-extent_of_variants-loop-i l =
    (variants_missing false (entries_of l.schema.definitions.items) (variants_in (drop l.i l.variants)) ≡ None)
    × ((t : SchemaTable) → Knows t (definitions_in l.schema) → VariantsSoFar t.layouts (variants_in l.variants) (variants_in (drop l.i l.variants)) l.extent)
