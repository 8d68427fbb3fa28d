use Rattle.std.proofs.Common.{◌+◌, ◌*◌, drop}
use Rattle.archive_check.specs.Expressions.{shape_of, shapes_in, variants_in}
use Rattle.archive_check.specs.Measure.{measure_of, measure_of_parts, measure_of_variants}
use Rattle.archive_schema.specs.plan.PlanGrowth.{lists_of}
use Rattle.archive_schema.specs.plan.CompileQueue.{waits_of}
use Rattle.archive_schema.specs.plan.Compiled.{RowIs, SpansAre}
use Rattle.archive_schema.proofs.plan.compile.+compile.Given as goal

-- twice the size, and one more where a case of an expression is still to be taken apart
abbrev pub decreases-compile : goal.decreases-compile
decreases-compile l = 2 * measure_of (shape_of l.expr.now)

abbrev pub decreases-compile_record : goal.decreases-compile_record
decreases-compile_record l = 2 * measure_of_parts (shapes_in l.parts.now) + 1

abbrev pub decreases-compile_choice : goal.decreases-compile_choice
decreases-compile_choice l = 2 * measure_of_variants (variants_in l.variants.now) + 1

abbrev pub decreases-compile_array : goal.decreases-compile_array
decreases-compile_array l = 2 * measure_of (shape_of l.x.now) + 1

abbrev pub decreases-compile_parts : goal.decreases-compile_parts
decreases-compile_parts l = 2 * measure_of_parts (shapes_in l.parts.now)

abbrev pub decreases-compile_variants : goal.decreases-compile_variants
decreases-compile_variants l = 2 * measure_of_variants (variants_in l.variants.now)

abbrev pub invariant-compile_parts-loop-i : goal.invariant-compile_parts-loop-i
invariant-compile_parts-loop-i l = RowIs l.scope.names.now l.scope.done l.start (shapes_in l.parts) (shapes_in (drop l.i l.parts)) (waits_of l.fn.queue) (waits_of l.queue) (lists_of l.fn.plan) (lists_of l.plan) l.row.parts.items l.row.extent.end l.row.extent.align l.row.free

abbrev pub invariant-compile_variants-loop-i : goal.invariant-compile_variants-loop-i
invariant-compile_variants-loop-i l = SpansAre l.scope.names.now l.scope.done (variants_in l.variants) (variants_in (drop l.i l.variants)) (waits_of l.fn.queue) (waits_of l.queue) (lists_of l.fn.plan) (lists_of l.plan) l.spans.items.items l.spans.extent.end l.spans.extent.align
