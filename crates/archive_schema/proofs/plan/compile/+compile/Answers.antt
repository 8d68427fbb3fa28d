use Rattle.std.proofs.Common.{◌≡◌, ◌<◌, ◌+◌, ◌*◌, subst, sym, ap, ◌∙◌, arith, drop}
use Rattle.archive_check.specs.Expressions.{flavor_of, key_of, shape_of, pointee_of, shapes_in, variants_in}
use Rattle.archive_check.specs.Measure.{measure_of, measure_of_parts, measure_of_variants}
use Rattle.archive_check.specs.Shape.{parts, choice, array, boxed, vec, sorted_map, shared, weak, variant}
use Rattle.archive_check.proofs.format.Views.{record_falls, choice_falls, shape_of-Choice, shape_of-Record, shapes_in-drop, shapes_in-end, shapes_size-at, variants_in-drop, variants_in-end, measure_of_variants-at}
use Rattle.archive_schema.proofs.plan.Restated.{ok_map, as_shape, row_left, spans_left}
use Rattle.archive_schema.proofs.plan.Compiled.{compiled_leaf, compiled_record, compiled_choice, compiled_array, compiled_name}
use Rattle.archive_schema.proofs.plan.CompiledParts.{row_start, row_next, row_done, spans_start, spans_next, spans_done}
use Rattle.archive_schema.proofs.plan.Compilable.{can_as, can_parts_as, can_variants_as, can_parts, can_choice, can_array, can_boxed, can_vec, can_map, can_shared, can_weak, can_first, can_variant, can_name, can_placed}
use Rattle.archive_schema.proofs.plan.ShallowMarks.{kind_free}
use Rattle.archive_schema.proofs.plan.compile.+compile.Goals as goal

pub compile-compile_record-requires : goal.compile-compile_record-requires
compile-compile_record-requires t c =
    let h = record_falls _ _ _ c.in-Record.is c.deref.ensures.value in
    let e : shape_of c.args.expr.now ≡ parts (shapes_in c.deref.result.now) = ap shape_of c.in-Record.is ∙ shape_of-Record c.in-Record.parts ∙ ap (λ xs. parts (shapes_in xs)) (sym c.deref.ensures.value) in
    (subst (λ n. 2 * measure_of_parts (shapes_in c.deref.result.now) + 1 < n) c.decreases (omega (arith, h)), (c.requires.done, can_parts (can_as e c.requires.can)))

pub compile-compile_choice-requires : goal.compile-compile_choice-requires
compile-compile_choice-requires t c =
    let h = choice_falls _ _ _ _ c.in-Choice.is c.deref-in-Choice.ensures.value in
    let e : shape_of c.args.expr.now ≡ choice c.in-Choice.name.now (variants_in c.deref-in-Choice.result.now) =
    ap shape_of c.in-Choice.is ∙ shape_of-Choice c.in-Choice.name c.in-Choice.variants ∙ ap (λ xs. choice c.in-Choice.name.now (variants_in xs)) (sym c.deref-in-Choice.ensures.value) in
    (subst (λ n. 2 * measure_of_variants (variants_in c.deref-in-Choice.result.now) + 1 < n) c.decreases (omega (arith, h)), (c.requires.done, can_choice (can_as e c.requires.can)))

pub compile-compile_array-requires : goal.compile-compile_array-requires
compile-compile_array-requires t c =
    let e : shape_of c.args.expr.now ≡ array c.in-Array.count (shape_of c.deref-in-Array.result.now) =
    ap shape_of c.in-Array.is ∙ ap (λ y. array c.in-Array.count (shape_of y)) (sym c.deref-in-Array.ensures) in
    let h : measure_of (shape_of c.args.expr.now) ≡ measure_of (shape_of c.deref-in-Array.result.now) + 1 = ap measure_of e in
    (subst (λ n. 2 * measure_of (shape_of c.deref-in-Array.result.now) + 1 < n) c.decreases (omega (arith, h)), (c.requires.done, can_array (can_as e c.requires.can)))

pub compile-compile_box-requires : goal.compile-compile_box-requires
compile-compile_box-requires t c = can_boxed (can_as (ap shape_of c.in-Box.is ∙ ap (λ y. boxed (pointee_of y)) (sym c.deref-in-Box.ensures)) c.requires.can)

pub compile-compile_vec-requires : goal.compile-compile_vec-requires
compile-compile_vec-requires t c = can_vec (can_as (ap shape_of c.in-Vec.is ∙ ap (λ y. vec (shape_of y)) (sym c.deref-in-Vec.ensures)) c.requires.can)

pub compile-compile_map-requires : goal.compile-compile_map-requires
compile-compile_map-requires t c = can_map (can_as (ap shape_of c.in-Map.is ∙ ap (λ y. sorted_map (key_of c.in-Map.key) (shape_of y)) (sym c.deref-in-Map.ensures)) c.requires.can)

pub compile-compile_counted-requires : goal.compile-compile_counted-requires
compile-compile_counted-requires t c = can_shared (can_as (ap shape_of c.in-Shared.is ∙ ap (λ y. shared (flavor_of c.in-Shared.flavor) (pointee_of y)) (sym c.deref-in-Shared.ensures)) c.requires.can)

pub compile-compile_counted-requires-in-Weak : goal.compile-compile_counted-requires-in-Weak
compile-compile_counted-requires-in-Weak t c = can_weak (can_as (ap shape_of c.in-Weak.is ∙ ap (λ y. weak (flavor_of c.in-Weak.flavor) (pointee_of y)) (sym c.deref-in-Weak.ensures)) c.requires.can)

pub compile-known_node-requires : goal.compile-known_node-requires
compile-known_node-requires t c = can_name (can_as (ap shape_of c.in-Named.is) c.requires.can)

pub compile-returns-in-Leaf : goal.compile-returns-in-Leaf
compile-returns-in-Leaf t c = ok_map c.push_leaf.result c.push_leaf.ensures (λ j p. as_shape (ap shape_of c.in-Leaf.is) (compiled_leaf c.in-Leaf.kind p))

pub compile-returns-in-Choice : goal.compile-returns-in-Choice
compile-returns-in-Choice t c =
    let e : shape_of c.args.expr.now ≡ choice c.in-Choice.name.now (variants_in c.deref-in-Choice.result.now) =
    ap shape_of c.in-Choice.is ∙ shape_of-Choice c.in-Choice.name c.in-Choice.variants ∙ ap (λ xs. choice c.in-Choice.name.now (variants_in xs)) (sym c.deref-in-Choice.ensures.value) in
    ok_map c.compile_choice.result c.compile_choice.ensures (λ j p. as_shape e p)

pub compile-returns-in-Named : goal.compile-returns-in-Named
compile-returns-in-Named t c =
    let is = ap shape_of c.in-Named.is in
    as_shape is (compiled_name c.requires.done c.known_node.ensures (can_placed (can_as is c.requires.can) c.known_node.ensures))

pub compile_record-returns : goal.compile_record-returns
compile_record-returns t c = ok_map c.push_laid.result c.push_laid.ensures (λ j p. compiled_record c.in_ok-laid.ensures c.offset_of-size.ensures p)

pub compile_choice-returns : goal.compile_choice-returns
compile_choice-returns t c = ok_map c.push_laid.result c.push_laid.ensures (λ j p. compiled_choice c.in_ok-laid.ensures c.offset_of-size.ensures (λ e. cc e) p)

pub compile_array-returns : goal.compile_array-returns
compile_array-returns t c =
    ok_map c.push_laid.result c.push_laid.ensures
    (λ j p. compiled_array {here = c.index-here.result.now} c.in_ok-element.ensures (record { below = c.in_ok-element.ensures.below; is = c.index-here.ensures }) c.times.ensures.few c.times.ensures.total (λ free. kind_free c.index-here.result.now.kind (sym c.is_free.ensures ∙ free)) p)

pub compile_parts-loop-i-init : goal.compile_parts-loop-i-init
compile_parts-loop-i-init t c =
    row_start c.args.start (shapes_in c.args.parts.now) c.new-row.result.parts.items c.new-row.result.extent.end c.new-row.result.extent.align c.new-row.result.free (omega (arith, c.ranges.start.fits)) c.new-row.ensures.parts c.new-row.ensures.end c.new-row.ensures.align

pub compile_parts-compile-requires : goal.compile_parts-compile-requires
compile_parts-compile-requires t c =
    let h = shapes_size-at c.args.parts.now c.loop-i.i c.index-parts-i.result c.loop-i-test.true c.index-parts-i.is in
    let left = shapes_in-drop c.args.parts.now c.loop-i.i c.index-parts-i.result c.loop-i-test.true c.index-parts-i.is in (
      subst (λ n. 2 * measure_of (shape_of c.index-parts-i.result) < n) c.decreases (omega (arith, h)),
      (omega (arith, c.requires.done, c.loop-i.invariant.adds.count), can_first (can_parts_as left (c.loop-i.invariant.can_rest c.requires.can))),
    )

pub compile_parts-loop-i-preserved : goal.compile_parts-loop-i-preserved
compile_parts-loop-i-preserved t c =
    row_next {here = c.index.result.now} (row_left (shapes_in-drop c.args.parts.now c.loop-i.i c.index-parts-i.result c.loop-i-test.true c.index-parts-i.is) c.loop-i.invariant)
    c.in_ok-node.ensures (record { below = c.in_ok-node.ensures.below; is = c.index.ensures }) c.in_ok-add_part.ensures

pub compile_parts-returns : goal.compile_parts-returns
compile_parts-returns t c =
    ok_map c.extend_parts.result c.extend_parts.ensures
    (λ laid p. row_done (row_left (shapes_in-end c.args.parts.now c.loop-i.i (omega arith)) c.loop-i.invariant) p)

pub compile_variants-loop-i-init : goal.compile_variants-loop-i-init
compile_variants-loop-i-init t c =
    spans_start (variants_in c.args.variants.now) c.new-spans.result.items.items c.new-spans.result.extent.end c.new-spans.result.extent.align c.new-spans.ensures.items c.new-spans.ensures.end c.new-spans.ensures.align

pub compile_variants-compile_parts-requires : goal.compile_variants-compile_parts-requires
compile_variants-compile_parts-requires t c =
    let size = measure_of_variants-at c.args.variants.now c.loop-i.i c.index-variants-i.result c.loop-i-test.true c.index-variants-i.is in
    let h : measure_of_parts (shapes_in c.deref.result.now) ≡ measure_of_parts (shapes_in c.index-variants-i.result.items) = ap (λ xs. measure_of_parts (shapes_in xs)) c.deref.ensures.value in
    let left = variants_in-drop c.args.variants.now c.loop-i.i c.index-variants-i.result c.loop-i-test.true c.index-variants-i.is ∙ ap (λ xs. variant (shapes_in xs) (variants_in (drop (c.loop-i.i + 1) c.args.variants.now))) (sym c.deref.ensures.value) in (
      subst (λ n. 2 * measure_of_parts (shapes_in c.deref.result.now) < n) c.decreases (omega (arith, h, size)),
      (omega (arith, c.requires.done, c.loop-i.invariant.adds.count), can_variant (can_variants_as left (c.loop-i.invariant.can_rest c.requires.can))),
    )

pub compile_variants-loop-i-preserved : goal.compile_variants-loop-i-preserved
compile_variants-loop-i-preserved t c =
    spans_next (spans_left (variants_in-drop c.args.variants.now c.loop-i.i c.index-variants-i.result c.loop-i-test.true c.index-variants-i.is ∙ ap (λ xs. variant (shapes_in xs) (variants_in (drop (c.loop-i.i + 1) c.args.variants.now))) (sym c.deref.ensures.value)) c.loop-i.invariant)
    c.in_ok-laid.ensures c.in_ok-add_variant.ensures

pub compile_variants-returns : goal.compile_variants-returns
compile_variants-returns t c =
    ok_map c.extend_variants.result c.extend_variants.ensures
    (λ laid p. spans_done (spans_left (variants_in-end c.args.variants.now c.loop-i.i (omega arith)) c.loop-i.invariant) p)
