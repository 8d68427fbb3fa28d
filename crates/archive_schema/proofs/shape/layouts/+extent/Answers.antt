use Rattle.std.proofs.Common.{⊎_elim, ◌+◌, ◌<◌, ap, sym, ◌∙◌, subst, arith, refl, Some, false, drop}
use Rattle.archive_check.specs.Expressions.{kind_of, flavor_of, shape_of, pointee_of, shapes_in, variants_in, entries_of}
use Rattle.archive_check.specs.Measure.{measure_of_variants}
use Rattle.archive_check.specs.Shape.{parts, choice, array, boxed, shared, weak, variant}
use Rattle.archive_check.specs.Words.BoundedSizes.{times}
use Rattle.archive_check.specs.MissingNames.{missing, parts_missing, variants_missing}
use Rattle.archive_check.proofs.format.Views.{choice_falls, shape_of-Choice, shape_of-Record, shapes_in-drop, shapes_in-end, variants_in-drop, variants_in-end}
use Rattle.archive_check.proofs.Names.MissingNames.{or_none}
use Rattle.archive_check.proofs.BoundedSizes.{fits_some, times_fits}
use Rattle.archive_schema.proofs.plan.FreeWalks.{kind_few}
use Rattle.archive_schema.proofs.plan.ExtentsOf.{pointer_fits, arm, whole_ends, parts_start, parts_left, parts_next, parts_done, variants_start, variants_left, variants_next, variants_done}
use Rattle.archive_schema.proofs.shape.layouts.+extent.Goals as goal
use Rattle.archive_schema.proofs.shape.layouts.+extent.Goals.{extent_of-in-Leaf, extent_of-in-Record, extent_of-in-Choice, extent_of-in-Array, extent_of-in-Named, extent_of-in-Vec, extent_of-in-Vec-2, extent_of-in-Vec-3, extent_of-in-Box2}

pub extent_of-extent_of_variants-requires : goal.extent_of-extent_of_variants-requires
extent_of-extent_of_variants-requires t c = (
  let h = choice_falls _ _ _ _ c.in-Choice.is c.deref-in-Choice.ensures.value in subst (λ n. measure_of_variants (variants_in c.deref-in-Choice.result.now) < n) c.decreases h,
  ap (λ vs. variants_missing false (entries_of c.args.schema.now.definitions.items) (variants_in vs)) c.deref-in-Choice.ensures.value
      ∙ sym (ap (missing false (entries_of c.args.schema.now.definitions.items)) (ap shape_of c.in-Choice.is ∙ shape_of-Choice c.in-Choice.field-0 c.in-Choice.variants))
      ∙ c.requires,
)

pub extent_of-returns : goal.extent_of-returns
extent_of-returns t c = λ s knows. elim c.match-expr.branch [
  | extent_of-in-Leaf w ↦ arm s.layouts c.match-expr.result w.result-is (ap shape_of w.in-Leaf.is) (ap Some w.size.ensures ∙ sym (fits_some _ (kind_few (kind_of w.in-Leaf.kind)))) w.align.ensures
  | extent_of-in-Record w ↦
      let h = whole_ends {w = w.whole.result} (w.extent_of_parts.ensures s knows) w.whole.ensures.end w.whole.ensures.align in
      arm s.layouts c.match-expr.result w.result-is (ap shape_of w.in-Record.is ∙ shape_of-Record w.in-Record.parts ∙ ap (λ xs. parts (shapes_in xs)) (sym w.deref.ensures.value)) h.end_is h.align_is
  | extent_of-in-Choice w ↦
      let h = whole_ends {w = w.whole-in-Choice.result} (w.extent_of_variants.ensures s knows) w.whole-in-Choice.ensures.end w.whole-in-Choice.ensures.align in
      arm s.layouts c.match-expr.result w.result-is (ap shape_of w.in-Choice.is ∙ shape_of-Choice w.in-Choice.field-0 w.in-Choice.variants ∙ ap (λ xs. choice w.in-Choice.field-0.now (variants_in xs)) (sym w.deref-in-Choice.ensures.value)) h.end_is h.align_is
  | extent_of-in-Array w ↦
      let h = w.extent_of-element.ensures s knows in
      arm s.layouts c.match-expr.result w.result-is (ap shape_of w.in-Array.is ∙ ap (λ y. array w.in-Array.count (shape_of y)) (sym w.deref-in-Array.ensures))
      (w.times.ensures.total ∙ ap (λ o. times o w.in-Array.count) h.end_is ∙ times_fits _ w.in-Array.count) h.align_is
  | extent_of-in-Named w ↦ let h = w.extent_of_name.ensures s knows in arm s.layouts c.match-expr.result w.result-is (ap shape_of w.in-Named.is) h.end_is h.align_is
  | extent_of-in-Vec w ↦ ⊎_elim
      (λ e. arm s.layouts c.match-expr.result w.result-is (ap shape_of e.1) (sym (fits_some 8 (omega arith))) refl)
      (⊎_elim
      (λ e. arm s.layouts c.match-expr.result w.result-is (ap shape_of e.2) (sym (fits_some 8 (omega arith))) refl)
      (λ e. arm s.layouts c.match-expr.result w.result-is (ap shape_of e) (sym (fits_some 8 (omega arith))) refl))
      w.in-Vec.is
  | extent_of-in-Vec-2 w ↦ ⊎_elim
      (λ e. arm s.layouts c.match-expr.result w.result-is (ap shape_of e.1) (sym (fits_some 8 (omega arith))) refl)
      (⊎_elim
      (λ e. arm s.layouts c.match-expr.result w.result-is (ap shape_of e.2) (sym (fits_some 8 (omega arith))) refl)
      (λ e. arm s.layouts c.match-expr.result w.result-is (ap shape_of e) (sym (fits_some 8 (omega arith))) refl))
      w.in-Vec.is
  | extent_of-in-Vec-3 w ↦ ⊎_elim
      (λ e. arm s.layouts c.match-expr.result w.result-is (ap shape_of e.1) (sym (fits_some 8 (omega arith))) refl)
      (⊎_elim
      (λ e. arm s.layouts c.match-expr.result w.result-is (ap shape_of e.2) (sym (fits_some 8 (omega arith))) refl)
      (λ e. arm s.layouts c.match-expr.result w.result-is (ap shape_of e) (sym (fits_some 8 (omega arith))) refl))
      w.in-Vec.is
  | extent_of-in-Box2 w ↦
      let size = w.extent_of_pointer.ensures.end ∙ sym (pointer_fits (pointee_of w.deref-in-Box.result.now)) in
      ⊎_elim
      (λ e. arm s.layouts c.match-expr.result w.result-is (ap shape_of e ∙ ap (λ y. boxed (pointee_of y)) (sym w.deref-in-Box.ensures)) size w.extent_of_pointer.ensures.align)
      (⊎_elim
      (λ e. arm s.layouts c.match-expr.result w.result-is (ap shape_of e.1 ∙ ap (λ y. shared (flavor_of e.0) (pointee_of y)) (sym w.deref-in-Box.ensures)) size w.extent_of_pointer.ensures.align)
      (λ e. arm s.layouts c.match-expr.result w.result-is (ap shape_of e.1 ∙ ap (λ y. weak (flavor_of e.0) (pointee_of y)) (sym w.deref-in-Box.ensures)) size w.extent_of_pointer.ensures.align))
      w.in-Box.is
]

pub extent_of_parts-loop-i-init : goal.extent_of_parts-loop-i-init
extent_of_parts-loop-i-init t c =
    (c.requires, λ s knows. parts_start s.layouts c.args.start (shapes_in c.args.parts.now) c.new-extent.result (omega (arith, c.ranges.start.fits)) c.new-extent.ensures.end c.new-extent.ensures.align)

pub extent_of_parts-loop-i-preserved : goal.extent_of_parts-loop-i-preserved
extent_of_parts-loop-i-preserved t c =
    let split = shapes_in-drop c.args.parts.now c.loop-i.i c.index-parts-i.result c.loop-i-test.true c.index-parts-i.is in (
      (or_none _ _ (sym (ap (parts_missing false (entries_of c.args.schema.now.definitions.items)) split) ∙ c.loop-i.invariant.0)).1,
      λ s knows. parts_next (parts_left split (c.loop-i.invariant.1 s knows)) (c.extent_of-part.ensures s knows) c.add.ensures.end c.add.ensures.align,
    )

pub extent_of_parts-returns : goal.extent_of_parts-returns
extent_of_parts-returns t c = λ s knows.
    parts_done (parts_left (shapes_in-end c.args.parts.now c.loop-i.i (omega arith)) (c.loop-i.invariant.1 s knows))

pub extent_of_variants-loop-i-init : goal.extent_of_variants-loop-i-init
extent_of_variants-loop-i-init t c =
    (c.requires, λ s knows. variants_start s.layouts (variants_in c.args.variants.now) c.new-extent.result c.new-extent.ensures.end c.new-extent.ensures.align)

pub extent_of_variants-loop-i-preserved : goal.extent_of_variants-loop-i-preserved
extent_of_variants-loop-i-preserved t c =
    let split = variants_in-drop c.args.variants.now c.loop-i.i c.index-variants-i.result c.loop-i-test.true c.index-variants-i.is
    ∙ ap (λ xs. variant (shapes_in xs) (variants_in (drop (c.loop-i.i + 1) c.args.variants.now))) (sym c.deref.ensures.value) in (
      (or_none _ _ (sym (ap (variants_missing false (entries_of c.args.schema.now.definitions.items)) split) ∙ c.loop-i.invariant.0)).1,
      λ s knows. variants_next (variants_left split (c.loop-i.invariant.1 s knows)) (c.extent_of_parts-variant.ensures s knows) c.join.ensures.end c.join.ensures.align,
    )

pub extent_of_variants-returns : goal.extent_of_variants-returns
extent_of_variants-returns t c = λ s knows.
    variants_done (variants_left (variants_in-end c.args.variants.now c.loop-i.i (omega arith)) (c.loop-i.invariant.1 s knows))
