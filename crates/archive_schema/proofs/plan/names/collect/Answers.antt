use Rattle.std.proofs.Common.{◌≡◌, ◌⊎◌, ⊎_elim, inl, inr, arith, length, ◌≤◌, None}
use Rattle.archive_check.specs.declared.format.error.Error.TheVariants.{OutOfMemory, ShapeConflict}
use Rattle.archive_check.specs.Shape.{Name, definition}
use Rattle.archive_check.specs.Expressions.{shape_of, entries_of}
use Rattle.archive_check.specs.Defined.{Reaches}
use Rattle.archive_schema.proofs.plan.Restated.{handed_as}
use Rattle.archive_schema.proofs.plan.CollectedDefinitions.{lost_says, found_says, gather_end}
use Rattle.archive_schema.proofs.plan.names.collect.Goals as goal

pub returns-in_err-gather-in-Some-clause-err : goal.returns-in_err-gather-in-Some-clause-err
returns-in_err-gather-in-Some-clause-err c =
    let in_list : c.loop-at.at ≤ length c.loop-at.found.items = omega (arith, c.loop-at.found.ok.0, c.loop-at-test.true, c.len.ensures) in
    let lost = lost_says (entries_of c.args.rest.now.items) (shape_of c.args.root.now) c.loop-at.found.items c.loop-at.rest.items c.loop-at.at c.loop-at.invariant in_list
    c.deref.result.now c.deref.ensures.value c.in-Some.name.now c.in-Some.ensures in
    handed_as c.from_residual.result c.in_err-gather-in-Some.field-0.0
    (λ e. (e ≡ OutOfMemory) ⊎ ((e ≡ ShapeConflict) × (name : Name) × Reaches (entries_of c.args.rest.now.items) name (shape_of c.args.root.now) × (definition (entries_of c.args.rest.now.items) name ≡ None)))
    c.from_residual.ensures.1
    (⊎_elim (λ h. inl h) (λ h. let l = lost h.1 in inr (h.0, c.in-Some.name.now, l.0, l.1)) c.in_err-gather-in-Some.ensures.err)

pub loop-at-preserved : goal.loop-at-preserved
loop-at-preserved c =
    let in_list : c.loop-at.at ≤ length c.loop-at.found.items = omega (arith, c.loop-at.found.ok.0, c.loop-at-test.true, c.len.ensures) in
    let moved = c.in_ok-gather-in-Some.ensures.ok in
    rw (moved.added) (found_says (entries_of c.args.rest.now.items) (shape_of c.args.root.now) c.loop-at.found.items c.loop-at.rest.items c.loop-at.at c.loop-at.invariant in_list
    c.deref.result.now c.deref.ensures.value c.in-Some.name.now c.in-Some.ensures moved.def c.gather.new.rest.items moved.taken)

pub returns-clause-ok : goal.returns-clause-ok
returns-clause-ok c = gather_end (entries_of c.args.rest.now.items) (shape_of c.args.root.now) c.loop-at.found.items c.loop-at.rest.items c.loop-at.at c.loop-at.invariant (omega (arith, c.loop-at.found.ok.0, c.loop-at-test.false, c.len.ensures))
