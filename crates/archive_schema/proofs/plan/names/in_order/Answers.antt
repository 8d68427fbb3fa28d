use Rattle.std.proofs.Common.{◌≡◌, ◌⊎◌, ⊎_elim, inl, inr, refl, length, ◌≤◌, rules, Some}
use Rattle.archive_check.specs.declared.format.error.Error.TheVariants.{OutOfMemory, RecursiveLayout}
use Rattle.archive_check.specs.Shape.{Name, Shape, definition}
use Rattle.archive_check.specs.Expressions.{entries_of}
use Rattle.archive_check.specs.Defined.{HeldIn}
use Rattle.archive_schema.proofs.plan.Restated.{handed_as}
use Rattle.archive_schema.proofs.plan.ArrangedDefinitions.{arrange_ready, arrange_stuck}
use Rattle.archive_schema.proofs.plan.names.in_order.Goals as goal

pub returns-in_err-order_next-clause-err : goal.returns-in_err-order_next-clause-err
returns-in_err-order_next-clause-err c =
    let some : 1 ≤ length c.loop-placed.rest.items = search rules in
    let stuck = arrange_stuck (entries_of c.args.rest.now.items) c.loop-placed.placed.items c.loop-placed.rest.items c.loop-placed.invariant c.loop-placed.placed.items c.loop-placed.rest.items refl refl c.requires some in
    handed_as c.from_residual.result c.in_err-order_next.field-0.0
    (λ e. (e ≡ OutOfMemory) ⊎ ((e ≡ RecursiveLayout) × (name : Name) × (Y : Shape) × (definition (entries_of c.args.rest.now.items) name ≡ Some Y) × HeldIn (entries_of c.args.rest.now.items) name Y))
    c.from_residual.ensures.1
    (⊎_elim (λ h. inl h) (λ h. let s = stuck h.1 in inr (h.0, s.0, s.1, s.2, s.3)) c.in_err-order_next.ensures.err)

pub loop-placed-preserved : goal.loop-placed-preserved
loop-placed-preserved c =
    let moved = c.in_ok-order_next.ensures.ok in
    arrange_ready (entries_of c.args.rest.now.items) c.loop-placed.placed.items c.loop-placed.rest.items c.loop-placed.invariant c.loop-placed.placed.items c.loop-placed.rest.items
    refl refl moved.at moved.def c.order_next.new.placed.items c.order_next.new.rest.items moved.ready moved.is moved.added moved.left
