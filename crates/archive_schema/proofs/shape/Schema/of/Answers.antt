use Rattle.std.proofs.Common.{sym, subst}
use Rattle.archive_check.specs.Expressions.{shape_of, entries_of}
use Rattle.archive_schema.specs.plan.Planned.{InOrder, IsPlan}
use Rattle.archive_schema.proofs.Archives.{prepared_laid_out, prepared_schema, prepared_held}
use Rattle.archive_schema.proofs.plan.PlansInOrder.{in_order_of}
use Rattle.archive_schema.proofs.plan.PackedPlans.{plan_packed}
use Rattle.archive_schema.proofs.shape.Schema.of.Goals as goal

pub of-requires : goal.of-requires
of-requires g c =
    let made = c.in_ok-definitions.ensures.made in
    let order : InOrder c.in_ok-definitions.definitions.items g.T.Portable.shape = in_order_of c.in_ok-definitions.definitions.items g.T.Portable.shape made.complete made.ordered in
    let here : InOrder c.in_ok-definitions.definitions.items (shape_of c.in_ok-root.root) = subst (λ X. InOrder c.in_ok-definitions.definitions.items X) (sym c.in_ok-root.ensures.shape) order in
    subst (λ ds. InOrder ds (shape_of c.in_ok-root.root)) (sym c.deref.ensures.value) here

pub returns-clause-held : goal.returns-clause-held
returns-clause-held g c = prepared_held g.T.ArchivePointee.definitions g.T.Portable.shape (entries_of c.in_ok-definitions.definitions.items) c.in_ok-definitions.ensures.made

pub returns-clause-made : goal.returns-clause-made
returns-clause-made g c = prepared_schema _ g.T.Portable.shape g.T.ArchivePointee.definitions c.in_ok-root.ensures.shape c.in_ok-definitions.ensures.made

pub invariant_of-result-clause-arranged : goal.invariant_of-result-clause-arranged
invariant_of-result-clause-arranged g c = ∣ c.in_ok-definitions.ensures.made.ordered ∣₁

pub invariant_of-result-clause-packed : goal.invariant_of-result-clause-packed
invariant_of-result-clause-packed g c =
    let X = shape_of c.in_ok-root.root in
    let plan = subst (λ ds. IsPlan ds X c.in_ok-plan.plan c.in_ok-plan.node) c.deref.ensures.value c.in_ok-plan.ensures.made in
    plan_packed c.in_ok-definitions.definitions.items X c.in_ok-plan.plan c.in_ok-plan.node c.in_ok-definitions.ensures.made.ordered plan

pub invariant_of-result-clause-laid_out : goal.invariant_of-result-clause-laid_out
invariant_of-result-clause-laid_out g c =
    prepared_laid_out g.T.ArchivePointee.definitions g.T.Portable.shape (entries_of c.in_ok-definitions.definitions.items) g.met.T.Portable.no_others c.in_ok-definitions.ensures.made
