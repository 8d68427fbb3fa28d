use Rattle.std.proofs.Common.{refl, sym, subst}
use Rattle.archive_check.specs.Expressions.{shape_of, entries_of}
use Rattle.archive_schema.specs.plan.Planned.{InOrder, IsPlan}
use Rattle.archive_schema.proofs.Given.{taken_laid_out, schema_among}
use Rattle.archive_schema.proofs.plan.PlansInOrder.{in_order_of}
use Rattle.archive_schema.proofs.plan.PackedPlans.{plan_packed}
use Rattle.archive_schema.proofs.shape.Schema.new.Goals as goal

pub of-requires : goal.of-requires
of-requires c =
    let made = c.in_ok-definitions.ensures.ok in
    let order : InOrder c.in_ok-definitions.definitions.items (shape_of c.args.root) = in_order_of c.in_ok-definitions.definitions.items (shape_of c.args.root) made.complete made.ordered in
    subst (λ ds. InOrder ds (shape_of c.args.root)) (sym c.deref.ensures.value) order

pub returns-clause-made : goal.returns-clause-made
returns-clause-made c = schema_among _ (entries_of c.args.definitions.items) (shape_of c.args.root) refl c.in_ok-definitions.ensures.ok

pub invariant_of-result-clause-complete : goal.invariant_of-result-clause-complete
invariant_of-result-clause-complete c = c.in_ok-definitions.ensures.ok.complete

pub invariant_of-result-clause-arranged : goal.invariant_of-result-clause-arranged
invariant_of-result-clause-arranged c = ∣ c.in_ok-definitions.ensures.ok.ordered ∣₁

pub invariant_of-result-clause-packed : goal.invariant_of-result-clause-packed
invariant_of-result-clause-packed c =
    let X = shape_of c.args.root in
    let plan = subst (λ ds. IsPlan ds X c.in_ok-plan.plan c.in_ok-plan.node) c.deref.ensures.value c.in_ok-plan.ensures.made in
    plan_packed c.in_ok-definitions.definitions.items X c.in_ok-plan.plan c.in_ok-plan.node c.in_ok-definitions.ensures.ok.ordered plan

pub invariant_of-result-clause-laid_out : goal.invariant_of-result-clause-laid_out
invariant_of-result-clause-laid_out c =
    taken_laid_out (entries_of c.in_ok-definitions.definitions.items) (shape_of c.args.root) c.in_ok-definitions.ensures.ok.complete c.in_ok-definitions.ensures.ok.ordered
