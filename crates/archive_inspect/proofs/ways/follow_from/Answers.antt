use Rattle.std.proofs.Common.{◌<◌, ◌++◌, arith, length, take, sym, ap, subst, ◌∙◌}
use Rattle.std.proofs.lemmas.List.{take_more, take_all, append-nil, append_assoc}
use Rattle.archive_inspect.specs.Points.{LeadsOn, LeadsToPoint}
use Rattle.archive_inspect.proofs.WaySteps.{way_goes_on}
use Rattle.archive_inspect.proofs.ways.follow_from.Goals as goal

pub loop-step-init : goal.loop-step-init
loop-step-init c = λ root before leads. subst (λ l. LeadsToPoint c.args.form.now.schema c.args.bytes.now root l c.args.start) (sym (append-nil before)) leads

pub loop-step-preserved : goal.loop-step-preserved
loop-step-preserved c = λ root before leads.
    let xs = c.args.steps.now in
    let i = c.loop-step.step-index in
    let f = c.args.form.now.schema in
    let below : i < length xs = omega arith in
    let x = c.meant-point.result in
    subst (λ l. LeadsToPoint f c.args.bytes.now root l x) (append_assoc before (take i xs) _ ∙ ap (λ l. before ++ l) (sym (take_more xs i _ below)))
    (way_goes_on f c.args.bytes.now root (before ++ take i xs) _ c.loop-step.point c.in_ok-next.next x (c.loop-step.invariant root before leads) c.in_ok-next.ensures c.meant-point.ensures.same c.meant-point.ensures.means)

pub returns : goal.returns
returns c = subst (λ l. LeadsOn c.args.form.now.schema c.args.bytes.now c.args.start l c.loop-step.point) (take_all c.loop-step.step-index c.args.steps.now c.loop-step-test.false) c.loop-step.invariant
