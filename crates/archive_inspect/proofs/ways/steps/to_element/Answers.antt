use Rattle.std.proofs.Common.{refl}
use Rattle.std.proofs.lemmas.Option.{IfSome_then}
use Rattle.archive_inspect.proofs.WaySteps.{array_step, element_step}
use Rattle.archive_inspect.proofs.ways.steps.to_element.Goals as goal

pub returns-in-Some : goal.returns-in-Some
returns-in-Some c = IfSome_then c.element_from.result c.element_from.ensures (λ to h. array_step c.args.form.now.schema c.args.bytes.now c.args.from to c.in-Some.ensures h)

pub returns : goal.returns
returns c = IfSome_then c.element_from-2.result c.element_from-2.ensures
    (λ to h. element_step c.args.form.now.schema c.args.bytes.now c.args.from to c.in_ok-expr.ensures c.in_ok-pointer.ensures c.in_ok-start.ensures c.in_ok-element.ensures refl h)
