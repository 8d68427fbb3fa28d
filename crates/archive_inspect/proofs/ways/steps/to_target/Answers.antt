use Rattle.std.proofs.Common.{refl}
use Rattle.archive_inspect.specs.declared.ways.Thing.TheVariants as thing
use Rattle.archive_inspect.proofs.WaySteps.{target_step}
use Rattle.archive_inspect.proofs.ways.steps.to_target.Goals as goal

pub returns : goal.returns
returns c = target_step c.args.form.now.schema c.args.bytes.now c.args.from (record { at = c.in_ok-target.target; thing = thing.Value c.in_ok-expr.expr }) c.in_ok-pointer.ensures c.in_ok-target.ensures c.in_ok-expr.ensures.found refl
