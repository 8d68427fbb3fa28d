use Rattle.std.proofs.Common.{refl}
use Rattle.archive_inspect.specs.declared.ways.Thing.TheVariants as thing
use Rattle.archive_inspect.proofs.WaySteps.{value_step}
use Rattle.archive_inspect.proofs.ways.steps.to_value.Goals as goal

pub returns : goal.returns
returns c = value_step c.args.form.now.schema c.args.bytes.now c.args.from (record { at = c.in_ok-places.places.value; thing = thing.Value c.in_ok-map.map.1 }) c.in_ok-map.ensures c.in_ok-places.ensures refl refl
