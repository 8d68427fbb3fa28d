use Rattle.std.proofs.Common.{refl}
use Rattle.archive_inspect.specs.declared.ways.Thing.TheVariants as thing
use Rattle.archive_inspect.proofs.WaySteps.{key_step}
use Rattle.archive_inspect.proofs.ways.steps.to_key.Goals as goal

pub returns : goal.returns
returns c = key_step c.args.form.now.schema c.args.bytes.now c.args.from (record { at = c.in_ok-places.places.key; thing = thing.Key c.in_ok-map.map.0 }) c.in_ok-map.ensures c.in_ok-places.ensures refl refl
