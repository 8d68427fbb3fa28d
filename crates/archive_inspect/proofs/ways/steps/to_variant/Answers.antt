use Rattle.std.proofs.Common.{rules, refl}
use Rattle.archive_inspect.specs.declared.ways.Thing.TheVariants as thing
use Rattle.archive_inspect.proofs.WaySteps.{variant_step}
use Rattle.archive_inspect.proofs.ways.steps.to_variant.Goals as goal

pub returns : goal.returns
returns c = λ shown. variant_step c.args.form.now.schema c.args.bytes.now c.args.from (record { at = c.args.from.at; thing = thing.Payload c.in_ok-parts.parts })
    c.in_ok-choice.ensures (search rules) c.in_ok-parts.ensures.found refl refl shown
