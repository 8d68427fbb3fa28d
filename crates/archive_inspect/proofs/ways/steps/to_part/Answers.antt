use Rattle.std.proofs.lemmas.Option.{IfSome_then}
use Rattle.archive_inspect.proofs.WaySteps.{part_step, payload_step}
use Rattle.archive_inspect.proofs.ways.steps.to_part.Goals as goal

pub returns-in-Some : goal.returns-in-Some
returns-in-Some c = IfSome_then c.part_from.result c.part_from.ensures (λ to h shown. part_step c.args.form.now.schema c.args.bytes.now c.args.from to c.in-Some.ensures h shown)

pub returns : goal.returns
returns c = IfSome_then c.part_from-2.result c.part_from-2.ensures (λ to h shown. payload_step c.args.form.now.schema c.args.bytes.now c.args.from to c.in_ok-parts.ensures h shown)
