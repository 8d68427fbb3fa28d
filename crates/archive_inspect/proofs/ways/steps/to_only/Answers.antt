use Rattle.std.proofs.Common.{arith}
use Rattle.std.proofs.lemmas.Option.{IfSome_then}
use Rattle.archive_inspect.proofs.WaySteps.{only_from}
use Rattle.archive_inspect.proofs.ways.steps.to_only.Goals as goal

pub returns-then-parts-eq1 : goal.returns-then-parts-eq1
returns-then-parts-eq1 c = IfSome_then c.part_from.result c.part_from.ensures
    (λ to h. only_from c.args.form.now.schema c.args.bytes.now c.args.from to c.in_ok-parts.parts.now (omega arith) c.in_ok-parts.ensures h)
