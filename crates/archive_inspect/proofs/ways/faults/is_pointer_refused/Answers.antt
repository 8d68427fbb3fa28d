use Rattle.archive_inspect.proofs.Refused.{region_refused}
use Rattle.archive_inspect.proofs.ways.faults.is_pointer_refused.Goals as goal

pub returns-in-Some : goal.returns-in-Some
returns-in-Some c = λ t. region_refused c.args.form.now.schema c.args.bytes.now c.args.point _ c.args.refusal c.in-Some.ensures (c.is_region_refused.ensures t)
