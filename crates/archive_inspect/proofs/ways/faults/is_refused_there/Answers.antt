use Rattle.std.proofs.Common.{rules}
use Rattle.archive_inspect.proofs.Refused.{refused_there}
use Rattle.archive_inspect.proofs.ways.faults.is_refused_there.Goals as goal

pub returns-then-is_at : goal.returns-then-is_at
returns-then-is_at c = λ t. refused_there c.args.form.now.schema c.args.bytes.now c.args.root c.args.steps.now c.args.position c.in-Some.point c.args.refusal c.in-Some.ensures (c.is_at.ensures (search rules)) (c.is_point_refused.ensures t)
