use Rattle.std.proofs.Common.{rules}
use Rattle.archive_inspect.proofs.Refused.{region_outside}
use Rattle.archive_inspect.proofs.ways.regions.is_outside_refused.Goals as goal

pub returns : goal.returns
returns c = λ t. region_outside c.args.form.now.schema _ c.args.position c.args.size _ _ (search rules) (c.has_size.ensures (search rules)) (c.is_outside.ensures t)
