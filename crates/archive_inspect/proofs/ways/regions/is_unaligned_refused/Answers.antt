use Rattle.std.proofs.Common.{rules}
use Rattle.archive_inspect.proofs.Refused.{region_unaligned}
use Rattle.archive_inspect.proofs.ways.regions.is_unaligned_refused.Goals as goal

pub returns : goal.returns
returns c = λ t. region_unaligned c.args.form.now.schema _ c.args.position c.args.align (search rules) (c.has_align.ensures (search rules)) (c.is_unaligned.ensures t)
