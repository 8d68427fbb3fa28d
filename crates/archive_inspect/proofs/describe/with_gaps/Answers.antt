use Rattle.archive_inspect.proofs.Described.{parts_or_unused}
use Rattle.archive_inspect.proofs.describe.with_gaps.Goals as goal

pub returns : goal.returns
returns c = parts_or_unused c.args.parts.items c.in_order-ordered.result.items c.in_ok-between.between.items c.in_ok-all.all.items c.in_order-pieces.result.items c.in_order-ordered.ensures c.in_ok-between.ensures c.in_ok-all.ensures c.in_order-pieces.ensures
