use Rattle.archive_check.proofs.format.Views.{shape_of-Record}
use Rattle.archive_core.proofs.recursive.naming.record_of.Goals as goal

pub returns : goal.returns
returns c = shape_of-Record c.args.list
