use Rattle.std.proofs.Common.{arith, rules}
use Rattle.archive_inspect.proofs.WaySteps.{string_points}
use Rattle.archive_inspect.proofs.ways.pointing.string_pointing.Goals as goal

pub returns : goal.returns
returns c = string_points c.args.bytes.now c.args.at (search rules) (omega arith) (search rules)
