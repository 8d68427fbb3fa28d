use Rattle.std.proofs.Common.{refl}
use Rattle.archive_inspect.specs.Described.{is_part}
use Rattle.archive_inspect.proofs.describe.piece_of.Goals as goal

pub returns : goal.returns
returns c = λ root reached. is_part (record { point = c.args.point; reached = reached; position = refl; thing = refl; holds = c.in_ok-size.ensures })
