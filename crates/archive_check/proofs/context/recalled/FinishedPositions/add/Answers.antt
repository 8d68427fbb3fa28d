use Rattle.std.specs.Int.{w128}
use Rattle.std.proofs.Math.Facts.{to_z-of_z}
use Rattle.archive_check.proofs.context.RecalledPositions.{recalled_added}
use Rattle.archive_check.proofs.context.recalled.FinishedPositions.add.Goals as goal

pub returns-in-Some-of : goal.returns-in-Some-of
returns-in-Some-of g c =
    recalled_added c.args.self.now.slots c.add.new.self c.in-Some.key _ c.args.position c.in-Some-of.kept c.args.now c.add.ensures c.in-Some.ensures
    (to_z-of_z {w = w128} {z = c.args.position} c.ranges.position) c.in-Some-of.ensures
