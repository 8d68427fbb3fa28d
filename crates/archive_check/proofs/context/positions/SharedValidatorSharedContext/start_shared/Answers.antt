use Rattle.std.specs.Int.{w128}
use Rattle.std.proofs.Math.Facts.{to_z-of_z}
use Rattle.archive_check.proofs.context.SharedPositions.{answer_kept, started_kept, on_ok}
use Rattle.archive_check.proofs.context.positions.SharedValidatorSharedContext.start_shared.Goals as goal

pub returns-in-Some-clause-answer : goal.returns-in-Some-clause-answer
returns-in-Some-clause-answer g c =
    answer_kept _ _ c.args.position _ _ _ _ _ c.args.self.now.known (to_z-of_z {w = w128} {z = c.args.position} c.ranges.position) c.in-Some.ensures.value c.index.ensures c.answer.ensures

pub returns-in-Some-clause-started : goal.returns-in-Some-clause-started
returns-in-Some-clause-started g c =
    on_ok _ (started_kept _ _ c.args.position _ _ _ _ c.args.self.now.known (to_z-of_z {w = w128} {z = c.args.position} c.ranges.position) c.in-Some.ensures.value c.index.ensures)
