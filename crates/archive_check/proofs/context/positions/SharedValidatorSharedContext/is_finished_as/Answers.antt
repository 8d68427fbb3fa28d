use Rattle.std.specs.HashMap.{get}
use Rattle.std.specs.Ordering.{int_eq}
use Rattle.std.specs.Int.{w128}
use Rattle.std.proofs.Math.Facts.{to_z-of_z}
use Rattle.archive_check.proofs.context.SharedPositions.{finished_numbered, finished_recalled}
use Rattle.archive_check.proofs.context.positions.SharedValidatorSharedContext.is_finished_as.Goals as goal

pub returns-in-Some : goal.returns-in-Some
returns-in-Some g c =
    let kept = c.in-Some.ensures (get int_eq c.args.self.now.positions) c.args.self.now.recalls in
    finished_numbered c.args.self.now.shared_types.items (get int_eq c.args.self.now.positions) c.args.position _ c.args.number c.args.length c.is_as.result c.args.self.now.known c.args.self.now.distinct
    (to_z-of_z {w = w128} {z = c.args.position} c.ranges.position)
    (finished_recalled (get int_eq c.args.self.now.positions) _ c.in-Some.kept c.args.number c.args.length c.is_as.result kept c.is_as.ensures)

pub returns-in-None : goal.returns-in-None
returns-in-None g c =
    finished_numbered c.args.self.now.shared_types.items (get int_eq c.args.self.now.positions) c.args.position _ c.args.number c.args.length c.search_as.result c.args.self.now.known c.args.self.now.distinct
    (to_z-of_z {w = w128} {z = c.args.position} c.ranges.position) c.search_as.ensures
