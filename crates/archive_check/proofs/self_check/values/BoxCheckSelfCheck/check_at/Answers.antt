use Rattle.std.proofs.Common.{SFits, ◌∙◌, to_z, of_z, None}
use Rattle.std.proofs.lemmas.Int.{to_z-of_z}
use mir.Syntax.{w128}
use Rattle.archive_check.specs.Shape.{one, boxed}
use Rattle.archive_check.specs.Value.{Pointer}
use Rattle.archive_check.specs.SelfCheck.Ways.{shape_way, enter_way}
use Rattle.archive_check.proofs.SelfCheck.Ways.{goes_by, halts_by}
use Rattle.archive_check.proofs.SelfCheck.Steps.{boxed_way}
use Rattle.archive_check.proofs.self_check.values.BoxCheckSelfCheck.check_at.Goals as goal

pub returns-clause-through : goal.returns-clause-through
returns-clause-through g c =
    let D = g.T.ArchivePointee.definitions in
    let X = g.T.Portable.shape in
    let b = c.args.bytes.now in
    let s = g.C.Context.state c.args.context.now in
    let z = to_z w128 (of_z w128 c.read_position.result) in
    let p : Pointer = record { target = z; sharing = None; order = None; pointee = one X; length = 0 } in
    let fits : SFits w128 c.read_position.result = record { sfits = c.read_position.type_inv } in
    let z_is = to_z-of_z w128 c.read_position.result fits ∙ c.read_position.ensures in
    goes_by D D (enter_way b p) (shape_way b c.args.at (boxed (one X))) s (λ t k. k) (λ t k pending seen o w. boxed_way b t pending s.depth s.end s.start seen c.args.at (one X) o (rw z_is at w)) (g.C.Context.state c.check_one.new.context) c.check_one.result c.check_one.ensures.through

pub returns-clause-stops : goal.returns-clause-stops
returns-clause-stops g c d =
    let D = g.T.ArchivePointee.definitions in
    let X = g.T.Portable.shape in
    let b = c.args.bytes.now in
    let s = g.C.Context.state c.args.context.now in
    let z = to_z w128 (of_z w128 c.read_position.result) in
    let p : Pointer = record { target = z; sharing = None; order = None; pointee = one X; length = 0 } in
    let fits : SFits w128 c.read_position.result = record { sfits = c.read_position.type_inv } in
    let z_is = to_z-of_z w128 c.read_position.result fits ∙ c.read_position.ensures in
    halts_by D D (enter_way b p) (shape_way b c.args.at (boxed (one X))) s (λ t k. k) (λ t k pending seen o w. boxed_way b t pending s.depth s.end s.start seen c.args.at (one X) o (rw z_is at w)) c.check_one.new.refusal c.check_one.result (c.check_one.ensures.stops d)
