use Rattle.std.proofs.Common.{SFits, ◌∙◌, to_z, of_z}
use Rattle.std.proofs.lemmas.Int.{to_z-of_z}
use mir.Syntax.{w128}
use Rattle.archive_check.specs.Shape.{sorted_map}
use Rattle.archive_check.specs.SelfCheck.Ways.{shape_way}
use Rattle.archive_check.specs.SelfCheck.Maps.{entry_definitions, entries_at}
use Rattle.archive_check.proofs.SelfCheck.Ways.{goes_by, halts_by}
use Rattle.archive_check.proofs.SelfCheck.Steps.{map_way}
use Rattle.archive_check.proofs.self_check.entries.MapCheckSelfCheck.check_at.Goals as goal

pub returns-clause-through : goal.returns-clause-through
returns-clause-through g c =
    let D = entry_definitions g.K.ArchivePointee.definitions g.V.ArchivePointee.definitions in
    let K = g.K.MapKey.key in
    let V = g.V.Portable.shape in
    let b = c.args.bytes.now in
    let s = g.C.Context.state c.args.context.now in
    let z = to_z w128 (of_z w128 c.read_position.result) in
    let fits : SFits w128 c.read_position.result = record { sfits = c.read_position.type_inv } in
    let z_is = to_z-of_z w128 c.read_position.result fits ∙ c.read_position.ensures in
    goes_by D D (entries_at b z c.read_u32-count.result K V) (shape_way b c.args.at (sorted_map K V)) s (λ t k. k) (λ t k pending seen o w. map_way b t pending s.depth s.end s.start seen c.args.at K V o (rw (z_is, c.read_u32-count.ensures) at w)) (g.C.Context.state c.check_map.new.context) c.check_map.result c.check_map.ensures.through

pub returns-clause-stops : goal.returns-clause-stops
returns-clause-stops g c d =
    let D = entry_definitions g.K.ArchivePointee.definitions g.V.ArchivePointee.definitions in
    let K = g.K.MapKey.key in
    let V = g.V.Portable.shape in
    let b = c.args.bytes.now in
    let s = g.C.Context.state c.args.context.now in
    let z = to_z w128 (of_z w128 c.read_position.result) in
    let fits : SFits w128 c.read_position.result = record { sfits = c.read_position.type_inv } in
    let z_is = to_z-of_z w128 c.read_position.result fits ∙ c.read_position.ensures in
    halts_by D D (entries_at b z c.read_u32-count.result K V) (shape_way b c.args.at (sorted_map K V)) s (λ t k. k) (λ t k pending seen o w. map_way b t pending s.depth s.end s.start seen c.args.at K V o (rw (z_is, c.read_u32-count.ensures) at w)) c.check_map.new.refusal c.check_map.result (c.check_map.ensures.stops d)
