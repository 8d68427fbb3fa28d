use Rattle.std.proofs.lemmas.Bool.{and_parts}
use Rattle.archive_check.specs.Shape.{array}
use Rattle.archive_check.specs.SelfCheck.Ways.{shape_way, run_way}
use Rattle.archive_check.proofs.SelfCheck.Arrays.{array_way}
use Rattle.archive_check.proofs.SelfCheck.Ways.{goes_by, halts_by}
use Rattle.archive_check.proofs.self_check.arrays.ArrayCheckSelfCheck.check_at.Goals as goal

pub returns-clause-through : goal.returns-clause-through
returns-clause-through g c =
    let D = g.T.ArchivePointee.definitions in
    let X = g.T.Portable.shape in
    let b = c.args.bytes.now in
    let s = g.C.Context.state c.args.context.now in
    goes_by D D (run_way b c.args.at g.row.N X) (shape_way b c.args.at (array g.row.N X)) s (λ t k. k) (λ t k pending seen o w. array_way t b pending s.depth s.end s.start seen c.args.at g.row.N X o w)
    (g.C.Context.state c.check_elements.new.context) c.check_elements.result c.check_elements.ensures.through

pub returns-clause-stops : goal.returns-clause-stops
returns-clause-stops g c d =
    let D = g.T.ArchivePointee.definitions in
    let X = g.T.Portable.shape in
    let b = c.args.bytes.now in
    let s = g.C.Context.state c.args.context.now in
    halts_by D D (run_way b c.args.at g.row.N X) (shape_way b c.args.at (array g.row.N X)) s (λ t k. k) (λ t k pending seen o w. array_way t b pending s.depth s.end s.start seen c.args.at g.row.N X o w)
    c.check_elements.new.refusal c.check_elements.result (c.check_elements.ensures.stops (and_parts _ _ d).0)
