use Rattle.std.proofs.Common.{◌&&◌, nat_lt}
use Rattle.std.proofs.lemmas.Bool.{and_parts}
use Rattle.archive_check.specs.Shape.{parts}
use Rattle.archive_check.specs.Layout.{up}
use Rattle.archive_check.specs.SelfCheck.Ways.{shape_way, parts_way}
use Rattle.archive_check.proofs.SelfCheck.Ways.{goes_by, halts_by}
use Rattle.archive_check.proofs.SelfCheck.Steps.{record_way}
use Rattle.archive_check.proofs.self_check.tuples.TupleCheckSelfCheck.check_at.Goals as goal

pub returns-clause-through : goal.returns-clause-through
returns-clause-through g c =
    let D = g.P.CheckedParts.definitions in
    let ps = g.P.CheckedParts.parts in
    let b = c.args.bytes.now in
    let p = c.args.at in
    let s = g.C.Context.state c.args.context.now in
    goes_by D D (parts_way b p 0 ps) (shape_way b p (parts ps)) s (λ t k. k) (λ t k pending seen o w. record_way b t pending s.depth s.end s.start seen p ps o w) (g.C.Context.state c.check_parts.new.context) c.check_parts.result c.check_parts.ensures.through

pub returns-clause-stops : goal.returns-clause-stops
returns-clause-stops g c d =
    let each = (and_parts (g.P.CheckedParts.direct && g.P.CheckedParts.lone) (nat_lt (up (g.P.CheckedParts.end 0) g.P.PortableParts.greatest) 18446744073709551615) d).0 in
    let direct = and_parts g.P.CheckedParts.direct g.P.CheckedParts.lone each in
    let D = g.P.CheckedParts.definitions in
    let ps = g.P.CheckedParts.parts in
    let b = c.args.bytes.now in
    let p = c.args.at in
    let s = g.C.Context.state c.args.context.now in
    halts_by D D (parts_way b p 0 ps) (shape_way b p (parts ps)) s (λ t k. k) (λ t k pending seen o w. record_way b t pending s.depth s.end s.start seen p ps o w) c.check_parts.new.refusal c.check_parts.result (c.check_parts.ensures.stops direct.0)
