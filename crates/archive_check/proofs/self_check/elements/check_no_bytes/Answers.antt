use Rattle.archive_check.specs.SelfCheck.Ways.{run_way}
use Rattle.archive_check.proofs.SelfCheck.Outcomes.{some_map, none_map}
use Rattle.archive_check.proofs.SelfCheck.Ways.{goes_same}
use Rattle.archive_check.proofs.SelfCheck.Steps.{none_way}
use Rattle.archive_check.proofs.SelfCheck.Elements.{empty_goes, empty_halts}
use Rattle.archive_check.proofs.self_check.elements.check_no_bytes.Goals as goal

pub returns-then-count-eq0-clause-through : goal.returns-then-count-eq0-clause-through
returns-then-count-eq0-clause-through g c =
    let s = g.C.Context.state c.args.context.now in
    goes_same g.T.ArchivePointee.definitions (run_way c.args.bytes.now c.args.at c.args.count g.T.Portable.shape) s (λ t k pending seen. none_way c.args.bytes.now t pending s.depth s.end s.start seen c.args.at c.args.count g.T.Portable.shape c.if-count-eq0.true)

pub returns-clause-through : goal.returns-clause-through
returns-clause-through g c = some_map c.check_value.result (empty_goes g.T.ArchivePointee.definitions g.T.Portable.shape g.T.Portable.layout g.met.T.Portable.has_layout c.requires.empty c.args.bytes.now c.args.at c.args.count (g.C.Context.state c.args.context.now) (g.C.Context.state c.check_value.new.context)) c.check_value.ensures.through

pub returns-clause-stops : goal.returns-clause-stops
returns-clause-stops g c d = none_map c.check_value.result (empty_halts g.T.ArchivePointee.definitions g.T.Portable.shape g.T.Portable.layout g.met.T.Portable.has_layout c.requires.empty c.args.bytes.now c.args.at c.args.count (g.C.Context.state c.args.context.now) c.check_value.new.refusal c.if-count-eq0.false) (c.check_value.ensures.stops d)
