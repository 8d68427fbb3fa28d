use Rattle.std.proofs.Common.{◌+◌, ◌*◌, arith}
use Rattle.archive_schema.specs.check.LoopInvariant.{LeadsNowhere}
use Rattle.archive_check.proofs.Checks.TestedAnswers.{is_true}
use Rattle.archive_schema.proofs.check.LegalElements.{room, holds_more}
use Rattle.archive_schema.proofs.check.FollowedPointers.{shared_nowhere}
use Rattle.archive_schema.proofs.check.TurnInvariants.{kind_fits, node_there}
use Rattle.archive_schema.proofs.check.Checker.count_shared.Goals as goal

pub type_number-requires : goal.type_number-requires
type_number-requires g c = (kind_fits c.requires.sound (node_there c.requires.size c.index-self-node.is c.in-Shared.is) c.requires.size).1

pub leads_back-requires : goal.leads_back-requires
leads_back-requires g c =
    let kind = kind_fits c.requires.sound (node_there c.requires.size c.index-self-node.is c.in-Shared.is) c.requires.size in
    omega (arith, kind.0, room c.args.self.now c.args.node c.args.size c.requires.size c.args.count c.args.at c.loop-index.index c.requires.fits c.loop-index-test.true)

pub loop-index-preserved : goal.loop-index-preserved
loop-index-preserved g c =
    let back = c.leads_back.ensures c.in-Shared.shared_type c.in-Some.ensures (is_true c.leads_back.result c.if-not-leads_back.false) in
    holds_more (λ k. LeadsNowhere c.args.self.now (g.C.Context.positions c.args.context.now) c.args.node (c.args.at + k * c.args.size)) c.loop-index.index c.loop-index.invariant
    (shared_nowhere (node_there c.requires.size c.index-self-node.is c.in-Shared.is) back)

pub returns-clause-passed : goal.returns-clause-passed
returns-clause-passed g c = λ k lt. c.loop-index.invariant k (omega (arith, lt, c.loop-index-test.false))
