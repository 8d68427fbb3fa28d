use Rattle.std.proofs.Common.{◌+◌, ◌*◌, arith}
use Rattle.archive_schema.specs.check.LoopInvariant.{LeadsNowhere}
use Rattle.archive_check.proofs.Checks.TestedAnswers.{is_true}
use Rattle.archive_schema.proofs.check.LegalElements.{room, holds_more}
use Rattle.archive_schema.proofs.check.FollowedPointers.{weak_nowhere}
use Rattle.archive_schema.proofs.check.TurnInvariants.{kind_fits, node_there}
use Rattle.archive_schema.proofs.check.Checker.count_weak.Goals as goal

pub type_number-requires : goal.type_number-requires
type_number-requires g c = (kind_fits c.requires.sound (node_there c.requires.size c.index-self-node.is c.in-Weak.is) c.requires.size).1

pub leads_back_or_is_null-requires : goal.leads_back_or_is_null-requires
leads_back_or_is_null-requires g c =
    let kind = kind_fits c.requires.sound (node_there c.requires.size c.index-self-node.is c.in-Weak.is) c.requires.size in
    omega (arith, kind.0, room c.args.self.now c.args.node c.args.size c.requires.size c.args.count c.args.at c.loop-index.index c.requires.fits c.loop-index-test.true)

pub loop-index-preserved : goal.loop-index-preserved
loop-index-preserved g c =
    let back = c.leads_back_or_is_null.ensures c.in-Weak.shared_type c.in-Some.ensures (is_true c.leads_back_or_is_null.result c.if-not-leads_back_or_is_null.false) in
    holds_more (λ k. LeadsNowhere c.args.self.now (g.C.Context.positions c.args.context.now) c.args.node (c.args.at + k * c.args.size)) c.loop-index.index c.loop-index.invariant
    (weak_nowhere (node_there c.requires.size c.index-self-node.is c.in-Weak.is) back)

pub returns-clause-passed : goal.returns-clause-passed
returns-clause-passed g c = λ k lt. c.loop-index.invariant k (omega (arith, lt, c.loop-index-test.false))
