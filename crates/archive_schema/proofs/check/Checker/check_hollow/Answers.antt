use Rattle.std.proofs.Common.{arith}
use Rattle.archive_check.proofs.Checks.TestedAnswers.{is_true}
use Rattle.archive_schema.proofs.check.AtOnce.{towards_element, element_stops}
use Rattle.archive_schema.proofs.check.HollowRecords.{front_stops}
use Rattle.archive_schema.proofs.check.Paid.{elements_next_is}
use Rattle.archive_schema.proofs.check.Checker.check_hollow.Goals as goal

pub check_leaves-requires-clause-free : goal.check_leaves-requires-clause-free
check_leaves-requires-clause-free g c = is_true c.args.parts.is_free c.if-parts.true

pub returns-in_err-check_hollow_record-clause-passes : goal.returns-in_err-check_hollow_record-clause-passes
returns-in_err-check_hollow_record-clause-passes g c =
    front_stops c.from_residual.ensures (element_stops c.args.size c.loop-index-test.true c.loop-index.invariant.0 c.in_err-check_hollow_record.ensures.passes)

pub loop-index-preserved : goal.loop-index-preserved
loop-index-preserved g c = (
  towards_element c.args.self.now c.args.node c.args.size c.requires.size c.loop-index-test.true c.loop-index.invariant.0 c.in_ok-check_hollow_record.ensures.passes.some,
  omega (arith, c.loop-index.invariant.1, c.in_ok-check_hollow_record.ensures.pays, elements_next_is c.args.self.now c.args.node c.args.count c.loop-index.index c.loop-index-test.true),
  omega (arith, c.loop-index-test.true),
)
