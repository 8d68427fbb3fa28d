use Rattle.std.proofs.Common.{arith}
use Rattle.archive_check.specs.Expressions.{kind_of}
use Rattle.archive_check.proofs.Checks.TestedAnswers.{is_true}
use Rattle.archive_check.proofs.format.LegalBytes.{legal_more}
use Rattle.archive_check.proofs.format.leaf.count_in_blocks.Goals as goal

pub loop-passed-preserved : goal.loop-passed-preserved
loop-passed-preserved c =
    let l = c.loop-passed in
    let block = c.is_legal_block.ensures (is_true c.is_legal_block.result c.if-not-is_legal_block.false) in
    (omega (arith, c.loop-passed-test.true), legal_more (kind_of c.args.kind) c.args.bytes.now c.args.at c.args.size l.passed 256 l.invariant.1 block)
