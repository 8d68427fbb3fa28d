use Rattle.std.proofs.Common.{◌+◌, ◌*◌}
use Rattle.archive_schema.specs.check.LoopInvariant.{IsLegalHere}
use Rattle.archive_check.proofs.Checks.TestedAnswers.{is_true}
use Rattle.archive_schema.proofs.check.LegalElements.{element_fits, holds_more}
use Rattle.archive_schema.proofs.check.Checker.count_legal.Goals as goal

pub is_legal_here-requires-clause-fits : goal.is_legal_here-requires-clause-fits
is_legal_here-requires-clause-fits c =
    element_fits c.args.self.now c.args.node c.args.size c.requires.size c.args.count c.args.at c.loop-index.index c.requires.fits c.loop-index-test.true

pub loop-index-init : goal.loop-index-init
loop-index-init c = c.count_at_once-known.ensures.passed

pub loop-index-preserved : goal.loop-index-preserved
loop-index-preserved c =
    holds_more (λ k. IsLegalHere c.args.self.now c.args.node (c.args.at + k * c.args.size)) c.loop-index.index c.loop-index.invariant (c.is_legal_here.ensures.legal (is_true c.is_legal_here.result c.if-not-is_legal_here.false))
