use Rattle.archive_check.proofs.Checks.TestedAnswers.{is_true}
use Rattle.archive_schema.proofs.check.AtOnce.{passes_from}
use Rattle.archive_schema.proofs.check.HollowRecords.{front_free, front_legal}
use Rattle.archive_schema.proofs.check.Checker.check_front.Goals as goal

pub returns-then-is_free-clause-passes : goal.returns-then-is_free-clause-passes
returns-then-is_free-clause-passes g c = front_free c.requires.fits (c.requires.free (is_true c.args.is_free c.if-is_free.true))

pub returns-then-first_to_open-last-clause-passes : goal.returns-then-first_to_open-last-clause-passes
returns-then-first_to_open-last-clause-passes g c =
    let same = (c.in_ok-check_alone.ensures.passes.other c.if-branch.false).1 in
    passes_from same (front_legal c.first_to_open.ensures.skipped c.if-first_to_open-last.true)
