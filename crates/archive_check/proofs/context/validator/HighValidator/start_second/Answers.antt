use Rattle.std.proofs.Common.{ap, ◌∙◌}
use Rattle.std.proofs.lemmas.Int.{to_z-of_z}
use mir.Syntax.{w128}
use Rattle.archive_check.specs.context.Validators.{positions_of}
use Rattle.archive_check.proofs.context.SharedPositions.{answer_same, started_same}
use Rattle.archive_check.proofs.context.FirstPositions.{met_elsewhere, refused_elsewhere}
use Rattle.archive_check.proofs.context.validator.HighValidator.start_second.Goals as goal

pub returns-in_err-positions-clause-answer : goal.returns-in_err-positions-clause-answer
returns-in_err-positions-clause-answer c =
    rw c.requires.none (rw c.in-Some.is
    (refused_elsewhere _ _ c.in_err-positions.field-0.0 c.from_residual.result (met_elsewhere c.in-Some.first c.args.position (c.requires.elsewhere c.in-Some.first c.in-Some.is)) c.in_err-positions.ensures.refused c.from_residual.ensures.1))

pub returns-clause-answer : goal.returns-clause-answer
returns-clause-answer c =
    let said = rw (to_z-of_z w128 c.args.position (record { sfits = c.ranges.position.sfits })) at c.start_shared-answer.ensures.answer in
    rw c.requires.none (rw c.in-Some.is (answer_same _ _ c.args.position _ _ (ap positions_of c.deref_mut.ensures.value ∙ c.in_ok-positions.ensures.same) said))

pub returns-clause-started : goal.returns-clause-started
returns-clause-started c =
    let said = rw (to_z-of_z w128 c.args.position (record { sfits = c.ranges.position.sfits })) at c.start_shared-answer.ensures.started in
    rw c.requires.none (rw c.in-Some.is (started_same _ _ _ c.args.position _ _ (ap positions_of c.deref_mut.ensures.value ∙ c.in_ok-positions.ensures.same) said))
