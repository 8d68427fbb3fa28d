use Rattle.std.proofs.Common.{ap}
use Rattle.std.proofs.lemmas.Int.{to_z-of_z}
use mir.Syntax.{w128}
use Rattle.archive_check.specs.context.Validators.{positions_of}
use Rattle.archive_check.proofs.context.SharedPositions.{answer_same, started_same}
use Rattle.archive_check.proofs.context.validator.HighValidatorSharedContext.start_shared.Goals as goal

pub returns-in-Some-clause-answer : goal.returns-in-Some-clause-answer
returns-in-Some-clause-answer c =
    let said = rw (to_z-of_z w128 c.args.position (record { sfits = c.ranges.position.sfits })) at c.start_shared.ensures.answer in
    rw c.in-Some.is (answer_same _ _ c.args.position _ _ (ap positions_of c.deref_mut.ensures.value) said)

pub returns-in-Some-clause-started : goal.returns-in-Some-clause-started
returns-in-Some-clause-started c =
    let said = rw (to_z-of_z w128 c.args.position (record { sfits = c.ranges.position.sfits })) at c.start_shared.ensures.started in
    rw c.in-Some.is (started_same _ _ _ c.args.position _ _ (ap positions_of c.deref_mut.ensures.value) said)
