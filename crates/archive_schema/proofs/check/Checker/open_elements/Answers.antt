use Rattle.std.proofs.Common.{◌<◌, arith}
use Rattle.archive_schema.proofs.check.TurnExits.{no_room, opens_no_element, opens_element, element_opened}
use Rattle.archive_schema.proofs.check.Checker.open_elements.Goals as goal

pub returns-then-passed-left-clause-turn : goal.returns-then-passed-left-clause-turn
returns-then-passed-left-clause-turn g c = opens_no_element c.requires.ready c.requires.size c.count_passed-passed.ensures.passed c.count_passed-passed.ensures.below c.if-passed-left.true

pub returns-in_err-more_elements-clause-turn : goal.returns-in_err-more_elements-clause-turn
returns-in_err-more_elements-clause-turn g c = rw c.from_residual.ensures (no_room c.in_err-more_elements.ensures.none)

pub open-requires-clause-ready : goal.open-requires-clause-ready
open-requires-clause-ready g c =
    let lt : c.count_passed-passed.result < c.args.left = omega (arith, c.if-passed-left.false, c.count_passed-passed.ensures.below) in
    element_opened c.requires.ready c.requires.size lt c.in_ok-more_elements.ensures.some

pub returns-clause-turn : goal.returns-clause-turn
returns-clause-turn g c =
    let lt : c.count_passed-passed.result < c.args.left = omega (arith, c.if-passed-left.false, c.count_passed-passed.ensures.below) in
    opens_element c.requires.ready c.requires.size c.count_passed-passed.ensures.passed lt c.in_ok-more_elements.ensures.some c.open.ensures.turn
