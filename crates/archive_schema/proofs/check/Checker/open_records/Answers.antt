use Rattle.std.proofs.Common.{◌<◌, arith}
use Rattle.archive_schema.proofs.check.HollowTurns.{first_ready, opens_first}
use Rattle.archive_schema.proofs.check.TurnExits.{no_room, opens_no_element}
use Rattle.archive_schema.proofs.check.Checker.open_records.Goals as goal

pub returns-then-left-eq0-clause-turn : goal.returns-then-left-eq0-clause-turn
returns-then-left-eq0-clause-turn g c = opens_no_element {c = 0} c.requires.ready c.requires.size (λ k lt. absurd (omega (arith, lt))) (omega arith) (omega (arith, c.if-left-eq0.true))

pub returns-in_err-more_elements-clause-turn : goal.returns-in_err-more_elements-clause-turn
returns-in_err-more_elements-clause-turn g c = rw c.from_residual.ensures (no_room c.in_err-more_elements.ensures.none)

pub open_hollow-requires-clause-ready : goal.open_hollow-requires-clause-ready
open_hollow-requires-clause-ready g c =
    let lt : 0 < c.args.left = omega (arith, c.if-left-eq0.false) in
    first_ready c.requires.ready c.requires.size lt c.in_ok-more_elements.ensures.some

pub returns-clause-turn : goal.returns-clause-turn
returns-clause-turn g c =
    let lt : 0 < c.args.left = omega (arith, c.if-left-eq0.false) in
    opens_first c.requires.ready c.requires.size lt c.in_ok-more_elements.ensures.some c.open_hollow.ensures.turn
