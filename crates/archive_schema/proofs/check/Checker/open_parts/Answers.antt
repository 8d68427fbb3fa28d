use Rattle.std.proofs.Common.{arith}
use Rattle.archive_schema.proofs.check.TurnExits.{turn_then}
use Rattle.archive_schema.proofs.check.Checker.open_parts.Goals as goal

pub open-requires-clause-ready : goal.open-requires-clause-ready
open-requires-clause-ready g c = (rw c.in-Here.is at c.in_ok-node.ensures.turn).some.ready

pub returns-in-Here-clause-turn : goal.returns-in-Here-clause-turn
returns-in-Here-clause-turn g c =
    let next = (rw c.in-Here.is at c.in_ok-node.ensures.turn).some in
    turn_then c.open.ensures.turn (omega (arith, next.ends)) next.leads

pub returns-in-Here-clause-pays : goal.returns-in-Here-clause-pays
returns-in-Here-clause-pays g c =
    let pays = rw c.in-Here.is at c.in_ok-node.ensures.pays in
    omega (arith, pays, c.open.ensures.pays)
