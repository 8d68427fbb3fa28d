use Rattle.std.proofs.Common.{arith}
use Rattle.archive_schema.proofs.check.Openings.{opening_begins, opening_goes, opening_ends, on_the_list}
use Rattle.archive_schema.proofs.check.Checker.open.Goals as goal

pub loop-node-init : goal.loop-node-init
loop-node-init g c = (opening_begins c.requires.ready, omega arith)

pub open_node-requires-clause-ready : goal.open_node-requires-clause-ready
open_node-requires-clause-ready g c = c.loop-node.invariant.0.ready

pub returns-in_err-node-clause-turn : goal.returns-in_err-node-clause-turn
returns-in_err-node-clause-turn g c = rw c.from_residual.ensures (opening_ends c.loop-node.invariant.0 c.in_err-node.ensures.turn)

pub returns-in_err-node-clause-pays : goal.returns-in_err-node-clause-pays
returns-in_err-node-clause-pays g c = omega (arith, c.in_err-node.ensures.pays, c.loop-node.invariant.1)

pub loop-node-smaller : goal.loop-node-smaller
loop-node-smaller g c = (rw c.in-Here.is at c.in_ok-node.ensures.turn).some.ends

pub loop-node-preserved : goal.loop-node-preserved
loop-node-preserved g c =
    let turn = rw c.in-Here.is at c.in_ok-node.ensures.turn in
    let pays = rw c.in-Here.is at c.in_ok-node.ensures.pays in
    (opening_goes c.loop-node.invariant.0 turn.some, omega (arith, pays, c.loop-node.invariant.1))

pub returns-clause-turn : goal.returns-clause-turn
returns-clause-turn g c =
    let next = on_the_list c.in_ok-node.field-0 c.in_default.not-Here in
    opening_ends c.loop-node.invariant.0 (rw next at c.in_ok-node.ensures.turn)

pub returns-clause-pays : goal.returns-clause-pays
returns-clause-pays g c =
    let next = on_the_list c.in_ok-node.field-0 c.in_default.not-Here in
    let pays = rw next at c.in_ok-node.ensures.pays in
    omega (arith, pays, c.loop-node.invariant.1)
