use Rattle.std.proofs.Common.{arith}
use Rattle.archive_schema.proofs.check.Openings.{opening_begins, opening_goes, opening_ends}
use Rattle.archive_schema.proofs.check.Rows.{no_row}
use Rattle.archive_schema.proofs.check.Checker.check_trees.Goals as goal

pub loop-row-init : goal.loop-row-init
loop-row-init g c = (opening_begins c.requires.ready, omega arith)

pub check_level-requires-clause-ready : goal.check_level-requires-clause-ready
check_level-requires-clause-ready g c = c.loop-row.invariant.0.ready

pub returns-in_err-row-clause-turn : goal.returns-in_err-row-clause-turn
returns-in_err-row-clause-turn g c = rw c.from_residual.ensures (opening_ends c.loop-row.invariant.0 c.in_err-row.ensures.turn)

pub returns-in_err-row-clause-pays : goal.returns-in_err-row-clause-pays
returns-in_err-row-clause-pays g c = omega (arith, c.in_err-row.ensures.pays, c.loop-row.invariant.1)

pub loop-row-smaller : goal.loop-row-smaller
loop-row-smaller g c = (rw c.in-Some.is at c.in_ok-row.ensures.turn).some.ends

pub loop-row-preserved : goal.loop-row-preserved
loop-row-preserved g c =
    let turn = rw c.in-Some.is at c.in_ok-row.ensures.turn in
    let pays = rw c.in-Some.is at c.in_ok-row.ensures.pays in
    (opening_goes c.loop-row.invariant.0 turn.some, omega (arith, pays, c.loop-row.invariant.1))

pub returns-clause-turn : goal.returns-clause-turn
returns-clause-turn g c =
    let none = no_row c.in_ok-row.field-0 c.in_default.not-Some in
    opening_ends c.loop-row.invariant.0 (rw none at c.in_ok-row.ensures.turn)

pub returns-clause-pays : goal.returns-clause-pays
returns-clause-pays g c =
    let none = no_row c.in_ok-row.field-0 c.in_default.not-Some in
    let pays = rw none at c.in_ok-row.ensures.pays in
    omega (arith, pays, c.loop-row.invariant.1)
