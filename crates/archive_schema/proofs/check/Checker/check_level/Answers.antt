use Rattle.std.proofs.Common.{rules, ◌+◌, ◌*◌, ◌≤◌, arith, length}
use Rattle.std.proofs.Math.Nat.{mul-le-mul_right}
use Rattle.archive_schema.proofs.check.HollowRecords.{others_ready, others_turn, front_refused}
use Rattle.archive_schema.proofs.check.LegalElements.{elements_fit}
use Rattle.archive_schema.proofs.check.Rows.{turn_goes_on}
use Rattle.archive_schema.proofs.check.Checker.check_level.Goals as goal

pub check_hollow-requires : goal.check_hollow-requires
check_hollow-requires g c = record { plan = c.requires.plan; hollow = c.requires.hollow; fits = c.requires.ready.fits.0; size = c.requires.size; below = c.requires.ready.below }

pub returns-in_err-hollow-clause-turn : goal.returns-in_err-hollow-clause-turn
returns-in_err-hollow-clause-turn g c = rw c.from_residual.ensures (front_refused c.in_err-hollow.ensures.passes)

pub overflow_add-at : goal.overflow_add-at
overflow_add-at g c =
    let all : c.in_ok-hollow.hollow * c.args.size ≤ c.args.left * c.args.size = mul-le-mul_right c.args.size c.in_ok-hollow.ensures.passes.some.few in
    let fit = elements_fit c.args.self.now c.args.node c.args.size c.requires.size c.args.left c.args.at c.requires.ready.fits.0 in
    let h : c.args.at + c.in_ok-hollow.hollow * c.args.size ≤ length c.args.self.now.bytes.now = omega (arith, fit, all) in search rules

pub enter_first-requires : goal.enter_first-requires
enter_first-requires g c = record { plan = c.requires.plan; hollow = c.requires.hollow; same = c.requires.same; ready = others_ready c.requires.ready c.requires.size c.in_ok-hollow.ensures.passes.some; size = c.requires.size }

pub returns-in_err-inner-clause-turn : goal.returns-in_err-inner-clause-turn
returns-in_err-inner-clause-turn g c = rw c.from_residual-in_err-inner.ensures (others_turn c.requires.ready c.requires.size c.in_ok-hollow.ensures.passes.some c.in_err-inner.ensures.turn)

pub returns-in-Some-clause-turn : goal.returns-in-Some-clause-turn
returns-in-Some-clause-turn g c = others_turn c.requires.ready c.requires.size c.in_ok-hollow.ensures.passes.some (rw c.in-Some.is at c.in_ok-inner.ensures.turn)

pub returns-in-None-clause-turn : goal.returns-in-None-clause-turn
returns-in-None-clause-turn g c =
    others_turn c.requires.ready c.requires.size c.in_ok-hollow.ensures.passes.some (turn_goes_on {u = tt} (rw c.in-None.is at c.in_ok-inner.ensures.turn) c.ascend.ensures.turn)
