use Rattle.std.proofs.Common.{rules, ◌+◌, ◌*◌, ◌≤◌, arith, length}
use Rattle.std.proofs.Math.Nat.{mul-le-mul_right}
use Rattle.archive_schema.proofs.check.HollowRecords.{others_ready, others_turn, front_refused}
use Rattle.archive_schema.proofs.check.LegalElements.{elements_fit}
use Rattle.archive_schema.proofs.check.Checker.check_records.Goals as goal

pub check_hollow-requires : goal.check_hollow-requires
check_hollow-requires g c = record { plan = c.requires.plan; hollow = c.requires.hollow; fits = c.requires.ready.fits.0; size = c.requires.size; below = c.requires.ready.below }

pub returns-in_err-hollow-clause-turn : goal.returns-in_err-hollow-clause-turn
returns-in_err-hollow-clause-turn g c = rw c.from_residual.ensures (front_refused c.in_err-hollow.ensures.passes)

pub returns-in_err-hollow-clause-pays : goal.returns-in_err-hollow-clause-pays
returns-in_err-hollow-clause-pays g c = omega (arith, c.in_err-hollow.ensures.pays)

pub overflow_add-at : goal.overflow_add-at
overflow_add-at g c =
    let all : c.in_ok-hollow.hollow * c.args.size ≤ c.args.left * c.args.size = mul-le-mul_right c.args.size c.in_ok-hollow.ensures.passes.some.few in
    let fit = elements_fit c.args.self.now c.args.node c.args.size c.requires.size c.args.left c.args.at c.requires.ready.fits.0 in
    let h : c.args.at + c.in_ok-hollow.hollow * c.args.size ≤ length c.args.self.now.bytes.now = omega (arith, fit, all) in search rules

pub open_records-requires : goal.open_records-requires
open_records-requires g c = record { plan = c.requires.plan; hollow = c.requires.hollow; ready = others_ready c.requires.ready c.requires.size c.in_ok-hollow.ensures.passes.some; size = c.requires.size }

pub returns-clause-turn : goal.returns-clause-turn
returns-clause-turn g c = others_turn c.requires.ready c.requires.size c.in_ok-hollow.ensures.passes.some c.open_records.ensures.turn

pub returns-clause-pays : goal.returns-clause-pays
returns-clause-pays g c = omega (arith, c.in_ok-hollow.ensures.pays, c.open_records.ensures.pays)
