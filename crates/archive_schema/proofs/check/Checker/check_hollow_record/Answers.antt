use Rattle.std.proofs.Common.{rules, ◌+◌, ◌≤◌, arith, length}
use Rattle.archive_schema.proofs.check.HollowRecords.{front_fit, last_fits, hollow_bytes, hollow_refused, hollow_passes}
use Rattle.archive_schema.proofs.check.Paid.{record_few}
use Rattle.archive_schema.proofs.check.Checker.check_hollow_record.Goals as goal

pub check_front-requires-clause-fits : goal.check_front-requires-clause-fits
check_front-requires-clause-fits g c = front_fit c.requires.plan.sound c.requires.hollow c.requires.fits

pub returns-in_err-check_front-clause-passes : goal.returns-in_err-check_front-clause-passes
returns-in_err-check_front-clause-passes g c = rw c.from_residual.ensures (hollow_refused c.requires.hollow c.in_err-check_front.ensures.passes)

pub returns-in_err-check_front-clause-pays : goal.returns-in_err-check_front-clause-pays
returns-in_err-check_front-clause-pays g c =
    omega (arith, c.in_err-check_front.ensures.pays, hollow_bytes c.requires.plan.sound c.requires.hollow c.requires.fits, record_few c.requires.fits c.requires.plan.packed c.requires.hollow.record_is)

pub overflow_add-at : goal.overflow_add-at
overflow_add-at g c =
    let f = last_fits c.requires.plan.sound c.requires.hollow c.requires.fits in
    let h : c.args.at + c.args.parts.offset ≤ length c.args.self.now.bytes.now = omega (arith, f.fits) in search rules

pub check_empty_run-requires-clause-fits : goal.check_empty_run-requires-clause-fits
check_empty_run-requires-clause-fits g c = last_fits c.requires.plan.sound c.requires.hollow c.requires.fits

pub returns-clause-passes : goal.returns-clause-passes
returns-clause-passes g c = hollow_passes c.requires.hollow c.in_ok-check_front.ensures.passes.some c.check_empty_run.ensures.passes

pub returns-clause-pays : goal.returns-clause-pays
returns-clause-pays g c =
    omega (arith, c.in_ok-check_front.ensures.pays, c.check_empty_run.ensures.pays, hollow_bytes c.requires.plan.sound c.requires.hollow c.requires.fits, record_few c.requires.fits c.requires.plan.packed c.requires.hollow.record_is)
