use Rattle.std.proofs.Common.{rules, ◌+◌, ◌≤◌, arith, length}
use Rattle.archive_check.proofs.Checks.TestedAnswers.{is_true}
use Rattle.archive_schema.proofs.check.HollowRecords.{last_fits, hollow_bytes}
use Rattle.archive_schema.proofs.check.HollowTurns.{run_ready, opens_hollow}
use Rattle.archive_schema.proofs.check.Paid.{record_few}
use Rattle.archive_schema.proofs.check.Checker.open_hollow.Goals as goal

pub overflow_add-at : goal.overflow_add-at
overflow_add-at g c =
    let f = last_fits c.requires.plan.sound c.requires.hollow c.requires.ready.fits.0 in
    let h : c.args.at + c.args.parts.offset ≤ length c.args.self.now.bytes.now = omega (arith, f.fits) in search rules

pub open_run-requires : goal.open_run-requires
open_run-requires g c = record { plan = c.requires.plan; kind = c.requires.hollow.pointer_is; ready = run_ready c.requires.plan.sound c.requires.ready c.requires.hollow }

pub returns-then-parts-clause-turn : goal.returns-then-parts-clause-turn
returns-then-parts-clause-turn g c =
    opens_hollow c.requires.plan.sound c.requires.ready c.requires.hollow (is_true c.args.parts.is_free c.if-parts.true) c.open_run.ensures.turn

pub returns-then-parts-clause-pays : goal.returns-then-parts-clause-pays
returns-then-parts-clause-pays g c =
    let f = c.requires.ready.fits.0 in
    omega (arith, c.open_run.ensures.pays, hollow_bytes c.requires.plan.sound c.requires.hollow f, record_few f c.requires.plan.packed c.requires.hollow.record_is)
