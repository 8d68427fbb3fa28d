use Rattle.std.proofs.Common.{arith}
use Rattle.archive_schema.proofs.check.RootRuns.{run_accepts, run_refuses, run_of_check, run_exact_ok, run_exact_err}
use Rattle.archive_schema.proofs.check.Checker.check.Goals as goal

pub returns-in-Some-clause-ok : goal.returns-in-Some-clause-ok
returns-in-Some-clause-ok g c =
    run_accepts c.args.self.now c.args.root c.args.at (g.C.Context.state c.args.context.now) (g.C.Context.positions c.args.context.now) c.requires.sound c.in-Some.ensures.ok

pub returns-in-Some-clause-exact : goal.returns-in-Some-clause-exact
returns-in-Some-clause-exact g c =
    run_exact_ok c.args.self.now c.args.root c.args.at (g.C.Context.state c.args.context.now) (g.C.Context.positions c.args.context.now) c.requires.sound c.in-Some.ensures.ok

pub returns-clause-err : goal.returns-clause-err
returns-clause-err g c =
    rw c.fault.ensures (run_refuses c.args.self.now c.args.root c.args.at (g.C.Context.state c.args.context.now) (g.C.Context.positions c.args.context.now) c.requires.sound c.run.new.work.fault c.in-None.ensures.err)

pub returns-clause-exact : goal.returns-clause-exact
returns-clause-exact g c =
    rw c.fault.ensures (run_exact_err c.args.self.now c.args.root c.args.at (g.C.Context.state c.args.context.now) (g.C.Context.positions c.args.context.now) c.requires.sound c.run.new.work.fault (omega arith) c.in-None.ensures.err)

pub returns-clause-of_check : goal.returns-clause-of_check
returns-clause-of_check g c =
    rw c.fault.ensures (run_of_check c.args.self.now c.args.root c.args.at (g.C.Context.state c.args.context.now) (g.C.Context.positions c.args.context.now) c.requires.sound c.run.new.work.fault c.in-None.ensures.err)
