use Rattle.std.proofs.Common.{◌≡◌, ap, arith, pos, to_z}
use Rattle.std.proofs.lemmas.Int.{to_z_pos}
use mir.Syntax.{w128}
use Rattle.archive_schema.specs.check.Lists.{list_of}
use Rattle.archive_schema.specs.check.LoopInvariant.{stage}
use Rattle.archive_schema.proofs.check.RootLoop.{root_leads, root_refuses, root_ends, root_levels, turn_leads, turn_refuses}
use Rattle.archive_schema.specs.check.Paid.{bytes_in}
use Rattle.archive_schema.proofs.check.Checker.run.Goals as goal

pub returns-in_err-enter_here-clause-err : goal.returns-in_err-enter_here-clause-err
returns-in_err-enter_here-clause-err g c =
    let m = c.args.self.now in
    let st = g.C.Context.state in
    let met = g.C.Context.positions in
    let at : to_z w128 c.args.at ≡ pos c.args.at = to_z_pos w128 c.args.at (omega (arith, c.ranges.at.fits)) in
    rw c.from_residual.ensures (root_refuses m (st c.args.context.now) (met c.args.context.now) c.args.root c.args.at (to_z w128 c.args.at) at c.enter_here.new.work.fault c.in_err-enter_here.ensures.enters.none)

pub loop-entry-init : goal.loop-entry-init
loop-entry-init g c =
    let m = c.args.self.now in
    let st = g.C.Context.state in
    let met = g.C.Context.positions in
    let at : to_z w128 c.args.at ≡ pos c.args.at = to_z_pos w128 c.args.at (omega (arith, c.ranges.at.fits)) in (
      c.in_ok-enter_here.ensures.enters.some.ready,
      root_leads m (st c.args.context.now) (met c.args.context.now) c.args.root c.args.at (to_z w128 c.args.at) at (list_of c.args.work.now) (stage (st c.enter_here.new.context) (met c.enter_here.new.context) (list_of c.enter_here.new.work)) c.requires.none_left c.in_ok-enter_here.ensures.enters.some.leads,
      omega (arith, c.in_ok-enter_here.ensures.pays, ap (bytes_in m) c.requires.none_left),
    )

pub loop-entry-preserved : goal.loop-entry-preserved
loop-entry-preserved g c =
    let m = c.args.self.now in
    let st = g.C.Context.state in
    let met = g.C.Context.positions in (
      c.in_ok-step.ensures.turn.some.ready,
      turn_leads m (st c.args.context.now) (met c.args.context.now) c.args.root c.args.at (st c.loop-entry.context) (met c.loop-entry.context) (list_of c.loop-entry.work) c.loop-entry.invariant.1 c.in-Some.entry (list_of c.pop.new.self) c.in-Some.ensures.next (stage (st c.step.new.context) (met c.step.new.context) (list_of c.step.new.work)) c.in_ok-step.ensures.turn.some.leads,
      omega (arith, c.in_ok-step.ensures.pays, ap (bytes_in m) c.in-Some.ensures.next, c.loop-entry.invariant.2),
    )

pub returns-in_err-step-clause-err : goal.returns-in_err-step-clause-err
returns-in_err-step-clause-err g c =
    let m = c.args.self.now in
    let st = g.C.Context.state in
    let met = g.C.Context.positions in
    rw c.from_residual-in_err-step.ensures (turn_refuses m (st c.args.context.now) (met c.args.context.now) c.args.root c.args.at (st c.loop-entry.context) (met c.loop-entry.context) (list_of c.loop-entry.work) c.loop-entry.invariant.1 c.in-Some.entry (list_of c.pop.new.self) c.in-Some.ensures.next c.step.new.work.fault c.in_err-step.ensures.turn.none)

pub returns-clause-ok : goal.returns-clause-ok
returns-clause-ok g c =
    let m = c.args.self.now in
    let st = g.C.Context.state in
    let met = g.C.Context.positions in
    root_ends m (st c.args.context.now) (met c.args.context.now) c.args.root c.args.at (st c.loop-entry.context) (met c.loop-entry.context) (list_of c.loop-entry.work) c.loop-entry.invariant.1 c.in_default.ensures.over

pub returns-clause-levels : goal.returns-clause-levels
returns-clause-levels g c =
    let m = c.args.self.now in
    let st = g.C.Context.state in
    let met = g.C.Context.positions in
    root_levels m (st c.args.context.now) (met c.args.context.now) c.args.root c.args.at (st c.loop-entry.context) (met c.loop-entry.context) (list_of c.loop-entry.work) c.loop-entry.invariant.1

-- what is paid for regions

pub returns-in_err-step-clause-few_subtrees : goal.returns-in_err-step-clause-few_subtrees
returns-in_err-step-clause-few_subtrees g c =
    omega (arith, c.in_err-step.ensures.pays, ap (bytes_in c.args.self.now) c.in-Some.ensures.next, c.loop-entry.invariant.2)

pub returns-clause-few_subtrees : goal.returns-clause-few_subtrees
returns-clause-few_subtrees g c = omega (arith, c.loop-entry.invariant.2)
