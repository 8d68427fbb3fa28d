use Rattle.std.proofs.Common.{◌≡◌, ◌-◌, ◌≤◌}
use Rattle.archive_check.specs.context.Pushes.{worth}
use Rattle.archive_schema.specs.declared.check.worklist.Work.TheVariants.{Leave}
use Rattle.archive_schema.specs.check.Lists.{list_of}
use Rattle.archive_schema.specs.check.Through.{stage_of}
use Rattle.archive_schema.specs.check.Turns.{with_entry}
use Rattle.archive_schema.proofs.check.TurnExits.{AreLeaving}
use Rattle.archive_schema.proofs.check.Checker.leave_regions.Given as goal

abbrev pub invariant-loop-given : goal.invariant-loop-given
invariant-loop-given g l =
    let st = g.C.Context.state in
    let met = g.C.Context.positions in
    AreLeaving l.self (with_entry (Leave l.start l.end l.inner) (stage_of st met l.fn.context l.fn.work)) l.start l.end (l.inner - l.given) (stage_of st met l.context l.work)
    × (list_of l.work ≡ list_of l.fn.work)
    × (worth (st l.context) ≤ worth (st l.fn.context))
