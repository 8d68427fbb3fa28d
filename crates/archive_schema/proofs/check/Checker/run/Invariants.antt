use Rattle.std.proofs.Common.{pos, [], ◌+◌, ◌≤◌}
use Rattle.std.specs.FinMap.{empty}
use Rattle.archive_schema.specs.declared.plan.PointeeKind.TheVariants.{One}
use Rattle.archive_check.specs.Tour.{Seen}
use Rattle.archive_check.specs.context.Pushes.{worth}
use Rattle.archive_schema.specs.check.Lists.{list_of}
use Rattle.archive_schema.specs.check.Paid.{bytes_in}
use Rattle.archive_check.specs.context.FreshContexts.{HasLevels, IsFresh}
use Rattle.archive_check.specs.Outcomes.{Outcome}
use Rattle.archive_schema.specs.check.Runs.{EnterRuns}
use Rattle.archive_schema.specs.check.LoopInvariant.{Ready, cost, stage, Agreeing, IsOrderly, Listing}
use Rattle.archive_schema.proofs.check.Checker.run.Given as goal

abbrev pub decreases-loop-entry : goal.decreases-loop-entry
decreases-loop-entry g l = cost l.self (g.C.Context.state l.context).end (list_of l.work)

abbrev pub invariant-loop-entry : goal.invariant-loop-entry
invariant-loop-entry g l =
    Ready l.self (g.C.Context.state l.context) (list_of l.work)
    × ((HasLevels (g.C.Context.state l.fn.context).depth → IsOrderly (stage (g.C.Context.state l.context) (g.C.Context.positions l.context) (list_of l.work)))
    × (IsFresh (g.C.Context.state l.fn.context) (g.C.Context.positions l.fn.context)
    → (seen : Seen)
    × Agreeing (stage (g.C.Context.state l.context) (g.C.Context.positions l.context) (list_of l.work)) seen
    × ((o : Outcome) → Listing l.self (stage (g.C.Context.state l.context) (g.C.Context.positions l.context) (list_of l.work)) seen o
    → EnterRuns l.self [] (g.C.Context.state l.fn.context).depth (g.C.Context.state l.fn.context).end One l.root 1 (pos l.at) (g.C.Context.state l.fn.context).start empty o)))
    × (worth (g.C.Context.state l.context) + bytes_in l.self (list_of l.work) ≤ 4 + worth (g.C.Context.state l.fn.context))
