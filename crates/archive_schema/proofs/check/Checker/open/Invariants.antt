use Rattle.std.proofs.Common.{◌+◌, ◌≤◌, ◌∷◌}
use Rattle.archive_check.specs.context.Pushes.{worth}
use Rattle.archive_schema.specs.declared.check.worklist.Work.TheVariants.{Part}
use Rattle.archive_schema.specs.plan.PackedPlans.{size_at}
use Rattle.archive_schema.specs.check.Lists.{list_of}
use Rattle.archive_schema.specs.check.Paid.{bytes_in}
use Rattle.archive_schema.specs.check.LoopInvariant.{stage, cost}
use Rattle.archive_schema.specs.check.Turns.{with_entry}
use Rattle.archive_schema.proofs.check.Openings.{IsOpening}
use Rattle.archive_schema.proofs.check.Checker.open.Given as goal

abbrev pub decreases-loop-node : goal.decreases-loop-node
decreases-loop-node g l = cost l.self (g.C.Context.state l.context).end (Part l.here l.begin ∷ list_of l.work)

abbrev pub invariant-loop-node : goal.invariant-loop-node
invariant-loop-node g l =
    IsOpening l.self (with_entry (Part l.node l.at) (stage (g.C.Context.state l.fn.context) (g.C.Context.positions l.fn.context) (list_of l.fn.work)))
    (with_entry (Part l.here l.begin) (stage (g.C.Context.state l.context) (g.C.Context.positions l.context) (list_of l.work)))
    × (size_at l.self.nodes.now l.here + (worth (g.C.Context.state l.context) + bytes_in l.self (list_of l.work)) ≤ size_at l.self.nodes.now l.node + (worth (g.C.Context.state l.fn.context) + bytes_in l.self (list_of l.fn.work)))
