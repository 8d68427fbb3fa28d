use Rattle.std.proofs.Common.{◌+◌, ◌≤◌, ◌∷◌}
use Rattle.archive_check.specs.context.Pushes.{worth}
use Rattle.archive_schema.specs.declared.check.worklist.Work.TheVariants.{Elements}
use Rattle.archive_schema.specs.check.Lists.{list_of}
use Rattle.archive_schema.specs.check.Paid.{bytes_in, bytes_of_elements}
use Rattle.archive_schema.specs.check.LoopInvariant.{stage, cost}
use Rattle.archive_schema.specs.check.Turns.{with_entry}
use Rattle.archive_schema.proofs.check.Openings.{IsOpening}
use Rattle.archive_schema.proofs.check.Checker.check_trees.Given as goal

abbrev pub decreases-loop-row : goal.decreases-loop-row
decreases-loop-row g l = cost l.self (g.C.Context.state l.context).end (Elements l.node l.count l.begin ∷ list_of l.work)

abbrev pub invariant-loop-row : goal.invariant-loop-row
invariant-loop-row g l =
    IsOpening l.self (with_entry (Elements l.node l.left l.at) (stage (g.C.Context.state l.fn.context) (g.C.Context.positions l.fn.context) (list_of l.fn.work)))
    (with_entry (Elements l.node l.count l.begin) (stage (g.C.Context.state l.context) (g.C.Context.positions l.context) (list_of l.work)))
    × (bytes_of_elements l.self l.node l.count + (worth (g.C.Context.state l.context) + bytes_in l.self (list_of l.work)) ≤ bytes_of_elements l.self l.node l.left + (worth (g.C.Context.state l.fn.context) + bytes_in l.self (list_of l.fn.work)))
