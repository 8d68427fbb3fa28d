use Rattle.std.proofs.Common.{◌+◌, ◌-◌, ◌*◌, ◌≤◌}
use Rattle.archive_check.specs.context.Pushes.{worth}
use Rattle.archive_schema.specs.check.Lists.{list_of}
use Rattle.archive_schema.specs.check.Paid.{bytes_in, bytes_of_elements}
use Rattle.archive_schema.specs.check.Through.{Towards, elements_rule, stage_of}
use Rattle.archive_schema.proofs.check.Checker.check_leaves.Given as goal

abbrev pub invariant-loop-index : goal.invariant-loop-index
invariant-loop-index g l =
    let at = stage_of g.C.Context.state g.C.Context.positions in
    Towards (elements_rule l.self l.node l.count l.at) (elements_rule l.self l.node (l.count - l.index) (l.at + l.index * l.size)) (at l.fn.context l.fn.work) (at l.context l.work)
    × (worth (g.C.Context.state l.context) + bytes_in l.self (list_of l.work) + bytes_of_elements l.self l.node (l.count - l.index)
    ≤ bytes_of_elements l.self l.node l.count + (worth (g.C.Context.state l.fn.context) + bytes_in l.self (list_of l.fn.work)))
    × (l.index ≤ l.count)
