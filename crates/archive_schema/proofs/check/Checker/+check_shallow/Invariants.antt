use Rattle.std.proofs.Common.{◌+◌, ◌-◌, ◌*◌, ◌≤◌}
use Rattle.archive_check.specs.context.Pushes.{worth}
use Rattle.archive_schema.specs.check.Lists.{list_of}
use Rattle.archive_schema.specs.check.Paid.{bytes_in, bytes_of_parts, bytes_of_elements}
use Rattle.archive_check.specs.Words.Elements.{span}
use Rattle.archive_schema.specs.check.LoopInvariant.{rank}
use Rattle.archive_schema.specs.check.Through.{Towards, parts_rule, elements_rule, stage_of}
use Rattle.archive_schema.proofs.check.Checker.+check_shallow.Given as goal

abbrev pub decreases-check_shallow : goal.decreases-check_shallow
decreases-check_shallow g l = l.node * 2 + 1

abbrev pub decreases-check_shallow_parts : goal.decreases-check_shallow_parts
decreases-check_shallow_parts g l = rank (span l.self.now.parts.now l.first l.last) * 2

abbrev pub decreases-check_shallow_elements : goal.decreases-check_shallow_elements
decreases-check_shallow_elements g l = l.node * 2 + 2

abbrev pub invariant-check_shallow_parts-loop-index : goal.invariant-check_shallow_parts-loop-index
invariant-check_shallow_parts-loop-index g l =
    let at = stage_of g.C.Context.state g.C.Context.positions in
    Towards (parts_rule l.self l.first l.last l.base) (parts_rule l.self l.index l.last l.base) (at l.fn.context l.fn.work) (at l.context l.work)
    × (worth (g.C.Context.state l.context) + bytes_in l.self (list_of l.work) + bytes_of_parts l.self l.index l.last
    ≤ bytes_of_parts l.self l.first l.last + (worth (g.C.Context.state l.fn.context) + bytes_in l.self (list_of l.fn.work)))

abbrev pub invariant-check_shallow_elements-loop-index : goal.invariant-check_shallow_elements-loop-index
invariant-check_shallow_elements-loop-index g l =
    let at = stage_of g.C.Context.state g.C.Context.positions in
    Towards (elements_rule l.self l.node l.count l.at) (elements_rule l.self l.node (l.count - l.index) (l.at + l.index * l.size)) (at l.fn.context l.fn.work) (at l.context l.work)
    × (worth (g.C.Context.state l.context) + bytes_in l.self (list_of l.work) + bytes_of_elements l.self l.node (l.count - l.index)
    ≤ bytes_of_elements l.self l.node l.count + (worth (g.C.Context.state l.fn.context) + bytes_in l.self (list_of l.fn.work)))
