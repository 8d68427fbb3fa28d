use Rattle.std.proofs.Common.{◌+◌, ◌-◌, ◌*◌, ◌≤◌, length, IfSome, None}
use Rattle.archive_check.specs.Expressions.{key_of}
use Rattle.archive_check.specs.Layout.{key_size}
use Rattle.archive_check.specs.context.Pushes.{worth}
use Rattle.archive_schema.specs.check.Lists.{list_of}
use Rattle.archive_schema.specs.check.Paid.{bytes_in, bytes_of_entries}
use Rattle.archive_schema.specs.check.Through.{Towards, entries_rule, stage_of}
use Rattle.archive_schema.proofs.check.Checker.check_shallow_entries.Given as goal

abbrev pub invariant-loop-index : goal.invariant-loop-index
invariant-loop-index g l =
    let at = stage_of g.C.Context.state g.C.Context.positions in
    Towards (entries_rule l.self l.key l.value None l.count l.at) (entries_rule l.self l.key l.value l.before (l.count - l.index) (l.at + l.index * l.size)) (at l.fn.context l.fn.work) (at l.context l.work)
    × IfSome l.before (λ q. q + key_size (key_of l.key) ≤ length l.self.bytes.now)
    × (worth (g.C.Context.state l.context) + bytes_in l.self (list_of l.work) + bytes_of_entries l.self l.key l.value (l.count - l.index)
    ≤ bytes_of_entries l.self l.key l.value l.count + (worth (g.C.Context.state l.fn.context) + bytes_in l.self (list_of l.fn.work)))
