use Rattle.std.proofs.Common.{◌≡◌, ◌+◌, ◌-◌, ◌*◌, ◌≤◌}
use Rattle.archive_check.specs.context.Pushes.{worth}
use Rattle.archive_check.specs.SelfCheck.Ways.{run_way}
use Rattle.archive_check.proofs.SelfCheck.Ways.{Toward}
use Rattle.archive_check.proofs.self_check.elements.check_elements.Given as goal

abbrev pub invariant-loop-index : goal.invariant-loop-index
invariant-loop-index g l =
    (g.C.Context.positions l.context ≡ g.C.Context.positions l.fn.context)
    × Toward g.T.ArchivePointee.definitions (run_way l.bytes l.at l.count g.T.Portable.shape) (run_way l.bytes (l.at + l.index * l.size) (l.count - l.index) g.T.Portable.shape) (g.C.Context.state l.fn.context) (g.C.Context.state l.context)
    × (worth (g.C.Context.state l.context) + (l.count - l.index) * g.T.Portable.layout.size ≤ worth (g.C.Context.state l.fn.context) + l.count * g.T.Portable.layout.size)
