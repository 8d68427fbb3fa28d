use Rattle.std.proofs.Common.{◌≡◌, ◌+◌, ◌-◌, ◌*◌, ◌≤◌, length, IfSome, None}
use Rattle.archive_check.specs.context.Pushes.{worth}
use Rattle.archive_check.specs.SelfCheck.Regions.{entries_way}
use Rattle.archive_check.specs.SelfCheck.Maps.{entry_definitions}
use Rattle.archive_check.proofs.SelfCheck.Ways.{Toward}
use Rattle.archive_check.proofs.self_check.entries.check_entries.Given as goal

abbrev pub invariant-loop-index : goal.invariant-loop-index
invariant-loop-index g l =
    (g.C.Context.positions l.context ≡ g.C.Context.positions l.fn.context)
    × Toward (entry_definitions g.K.ArchivePointee.definitions g.V.ArchivePointee.definitions) (entries_way l.bytes None l.at l.count g.K.MapKey.key g.V.Portable.shape)
    (entries_way l.bytes l.before (l.at + l.index * l.size) (l.count - l.index) g.K.MapKey.key g.V.Portable.shape) (g.C.Context.state l.fn.context) (g.C.Context.state l.context)
    × IfSome l.before (λ p. p + g.K.Portable.layout.size ≤ length l.bytes)
    × (worth (g.C.Context.state l.context) + (l.count - l.index) * l.size ≤ worth (g.C.Context.state l.fn.context) + l.count * l.size)
