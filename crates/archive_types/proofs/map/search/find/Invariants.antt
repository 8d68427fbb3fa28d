use Rattle.std.proofs.Common.{ℕ, ◌≤◌, ◌<◌, ◌-◌}
use Rattle.archive_check.specs.SelfCheck.Maps.{entry_size}
use Rattle.archive_types.specs.Words.SeenEntries.{entry_count, HasKeyAt}
use Rattle.archive_types.proofs.Maps.Halving.{AreLeft}
use Rattle.archive_types.proofs.map.search.find.Given as goal

abbrev pub invariant-loop-low : goal.invariant-loop-low
invariant-loop-low g l =
    let z = entry_size g.K.Portable.layout g.V.Portable.layout in
    (l.low ≤ l.high)
    × (l.high ≤ entry_count l.map)
    × ((i : ℕ) → HasKeyAt g.K.CompareNative.native_order z l.map l.key i → (l.low ≤ i) × (i < l.high))
    × AreLeft (entry_count l.map) l.count (l.high - l.low)

abbrev pub decreases-loop-low : goal.decreases-loop-low
decreases-loop-low g l = l.high - l.low
