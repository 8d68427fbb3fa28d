use Rattle.std.proofs.Common.{◌≡◌, ◌+◌, ◌-◌, ◌*◌, ◌/◌, ◌<◌, ℕ, arith, sym, ◌∙◌}
use Rattle.std.specs.declared.cmp.Ordering.TheVariants.{Less, Greater}
use Rattle.archive_check.specs.SelfCheck.Maps.{entry_size}
use Rattle.archive_types.specs.Compared.{Standing, standing}
use Rattle.archive_types.specs.Words.SeenEntries.{entry_count, first_entry}
use Rattle.archive_types.proofs.Maps.AscendingKeys.{map_ascends}
use Rattle.archive_types.proofs.Maps.Halving.{later_half, earlier_half, left_half, left_more}
use Rattle.archive_types.proofs.map.search.find.Goals as goal

pub overflow_add-count : goal.overflow_add-count
overflow_add-count g c =
    let (order, within, between, left) = c.loop-low.invariant in
    let small : entry_count c.args.map < 18446744073709551616 = omega (arith, c.entries-entries.ensures.length, c.entries-entries.auto.self) in
    let few = left_more (entry_count c.args.map) c.loop-low.count (c.loop-low.high - c.loop-low.low) (omega (arith, c.loop-low-test.true)) left 64 small in
    omega (arith, few)

pub loop-low-preserved-in-Less : goal.loop-low-preserved-in-Less
loop-low-preserved-in-Less g c =
    let (order, within, between, left) = c.loop-low.invariant in
    let low = c.loop-low.low in
    let high = c.loop-low.high in
    let middle = low + (high - low) / 2 in
    let z = entry_size g.K.Portable.layout g.V.Portable.layout in
    let key : ℕ → Standing = λ i. standing c.args.map.bytes.now (first_entry c.args.map + i * z) 0 in
    let N = g.K.CompareNative.native_order in
    let some : low < high = c.loop-low-test.true in
    let here : N (key middle) c.args.key.now ≡ Less = rw (c.entries-entries.ensures.buffer, c.entries-entries.ensures.position) at (sym c.compare_key.ensures ∙ c.in-Less.is) in
    let ascend = map_ascends g.K.ArchivePointee.definitions g.V.ArchivePointee.definitions g.K.Portable.shape g.V.Portable.shape g.K.MapKey.key g.met.K.MapKey.is_key g.K.ArchivePointee.pointee g.met.K.Portable.is_one
    g.K.Portable.layout g.V.Portable.layout g.met.K.Portable.has_layout g.met.V.Portable.has_layout g.K.Ordered.order g.met.K.Ordered.total g.met.K.Ordered.by_value
    c.args.map.bytes.now c.args.map.pos c.args.map.len c.args.map.valid in (
      omega (arith, some),
      within,
      later_half g.K.Ordered.order N g.met.K.CompareNative.agrees g.met.K.Ordered.total key (entry_count c.args.map) ascend c.args.key.now low high middle (omega (arith, some, within)) here between,
      left_half (entry_count c.args.map) c.loop-low.count (high - low) (high - (middle + 1)) (omega (arith, some)) (omega (arith, some)) left,
    )

pub loop-low-preserved : goal.loop-low-preserved
loop-low-preserved g c =
    let (order, within, between, left) = c.loop-low.invariant in
    let low = c.loop-low.low in
    let high = c.loop-low.high in
    let middle = low + (high - low) / 2 in
    let z = entry_size g.K.Portable.layout g.V.Portable.layout in
    let key : ℕ → Standing = λ i. standing c.args.map.bytes.now (first_entry c.args.map + i * z) 0 in
    let N = g.K.CompareNative.native_order in
    let some : low < high = c.loop-low-test.true in
    let here : N (key middle) c.args.key.now ≡ Greater = rw (c.entries-entries.ensures.buffer, c.entries-entries.ensures.position) at (sym c.compare_key.ensures ∙ c.in-Greater.is) in
    let ascend = map_ascends g.K.ArchivePointee.definitions g.V.ArchivePointee.definitions g.K.Portable.shape g.V.Portable.shape g.K.MapKey.key g.met.K.MapKey.is_key g.K.ArchivePointee.pointee g.met.K.Portable.is_one
    g.K.Portable.layout g.V.Portable.layout g.met.K.Portable.has_layout g.met.V.Portable.has_layout g.K.Ordered.order g.met.K.Ordered.total g.met.K.Ordered.by_value
    c.args.map.bytes.now c.args.map.pos c.args.map.len c.args.map.valid in (
      omega (arith, some),
      omega (arith, some, within),
      earlier_half g.K.Ordered.order N g.met.K.CompareNative.agrees g.met.K.Ordered.total key (entry_count c.args.map) ascend c.args.key.now low high middle here between,
      left_half (entry_count c.args.map) c.loop-low.count (high - low) (middle - low) (omega (arith, some)) (omega (arith, some)) left,
    )
