use Rattle.std.proofs.Common.{◌≡◌, ◌<◌, ◌≤◌, length, [], ◌∷◌, ◌++◌, ◌+◌, arith}
use Rattle.std.proofs.lemmas.Grind.{common_steps}
use Rattle.archive_types.proofs.Planning.Causes.{err_by}
use Rattle.archive_types.proofs.Reading.FirstRead.{first_elements}
use Rattle.archive_types.proofs.Reading.ReadElements.{all_have, elements_more, elements_all, element_refused}
use Rattle.archive_types.proofs.slice.reading.read_each.Goals as goal

pub returns-in_err-item-clause-refused : goal.returns-in_err-item-clause-refused
returns-in_err-item-clause-refused g c =
    let D = g.T.ArchivePointee.definitions in
    let X = g.T.Portable.shape in
    let L = g.T.Portable.layout in
    let laid = g.met.T.Portable.has_layout in
    let b = c.args.part.bytes.now in
    let q = c.args.part.pos in
    let n = c.args.count in
    let below : c.loop-index.index < n = omega (arith, c.loop-index-test.true, c.loop-index.auto.index-end) in
    let h = rw (c.part.ensures.buffer, c.part.ensures.position, c.part.ensures.length, c.element_at-element.ensures.buffer, c.element_at-element.ensures.position, c.element_at-element.ensures.length) at c.in_err-item.ensures.refused in
    err_by c.from_residual-in_err-item.result c.in_err-item.field-0.0 _ c.from_residual-in_err-item.ensures.1
    (λ P m all. element_refused D X L laid b q P m n (all_have D X L laid b q n P m all) g.U.Archive.meaning g.U.Archive.keys (g.D.Entries.entry_of c.args.deserializer.now) (g.D.Entries.entry_of c.loop-index.deserializer)
    c.loop-index.items.items c.loop-index.index g.T.ArchivePointee.pointee c.in_err-item.field-0.0 g.met.T.Portable.is_one below (c.loop-index.invariant.3 P m all) h)

pub loop-index-init : goal.loop-index-init
loop-index-init g c =
    let D = g.T.ArchivePointee.definitions in
    let X = g.T.Portable.shape in
    let L = g.T.Portable.layout in
    let laid = g.met.T.Portable.has_layout in
    let b = c.args.part.bytes.now in
    let q = c.args.part.pos in
    let n = c.args.count in
    let items = c.put_first.new.items in
    let whole : length items.items ≡ c.len-index.result = grind (arith, common_steps, c.len-index.ensures) in
    let few : length items.items ≤ n = omega (arith, whole, c.len-index.ensures, c.put_first.ensures.few) in (
      whole,
      grind (arith, common_steps, c.len-index.ensures),
      c.put_first.ensures.room,
      λ P m all. first_elements D X L laid b q P m n (all_have D X L laid b q n P m all) g.U.Archive.meaning g.U.Archive.keys (g.D.Entries.entry_of c.args.deserializer.now)
          g.T.ArchivePointee.pointee g.met.T.Portable.is_one items.items few c.put_first.ensures.read,
    )

pub loop-index-preserved : goal.loop-index-preserved
loop-index-preserved g c =
    let D = g.T.ArchivePointee.definitions in
    let X = g.T.Portable.shape in
    let L = g.T.Portable.layout in
    let laid = g.met.T.Portable.has_layout in
    let b = c.args.part.bytes.now in
    let q = c.args.part.pos in
    let n = c.args.count in
    let kept = c.loop-index.invariant in
    let below : c.loop-index.index < n = omega (arith, c.loop-index-test.true, c.loop-index.auto.index-end) in
    let pushed : c.push_reserved.new.self.items ≡ c.loop-index.items.items ++ c.in_ok-item.item ∷ [] = grind (arith, common_steps) in
    let more : length (c.loop-index.items.items ++ c.in_ok-item.item ∷ []) ≡ c.loop-index.index + 1 = grind (arith, common_steps, kept.0) in
    let h = rw (c.part.ensures.buffer, c.part.ensures.position, c.part.ensures.length, c.element_at-element.ensures.buffer, c.element_at-element.ensures.position, c.element_at-element.ensures.length) at c.in_ok-item.ensures.read in
    rw pushed (
      more,
      grind (arith, common_steps, kept.1),
      grind (arith, common_steps, kept.2),
      λ P m all. elements_more D X L laid b q P m n (all_have D X L laid b q n P m all) g.U.Archive.meaning g.U.Archive.keys (g.D.Entries.entry_of c.args.deserializer.now) (g.D.Entries.entry_of c.loop-index.deserializer)
          (g.D.Entries.entry_of c.deserialize_part.new.deserializer) c.loop-index.items.items c.in_ok-item.item c.loop-index.index g.T.ArchivePointee.pointee g.met.T.Portable.is_one kept.0 below (kept.3 P m all) h,
    )

pub returns-clause-read : goal.returns-clause-read
returns-clause-read g c =
    let D = g.T.ArchivePointee.definitions in
    let X = g.T.Portable.shape in
    let L = g.T.Portable.layout in
    let laid = g.met.T.Portable.has_layout in
    let b = c.args.part.bytes.now in
    let q = c.args.part.pos in
    let n = c.args.count in
    let kept = c.loop-index.invariant in
    let whole : length c.loop-index.items.items ≡ n = omega (arith, kept.0, c.loop-index-test.false, c.loop-index.auto.index-end) in
    λ P m all. elements_all D X L laid b q P m n (all_have D X L laid b q n P m all) g.U.Archive.meaning g.U.Archive.keys (g.D.Entries.entry_of c.args.deserializer.now) (g.D.Entries.entry_of c.loop-index.deserializer)
    c.loop-index.items.items whole (kept.3 P m all)
