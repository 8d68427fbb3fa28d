use Rattle.std.proofs.Common.{◌≡◌, ◌+◌, ◌*◌, ◌≤◌, ◌<◌, ℕ, length, min, arith, ap, refl}
use Rattle.archive_types.proofs.Viewing.PartsShown.{element_within, element_viewed, element_shows}
use Rattle.archive_types.proofs.slice.Ref+ArchivedSlice+T.index.Goals as goal

-- an element that lies in bytes has its size
its_own : (q p z w len : ℕ) → q + p + z ≤ len → len < 18446744073709551616 → w ≡ min z 18446744073709551615 → w ≡ z
its_own q p z w len fits small e = omega arith

pub overflow_mul-index : goal.overflow_mul-index
overflow_mul-index g c =
    let b = c.part-pos.result.bytes.now in
    let L = g.T.Portable.layout in
    let below : c.args.index < c.part-pos.result.len = rw c.part-pos.ensures.length c.requires in
    let fits = element_within g.T.ArchivePointee.definitions b c.part-pos.result.pos c.part-pos.result.len g.T.Portable.shape L g.met.T.Portable.has_layout c.args.index below c.part-pos.ensures.viewed in
    let same = ap length c.part-pos.ensures.buffer in
    let buffer = c.ranges.self.0 in
    let size : c.size.result ≡ L.size = its_own c.part-pos.result.pos (c.args.index * L.size) L.size c.size.result (length b) fits (omega arith) c.size.ensures in
    rw size (omega arith)

pub overflow_add-pos : goal.overflow_add-pos
overflow_add-pos g c =
    let b = c.part-pos.result.bytes.now in
    let L = g.T.Portable.layout in
    let below : c.args.index < c.part-pos.result.len = rw c.part-pos.ensures.length c.requires in
    let fits = element_within g.T.ArchivePointee.definitions b c.part-pos.result.pos c.part-pos.result.len g.T.Portable.shape L g.met.T.Portable.has_layout c.args.index below c.part-pos.ensures.viewed in
    let same = ap length c.part-pos.ensures.buffer in
    let buffer = c.ranges.self.0 in
    let size : c.size.result ≡ L.size = its_own c.part-pos.result.pos (c.args.index * L.size) L.size c.size.result (length b) fits (omega arith) c.size.ensures in
    rw size (omega arith)

pub at-requires : goal.at-requires
at-requires g c =
    let b = c.part-pos.result.bytes.now in
    let D = g.T.ArchivePointee.definitions in
    let L = g.T.Portable.layout in
    let below : c.args.index < c.part-pos.result.len = rw c.part-pos.ensures.length c.requires in
    let fits = element_within D b c.part-pos.result.pos c.part-pos.result.len g.T.Portable.shape L g.met.T.Portable.has_layout c.args.index below c.part-pos.ensures.viewed in
    let same = ap length c.part-pos.ensures.buffer in
    let buffer = c.ranges.self.0 in
    let size : c.size.result ≡ L.size = its_own c.part-pos.result.pos (c.args.index * L.size) L.size c.size.result (length b) fits (omega arith) c.size.ensures in
    rw size (element_viewed D b c.part-pos.result.pos c.part-pos.result.len g.T.Portable.shape L g.met.T.Portable.has_layout c.args.index below g.T.ArchivePointee.pointee g.met.T.Portable.is_one c.part-pos.ensures.viewed)

pub returns-clause-position : goal.returns-clause-position
returns-clause-position g c =
    let b = c.part-pos.result.bytes.now in
    let D = g.T.ArchivePointee.definitions in
    let L = g.T.Portable.layout in
    let below : c.args.index < c.part-pos.result.len = rw c.part-pos.ensures.length c.requires in
    let fits = element_within D b c.part-pos.result.pos c.part-pos.result.len g.T.Portable.shape L g.met.T.Portable.has_layout c.args.index below c.part-pos.ensures.viewed in
    let same = ap length c.part-pos.ensures.buffer in
    let buffer = c.ranges.self.0 in
    let size : c.size.result ≡ L.size = its_own c.part-pos.result.pos (c.args.index * L.size) L.size c.size.result (length b) fits (omega arith) c.size.ensures in
    rw (c.at.ensures.position, size, c.part-pos.ensures.position) refl

pub returns-clause-shows : goal.returns-clause-shows
returns-clause-shows g c =
    let b = c.part-pos.result.bytes.now in
    let D = g.T.ArchivePointee.definitions in
    let L = g.T.Portable.layout in
    let below : c.args.index < c.part-pos.result.len = rw c.part-pos.ensures.length c.requires in
    let fits = element_within D b c.part-pos.result.pos c.part-pos.result.len g.T.Portable.shape L g.met.T.Portable.has_layout c.args.index below c.part-pos.ensures.viewed in
    let same = ap length c.part-pos.ensures.buffer in
    let buffer = c.ranges.self.0 in
    let size : c.size.result ≡ L.size = its_own c.part-pos.result.pos (c.args.index * L.size) L.size c.size.result (length b) fits (omega arith) c.size.ensures in
    rw (c.at.ensures.position, c.at.ensures.length, size, c.part-pos.ensures.position)
    (element_shows D c.args.self.bytes.now c.args.self.pos c.args.self.len g.T.Portable.shape L g.met.T.Portable.has_layout c.args.index c.requires g.T.ArchivePointee.pointee g.met.T.Portable.is_one)
