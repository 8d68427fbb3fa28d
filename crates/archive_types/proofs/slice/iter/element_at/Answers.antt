use Rattle.std.proofs.Common.{◌≡◌, ◌+◌, ◌*◌, ◌≤◌, ◌<◌, ℕ, length, min, arith, ap, ◌∙◌}
use Rattle.archive_types.proofs.Viewing.PartsShown.{one_within}
use Rattle.archive_types.proofs.slice.iter.element_at.Goals as goal

-- an element that lies in bytes has its size
its_own : (q p z w len : ℕ) → q + p + z ≤ len → len < 18446744073709551616 → w ≡ min z 18446744073709551615 → w ≡ z
its_own q p z w len fits small e = omega arith

pub overflow_mul-index : goal.overflow_mul-index
overflow_mul-index g c =
    let s = c.args.part in
    let L = g.T.Portable.layout in
    let fits = one_within g.T.ArchivePointee.definitions s.bytes.now (s.pos + c.args.index * L.size) g.T.Portable.shape L g.met.T.Portable.has_layout g.T.ArchivePointee.pointee g.met.T.Portable.is_one c.requires in
    let small : length s.bytes.now < 18446744073709551616 = omega (arith, c.if-prove.false) in
    let size : c.size.result ≡ L.size = its_own s.pos (c.args.index * L.size) L.size c.size.result (length s.bytes.now) fits small c.size.ensures in
    rw size (omega (arith, fits, small))

pub overflow_add-pos : goal.overflow_add-pos
overflow_add-pos g c =
    let s = c.args.part in
    let L = g.T.Portable.layout in
    let fits = one_within g.T.ArchivePointee.definitions s.bytes.now (s.pos + c.args.index * L.size) g.T.Portable.shape L g.met.T.Portable.has_layout g.T.ArchivePointee.pointee g.met.T.Portable.is_one c.requires in
    let small : length s.bytes.now < 18446744073709551616 = omega (arith, c.if-prove.false) in
    let size : c.size.result ≡ L.size = its_own s.pos (c.args.index * L.size) L.size c.size.result (length s.bytes.now) fits small c.size.ensures in
    rw size (omega (arith, fits, small))

pub at-requires : goal.at-requires
at-requires g c =
    let s = c.args.part in
    let L = g.T.Portable.layout in
    let v = c.requires in
    let fits = one_within g.T.ArchivePointee.definitions s.bytes.now (s.pos + c.args.index * L.size) g.T.Portable.shape L g.met.T.Portable.has_layout g.T.ArchivePointee.pointee g.met.T.Portable.is_one v in
    let small : length s.bytes.now < 18446744073709551616 = omega (arith, c.if-prove.false) in
    let size : c.size.result ≡ L.size = its_own s.pos (c.args.index * L.size) L.size c.size.result (length s.bytes.now) fits small c.size.ensures in
    rw size v

pub returns-clause-position : goal.returns-clause-position
returns-clause-position g c =
    let s = c.args.part in
    let L = g.T.Portable.layout in
    let fits = one_within g.T.ArchivePointee.definitions s.bytes.now (s.pos + c.args.index * L.size) g.T.Portable.shape L g.met.T.Portable.has_layout g.T.ArchivePointee.pointee g.met.T.Portable.is_one c.requires in
    let small : length s.bytes.now < 18446744073709551616 = omega (arith, c.if-prove.false) in
    let size : c.size.result ≡ L.size = its_own s.pos (c.args.index * L.size) L.size c.size.result (length s.bytes.now) fits small c.size.ensures in
    c.at.ensures.position ∙ ap (λ n. s.pos + c.args.index * n) size
