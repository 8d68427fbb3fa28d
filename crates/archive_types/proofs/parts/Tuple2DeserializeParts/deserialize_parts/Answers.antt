use Rattle.std.proofs.Common.{◌≡◌, inl, inr, ◌+◌, ◌<◌, ◌≤◌, ◌^◌, ℕ, List, length, min, Fits, w64, arith}
use Rattle.archive_check.specs.Layout.{up}
use Rattle.archive_types.specs.PartsReading.{part_read_back}
use Rattle.archive_types.proofs.Planning.Causes.{err_by}
use Rattle.archive_types.proofs.Reading.ReadRecords.{first_viewed, rest_viewed, first_within, first_refuses, later_refuses}
use Rattle.archive_types.proofs.parts.Tuple2DeserializeParts.deserialize_parts.Goals as goal

-- where the first part begins
its_begin : (q o z first len : ℕ) → q + o + z ≤ len → len < 2 ^ 64 → first ≡ min o 18446744073709551615 → first ≡ o
its_begin q o z first len fits small e = omega arith

pub overflow_add-part : goal.overflow_add-part
overflow_add-part g c =
    let L = g.A.Portable.layout in
    let fits = first_within _ _ _ L g.met.A.Portable.has_layout _ _ _ _ c.requires.viewed in
    let small : length c.args.bytes.now < 2 ^ 64 = omega (arith, c.if-prove.false) in
    omega (arith, fits, small, c.offset_from-first.ensures)

pub deserialize_part-requires : goal.deserialize_part-requires
deserialize_part-requires g c =
    let L = g.A.Portable.layout in
    let fits = first_within _ _ _ L g.met.A.Portable.has_layout _ _ _ _ c.requires.viewed in
    let small : length c.args.bytes.now < 2 ^ 64 = omega (arith, c.if-prove.false) in
    let first : c.offset_from-first.result ≡ up c.args.start L.align = its_begin c.args.pos (up c.args.start L.align) L.size c.offset_from-first.result (length c.args.bytes.now) fits small c.offset_from-first.ensures in
    rw (first, g.met.A.Portable.is_one) (first_viewed _ _ _ L g.met.A.Portable.has_layout _ _ _ _ c.requires.viewed)

pub returns-in_err-value-clause-refused : goal.returns-in_err-value-clause-refused
returns-in_err-value-clause-refused g c =
    let L = g.A.Portable.layout in
    let fits = first_within _ _ _ L g.met.A.Portable.has_layout _ _ _ _ c.requires.viewed in
    let small : length c.args.bytes.now < 2 ^ 64 = omega (arith, c.if-prove.false) in
    let first : c.offset_from-first.result ≡ up c.args.start L.align = its_begin c.args.pos (up c.args.start L.align) L.size c.offset_from-first.result (length c.args.bytes.now) fits small c.offset_from-first.ensures in
    err_by c.from_residual.result c.in_err-value.field-0.0 _ c.from_residual.ensures.1
    (first_refuses _ _ _ L g.met.A.Portable.has_layout _ _ _ _ _ _ (rw (first, g.met.A.Portable.is_one) at c.in_err-value.ensures.refused))

pub overflow_add-end : goal.overflow_add-end
overflow_add-end g c =
    let L = g.A.Portable.layout in
    let fits = first_within _ _ _ L g.met.A.Portable.has_layout _ _ _ _ c.requires.viewed in
    let small : length c.args.bytes.now < 2 ^ 64 = omega (arith, c.if-prove.false) in
    omega (arith, fits, small, c.offset_from-first.ensures, c.size.ensures)

pub deserialize_parts-requires : goal.deserialize_parts-requires
deserialize_parts-requires g c =
    let L = g.A.Portable.layout in
    let fits = first_within _ _ _ L g.met.A.Portable.has_layout _ _ _ _ c.requires.viewed in
    let small : length c.args.bytes.now < 2 ^ 64 = omega (arith, c.if-prove.false) in
    let first : c.offset_from-first.result ≡ up c.args.start L.align = its_begin c.args.pos (up c.args.start L.align) L.size c.offset_from-first.result (length c.args.bytes.now) fits small c.offset_from-first.ensures in
    let size : c.size.result ≡ L.size = omega (arith, fits, small, c.size.ensures) in
    record { viewed = rw (first, size) (rest_viewed _ _ _ L g.met.A.Portable.has_layout _ _ _ _ c.requires.viewed) }

pub returns-in_err-others-clause-refused : goal.returns-in_err-others-clause-refused
returns-in_err-others-clause-refused g c =
    let L = g.A.Portable.layout in
    let fits = first_within _ _ _ L g.met.A.Portable.has_layout _ _ _ _ c.requires.viewed in
    let small : length c.args.bytes.now < 2 ^ 64 = omega (arith, c.if-prove.false) in
    let first : c.offset_from-first.result ≡ up c.args.start L.align = its_begin c.args.pos (up c.args.start L.align) L.size c.offset_from-first.result (length c.args.bytes.now) fits small c.offset_from-first.ensures in
    let size : c.size.result ≡ L.size = omega (arith, fits, small, c.size.ensures) in
    err_by c.from_residual-in_err-others.result c.in_err-others.field-0.0 _ c.from_residual-in_err-others.ensures.1
    (later_refuses _ _ _ L g.met.A.Portable.has_layout _ _ _ _ _ _ _ c.in_ok-value.ensures.read.kept (rw (first, size) at c.in_err-others.ensures.refused))

pub returns-clause-read : goal.returns-clause-read
returns-clause-read g c =
    let L = g.A.Portable.layout in
    let fits = first_within _ _ _ L g.met.A.Portable.has_layout _ _ _ _ c.requires.viewed in
    let small : length c.args.bytes.now < 2 ^ 64 = omega (arith, c.if-prove.false) in
    let first : c.offset_from-first.result ≡ up c.args.start L.align = its_begin c.args.pos (up c.args.start L.align) L.size c.offset_from-first.result (length c.args.bytes.now) fits small c.offset_from-first.ensures in
    let size : c.size.result ≡ L.size = omega (arith, fits, small, c.size.ensures) in
    part_read_back g.met.A.Portable.has_layout (rw (first, g.met.A.Portable.is_one) at c.in_ok-value.ensures.read) (rw (first, size) at c.in_ok-others.ensures.read)
