use Rattle.std.proofs.Common.{◌≡◌, true, length, arith, sym, ap, ◌∙◌}
use Rattle.archive_types.proofs.Writing.Pointers.{rel_length_inside}
use Rattle.archive_types.proofs.rel_ptr.typed.Ref+RelPtr+T+O.metadata.Goals as goal

pub overflow_add-pos : goal.overflow_add-pos
overflow_add-pos g c =
    let has : g.T.ArchivedMetadata.Metadata.is_length ≡ true = sym c.is_length.ensures ∙ c.if-not-is_length.false in
    let inside = rel_length_inside c.part-pos.result.bytes.now c.part-pos.result.pos c.part-pos.result.len g.O.Number.Integer.sign g.O.Number.Integer.width g.met.O.Number.OffsetNumber.at_most_64_bits _ has c.part-pos.ensures.viewed in
    let begin = c.length_begin.ensures in
    let same = ap length c.part-pos.ensures.buffer in
    let buffer = c.ranges.self.0 in
    omega arith

pub read_u32-requires : goal.read_u32-requires
read_u32-requires g c =
    let has : g.T.ArchivedMetadata.Metadata.is_length ≡ true = sym c.is_length.ensures ∙ c.if-not-is_length.false in
    let inside = rel_length_inside c.part-pos.result.bytes.now c.part-pos.result.pos c.part-pos.result.len g.O.Number.Integer.sign g.O.Number.Integer.width g.met.O.Number.OffsetNumber.at_most_64_bits _ has c.part-pos.ensures.viewed in
    let begin = c.length_begin.ensures in
    omega arith
