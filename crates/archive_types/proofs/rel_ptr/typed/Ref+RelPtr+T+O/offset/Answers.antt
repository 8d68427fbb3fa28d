use Rattle.archive_types.proofs.Writing.Pointers.{rel_offset_inside}
use Rattle.archive_types.proofs.rel_ptr.typed.Ref+RelPtr+T+O.offset.Goals as goal

pub read_offset-requires : goal.read_offset-requires
read_offset-requires g c =
    rel_offset_inside c.part-pos.result.bytes.now c.part-pos.result.pos c.part-pos.result.len g.O.Number.Integer.sign g.O.Number.Integer.width g.met.O.Number.OffsetNumber.at_most_64_bits _ c.part-pos.ensures.viewed
