use Rattle.archive_check.specs.Shape.{leaf, raw_rel}
use Rattle.archive_check.specs.Definitions.{no_definition}
use Rattle.archive_check.specs.Members.LeafLayout.{leaf_layout, leaf_has_layout}
use Rattle.archive_types.proofs.Writing.Pointers.{view_fits}
use Rattle.archive_types.proofs.rel_ptr.raw.Ref+RawRelPtr+O.offset.Goals as goal

pub read_offset-requires : goal.read_offset-requires
read_offset-requires g c =
    let kind = raw_rel g.O.Number.Integer.sign g.O.Number.Integer.width in
    view_fits no_definition c.part-pos.result.bytes.now c.part-pos.result.pos c.part-pos.result.len (leaf kind) (leaf_layout kind) (leaf_has_layout kind) c.part-pos.ensures.viewed
