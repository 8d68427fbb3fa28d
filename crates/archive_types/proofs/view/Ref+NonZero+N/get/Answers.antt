use Rattle.archive_check.proofs.Viewing.ViewedValues.{leaf_readable}
use Rattle.archive_types.proofs.Viewing.Shown.{number_shown, not_zero_shown, non_zero_says}
use Rattle.archive_types.proofs.view.Ref+NonZero+N.get.Goals as goal

pub read_leaf-requires : goal.read_leaf-requires
read_leaf-requires g c = number_shown _ _ _ g.N.Integer.sign g.N.Integer.width g.N.Native.kind g.met.N.Integer.integer_law (leaf_readable _ _ _ _ _ c.part.ensures.viewed)

pub returns-clause-not_zero : goal.returns-clause-not_zero
returns-clause-not_zero g c =
    rw c.read_leaf.ensures
    (not_zero_shown g.N.Native.value_of g.N.Native.number_of c.part.result.bytes.now c.part.result.pos c.part.result.len g.N.Native.byte_count g.N.Integer.sign g.N.Integer.width
    g.N.Native.kind g.met.N.Integer.integer_law g.met.N.Native.size_law g.met.N.Native.value_law (leaf_readable _ _ _ _ _ c.part.ensures.viewed))

pub returns-clause-says : goal.returns-clause-says
returns-clause-says g c =
    non_zero_says g.N.Native.value_of g.N.Native.number_of _ _ _ c.args.self.len g.N.Native.byte_count g.N.Integer.sign g.N.Integer.width g.N.Native.kind _ g.met.N.Integer.integer_law
    g.met.N.Native.size_law g.met.N.Native.value_law (rw (c.part.ensures.buffer, c.part.ensures.position) at c.read_leaf.ensures)
