use Rattle.archive_types.proofs.Copying.CopiedLeaves.{leaf_sized, leaf_small, leaf_owns_nothing}
use Rattle.archive_types.proofs.primitive.leaves.AnyCopied.copied_size.Goals as goal

pub returns-clause-size : goal.returns-clause-size
returns-clause-size g c = leaf_sized g.L.Leaf.leaf_kind _ _ g.met.L.Leaf.leaf_size c.size.ensures

pub returns-clause-small : goal.returns-clause-small
returns-clause-small g c = leaf_small g.L.Leaf.leaf_kind _ _ g.met.L.Leaf.leaf_size c.size.ensures

pub returns-clause-owns_nothing : goal.returns-clause-owns_nothing
returns-clause-owns_nothing g c = λ n. leaf_owns_nothing _ _ g.L.Leaf.leaf_kind (g.L.Leaf.leaf_number n) g.met.L.Leaf.leaf_shape
