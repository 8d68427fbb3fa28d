use Rattle.std.proofs.Common.{refl, sym, ◌∙◌}
use Rattle.archive_types.proofs.Copying.CopiedLeaves.{leaf_copied}
use Rattle.archive_types.proofs.primitive.leaves.AnyCopied.copy_one.Goals as goal

pub write_bytes-requires : goal.write_bytes-requires
write_bytes-requires g c = c.requires.sized ∙ g.met.L.Leaf.leaf_size

pub returns-clause-read : goal.returns-clause-read
returns-clause-read g c = rw (← c.write_bytes.ensures.bytes) (leaf_copied _ _ g.L.Leaf.leaf_kind _ _ c.write_bytes.new.out _ g.met.L.Leaf.leaf_shape refl
    (c.write_bytes.ensures.sized ∙ sym g.met.L.Leaf.leaf_size) c.write_bytes.ensures.resolved)
