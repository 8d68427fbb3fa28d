use Rattle.std.proofs.Common.{◌∙◌}
use Rattle.archive_types.proofs.Copying.CopiedLeaves.{non_zero_size}
use Rattle.archive_types.proofs.Writing.Resolving.{resolves_non_zero}
use Rattle.archive_types.proofs.primitive.leaves.NonZeroLeaf.write_bytes.Goals as goal

pub write_leaf-requires : goal.write_leaf-requires
write_leaf-requires g c = c.requires ∙ non_zero_size _ _ _ _ g.met.N.Integer.integer_law g.met.N.Native.size_law

pub returns-clause-resolved : goal.returns-clause-resolved
returns-clause-resolved g c = rw (← c.to_native-number.ensures.number)
    (λ E p. resolves_non_zero g.N.Native.value_of g.N.Native.number_of g.N.Native.bytes_of g.N.Native.kind g.N.Integer.sign g.N.Integer.width E p c.write_leaf.new.bytes c.to_native-number.result
    g.met.N.Native.value_law c.write_leaf.ensures.back c.write_leaf.ensures.legal g.met.N.Integer.integer_law c.to_native-number.ensures.not_zero c.write_leaf.ensures.bytes)
