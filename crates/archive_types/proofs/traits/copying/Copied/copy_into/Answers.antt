use Rattle.std.proofs.Common.{◌∙◌}
use Rattle.archive_types.proofs.Copying.Copies.{copied_step, read_step}
use Rattle.archive_types.proofs.traits.copying.Copied.copy_into.Goals as goal

pub loop-index-preserved : goal.loop-index-preserved
loop-index-preserved g c = record {
  copied = copied_step _ _ c.loop-index.index _ c.loop-index-test.true c.index-values-index.is _ _ _ c.loop-index.bytes _ (c.loop-index.auto.bytes ∙ c.requires.sized)
      c.copied_size-size.ensures.size c.copy_one.ensures.read.sized c.copy_one.ensures.copied c.loop-index.invariant.copied;
  read = read_step _ _ c.loop-index.index _ c.loop-index-test.true c.index-values-index.is _ _ _ _ c.copy_one.ensures.read c.loop-index.invariant.read;
}
