use Rattle.std.proofs.Common.{◌≡◌, ◌+◌, ◌-◌, take, drop, ap, arith, true}
use Rattle.std.proofs.lemmas.Grind.{common_steps}
use Rattle.archive_types.proofs.Copying.Copies.{first_more}
use Rattle.archive_types.proofs.slice.copying.copy_blocks.Goals as goal

pub loop-done-preserved : goal.loop-done-preserved
loop-done-preserved g c =
    let done = c.loop-done.done in
    let count = c.count_at_once-count.result in
    let same : done + count - done ≡ count = omega arith in
    let wrote : c.write_block.result ≡ true = grind (arith, common_steps) in
    record {
      within = omega (arith, c.loop-done-test.true, c.loop-done.invariant.within);
      copied = first_more _ _ _ _ _ _ _ _ (g.W.Keys.state c.write_block.new.writer) done count _ (ap (λ n. take n (drop done c.args.values.now)) same) c.loop-done.invariant.copied
          c.write_block.ensures.read (c.write_block.ensures.copied wrote) c.write_block.ensures.goes_on c.write_block.ensures.keys;
    }
