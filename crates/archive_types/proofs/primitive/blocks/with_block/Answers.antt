use Rattle.std.proofs.Common.{◌≡◌, ◌+◌, ◌*◌, length, slice_index_or, subst, arith}
use Rattle.std.proofs.lemmas.Grind.{common_steps}
use Rattle.std.specs.Vec.{vec_len}
use Rattle.archive_check.specs.Definitions.{no_definition}
use Rattle.archive_check.specs.Layout.{kind_size}
use Rattle.archive_check.specs.Shape.{leaf, one}
use Rattle.archive_check.specs.Value.{number}
use Rattle.archive_check.specs.Viewed.{Says}
use Rattle.archive_types.proofs.Reading.FirstRead.{said_push}
use Rattle.archive_types.proofs.primitive.blocks.with_block.Goals as goal

pub loop-index-preserved : goal.loop-index-preserved
loop-index-preserved g c =
    let kept = c.loop-index.invariant in
    let b = c.args.bytes.now in
    let q = c.args.pos in
    let z = kind_size g.N.Native.kind in
    let n = vec_len c.loop-index.items in
    let x = slice_index_or c.block_at-block.result c.loop-index.index c.index-block-index.result in
    let whole : length c.loop-index.items.items ≡ n = grind (arith, common_steps) in
    let here : c.len.result + c.loop-index.index ≡ 0 + n = omega (arith, kept.0, c.len.ensures) in
    let says = subst (λ i. Says no_definition b (q + i * z) (one (leaf g.N.Native.kind)) 0 (number (g.N.Native.value_of x))) here
    (c.block_at-block.ensures.said c.loop-index.index c.index-block-index.result c.loop-index-test.true) in
    rw (c.push_reserved.ensures.items, c.push_reserved.ensures.len, c.push_reserved.ensures.capacity) (
      omega (arith, kept.0),
      kept.1,
      said_push no_definition b q z (one (leaf g.N.Native.kind)) (λ m. number (g.N.Native.value_of m)) 0 n c.loop-index.items.items x whole kept.2 says,
    )
