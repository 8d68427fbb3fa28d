use Rattle.std.proofs.Common.{◌≡◌, ◌+◌, ◌<◌, arith, rules, subst, take, length}
use Rattle.archive_inspect.specs.Described.{Tiles, tiles_none}
use Rattle.archive_inspect.proofs.Described.{one_more, all_tiled}
use Rattle.archive_inspect.proofs.describe.are_tiles.Goals as goal

pub loop-index-init : goal.loop-index-init
loop-index-init c = tiles_none

pub loop-index-preserved : goal.loop-index-preserved
loop-index-preserved c =
    let xs = c.args.pieces.now in
    let i = c.loop-index.index in
    let x = c.index-pieces-index.result in
    let below : i < length xs = c.loop-index-test.true in
    let next : c.loop-index.end + x.size ≡ c.in-Some.next = omega arith in
    subst (Tiles (take (i + 1) xs)) next (one_more xs i x c.loop-index.end below c.index-pieces-index.is c.loop-index.invariant (omega arith) (omega arith))

pub returns : goal.returns
returns c = λ t. all_tiled c.args.pieces.now c.loop-index.index c.loop-index.end c.args.len c.loop-index.invariant (omega arith) (search rules)
