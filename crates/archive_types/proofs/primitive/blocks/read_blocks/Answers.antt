use Rattle.std.proofs.Common.{◌≡◌, arith}
use Rattle.std.proofs.lemmas.Grind.{common_steps}
use Rattle.std.specs.Vec.{vec_len}
use Rattle.archive_types.proofs.primitive.blocks.read_blocks.Goals as goal

pub loop-alloc-init : goal.loop-alloc-init
loop-alloc-init g c =
    let none : vec_len c.args.items.now ≡ 0 = grind (arith, common_steps, c.requires.nothing) in
    (omega (arith, none), c.requires.room, λ k d below. absurd (omega (arith, none, below)))
