use Rattle.std.proofs.Common.{◌≡◌, ◌+◌}
use Rattle.std.specs.Vec.{vec_len, vec_capacity}
use Rattle.archive_check.specs.Definitions.{no_definition}
use Rattle.archive_check.specs.Layout.{kind_size}
use Rattle.archive_check.specs.Shape.{leaf, one}
use Rattle.archive_check.specs.Value.{number}
use Rattle.archive_types.specs.FirstRead.{AreSaid}
use Rattle.archive_types.proofs.primitive.blocks.with_block.Given as goal

abbrev pub invariant-loop-index : goal.invariant-loop-index
invariant-loop-index g l =
    (vec_len l.items ≡ vec_len l.fn.items + l.index)
    × (vec_capacity l.items ≡ vec_capacity l.fn.items)
    × AreSaid no_definition l.bytes l.pos (kind_size g.N.Native.kind) (one (leaf g.N.Native.kind)) (λ n. number (g.N.Native.value_of n)) 0 (vec_len l.items) l.items.items
