use Rattle.std.proofs.Common.{◌≤◌, ◌-◌}
use Rattle.std.specs.Vec.{vec_len, vec_capacity}
use Rattle.archive_check.specs.Definitions.{no_definition}
use Rattle.archive_check.specs.Layout.{kind_size}
use Rattle.archive_check.specs.Shape.{leaf, one}
use Rattle.archive_check.specs.Value.{number}
use Rattle.archive_types.specs.FirstRead.{AreSaid}
use Rattle.archive_types.proofs.primitive.blocks.read_blocks.Given as goal

abbrev pub invariant-loop-alloc : goal.invariant-loop-alloc
invariant-loop-alloc g l =
    (vec_len l.items ≤ l.count)
    × (l.count ≤ vec_capacity l.items)
    × AreSaid no_definition l.bytes l.pos (kind_size g.N.Native.kind) (one (leaf g.N.Native.kind)) (λ n. number (g.N.Native.value_of n)) 0 (vec_len l.items) l.items.items

abbrev pub decreases-loop-alloc : goal.decreases-loop-alloc
decreases-loop-alloc g l = l.count - vec_len l.items
