use Rattle.std.proofs.Common.{◌≡◌, length}
use Rattle.archive_check.specs.Definitions.{no_definition}
use Rattle.archive_check.specs.Layout.{kind_size}
use Rattle.archive_check.specs.Shape.{leaf, one}
use Rattle.archive_check.specs.Value.{number}
use Rattle.archive_types.specs.FirstRead.{AreSaid}
use Rattle.archive_types.proofs.primitive.blocks.block_at.Given as goal

abbrev pub invariant-loop-index : goal.invariant-loop-index
invariant-loop-index g l = (length l.block ≡ 1024) × AreSaid no_definition l.bytes l.pos (kind_size g.N.Native.kind) (one (leaf g.N.Native.kind)) (λ n. number (g.N.Native.value_of n)) l.from l.index l.block
