use Rattle.std.proofs.Common.{◌≡◌, Bool, false, IsTrue, arith}
use Rattle.archive_check.specs.Layout.{kind_size}
use Rattle.archive_check.specs.Reads.{bytes_at}
use Rattle.archive_check.specs.Expressions.{kind_of}
use Rattle.archive_check.proofs.Editing.EditedBytes.{bytes_long}
use Rattle.tests_base.proofs.check.leaves.leaf_of.Goals as goal

not_true : (b : Bool) → b ≡ false → IsTrue b → ⊥
not_true b e h = cc

pub illegal-requires : goal.illegal-requires
illegal-requires c =
    let b = c.args.bytes.now in
    let n = kind_size (kind_of c.args.kind) in
    (bytes_at b 0 n, bytes_long b 0 n (omega (arith, c.if-bytes-size.false, c.size.ensures)), (λ u. not_true c.is_legal.result c.if-is_legal.false (c.is_legal.ensures.1 u)))
