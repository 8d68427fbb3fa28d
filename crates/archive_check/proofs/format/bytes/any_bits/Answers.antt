use Rattle.std.proofs.Common.{arith, slice_index}
use Rattle.std.proofs.lemmas.Nat.{le_or_l, le_or_r}
use Rattle.std.proofs.lemmas.Str.Ascii.{IsAscii-more}
use Rattle.archive_check.proofs.format.bytes.any_bits.Goals as goal

pub loop-k-preserved : goal.loop-k-preserved
loop-k-preserved c low =
    let l = c.loop-k in
    let next = slice_index c.args.bytes.now l.k in
    IsAscii-more c.args.bytes.now l.k (omega arith) (l.invariant (omega (arith, low, le_or_l l.bits next))) (omega (arith, low, le_or_r l.bits next))
