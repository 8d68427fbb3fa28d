use Rattle.std.proofs.Common.{◌≡◌, ◌+◌, ◌-◌, sym, subst, arith, take-add}
use Rattle.std.proofs.lemmas.Str.{IsAscii-append}
use Rattle.std.specs.Str.{IsAscii}
use Rattle.archive_check.proofs.format.bytes.ascii_pieces.Goals as goal

pub loop-at-preserved : goal.loop-at-preserved
loop-at-preserved c =
    let at = c.loop-at.at in
    let width : at + 512 - at ≡ 512 = omega arith in
    let more = rw width at (c.any_bits.ensures c.if-any_bits-ge128.false) in
    (omega arith, subst IsAscii (sym (take-add at 512 c.args.bytes.now)) (IsAscii-append _ _ c.loop-at.invariant.1 more))
