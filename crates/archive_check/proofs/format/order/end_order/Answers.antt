use Rattle.std.proofs.Common.{sym, ◌∙◌, arith}
use Rattle.archive_check.proofs.FirstBytes.{word_at}
use Rattle.archive_check.proofs.format.order.end_order.Goals as goal

pub returns-then-first-second : goal.returns-then-first-second
returns-then-first-second c =
    let word = word_at 4 c.args.at c.args.a.now c.args.b.now _ _ c.type_inv.a c.type_inv.b (omega (arith, c.if-a-at-ge4.true)) (omega (arith, c.if-b-at-ge4.true)) c.four_bytes-first.ensures c.four_bytes-second.ensures in
    c.cmp.ensures ∙ sym (word.apart c.if-first-second.true)
