use Rattle.std.proofs.Common.{sym, ap₂, ◌∙◌, arith}
use Rattle.std.proofs.lemmas.List.{drop-drop}
use Rattle.std.specs.Cmp.Lexicographic.{slice_cmp}
use Rattle.std.specs.Ordering.{nat_cmp}
use Rattle.archive_check.proofs.FirstBytes.{word_at}
use Rattle.archive_check.proofs.format.order.text_order.Goals as goal

pub returns-then-first-second : goal.returns-then-first-second
returns-then-first-second c =
    let word = word_at 8 c.loop-at.at c.args.a.now c.args.b.now _ _ c.type_inv.a c.type_inv.b (omega (arith, c.loop-at-test.true)) (omega (arith, c.if-b-at-ge8.true)) c.eight_bytes-first.ensures c.eight_bytes-second.ensures in
    c.cmp.ensures ∙ sym (word.apart c.if-first-second.true) ∙ sym c.loop-at.invariant.2

pub loop-at-preserved : goal.loop-at-preserved
loop-at-preserved c =
    let word = word_at 8 c.loop-at.at c.args.a.now c.args.b.now _ _ c.type_inv.a c.type_inv.b (omega (arith, c.loop-at-test.true)) (omega (arith, c.if-b-at-ge8.true)) c.eight_bytes-first.ensures c.eight_bytes-second.ensures in
    let next = ap₂ (slice_cmp nat_cmp) (drop-drop 8 c.loop-at.at c.args.a.now) (drop-drop 8 c.loop-at.at c.args.b.now) in
    (omega (arith, c.loop-at-test.true), omega (arith, c.if-b-at-ge8.true), c.loop-at.invariant.2 ∙ word.alike c.if-first-second.false ∙ next)
