use Rattle.std.proofs.Common.{sym, ap, ◌∙◌, arith, length}
use Rattle.std.specs.Slice.Scan.{big_endian}
use Rattle.std.specs.Simd.Lanes.{chunk}
use Rattle.archive_check.proofs.FirstBytes.{word_at}
use Rattle.archive_types.proofs.compare.texts.front_order.Goals as goal

pub returns-then-first-other : goal.returns-then-first-other
returns-then-first-other c =
    let xs = c.args.x.now in
    let ys = c.args.y.now in
    let x = c.as_bytes-x.ensures.value in
    let y = c.as_bytes-y.ensures.value in
    let front = word_at 8 0 xs ys _ _ c.type_inv.x c.type_inv.y (omega (arith, ap length x)) (omega (arith, ap length y)) (c.eight_bytes-first.ensures ∙ ap (λ z. big_endian 0 (chunk 0 8 z)) x) (c.eight_bytes-other.ensures ∙ ap (λ z. big_endian 0 (chunk 0 8 z)) y) in
    c.cmp.ensures ∙ sym (front.apart c.if-first-other.true)

pub returns-then-second-other : goal.returns-then-second-other
returns-then-second-other c =
    let xs = c.args.x.now in
    let ys = c.args.y.now in
    let x = c.as_bytes-x.ensures.value in
    let y = c.as_bytes-y.ensures.value in
    let front = word_at 8 0 xs ys _ _ c.type_inv.x c.type_inv.y (omega (arith, ap length x)) (omega (arith, ap length y)) (c.eight_bytes-first.ensures ∙ ap (λ z. big_endian 0 (chunk 0 8 z)) x) (c.eight_bytes-other.ensures ∙ ap (λ z. big_endian 0 (chunk 0 8 z)) y) in
    let second = word_at 8 8 xs ys _ _ c.type_inv.x c.type_inv.y (omega (arith, ap length x)) (omega (arith, ap length y)) (c.eight_bytes-second.ensures ∙ ap (λ z. big_endian 0 (chunk 8 8 z)) x) (c.eight_bytes-other-2.ensures ∙ ap (λ z. big_endian 0 (chunk 8 8 z)) y) in
    c.cmp-then-second-other.ensures ∙ sym (front.alike c.if-first-other.false ∙ second.apart c.if-second-other.true)
