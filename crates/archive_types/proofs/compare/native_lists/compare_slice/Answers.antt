use Rattle.std.proofs.Common.{◌≡◌, ◌+◌, ◌*◌, ◌<◌, ◌≤◌, true, false, length, arith, sym, ap, ◌∙◌}
use Rattle.std.specs.Ordering.{is_ne, nat_cmp}
use Rattle.archive_types.specs.Compared.{standing}
use Rattle.archive_types.proofs.Comparing.Compared.{left_start, left_over, left_done, left_here, left_later}
use Rattle.archive_types.proofs.compare.native_lists.compare_slice.Goals as goal

pub loop-index-init : goal.loop-index-init
loop-index-init g c = (omega arith, left_start g.T.CompareNative.native_order c.args.view.bytes.now c.args.view.pos g.T.Portable.layout.size c.args.values.now c.args.view.len)

pub returns-then-index-values : goal.returns-then-index-values
returns-then-index-values g c =
    let below : c.loop-index.index < c.args.view.len = omega (arith, c.loop-index-test.true, c.len-index-end.ensures) in
    sym (c.loop-index.invariant.1 ∙ left_over g.T.CompareNative.native_order c.args.view.bytes.now c.args.view.pos g.T.Portable.layout.size c.args.values.now c.loop-index.index c.args.view.len below c.if-index-values.true)

pub returns-then-is_ne : goal.returns-then-is_ne
returns-then-is_ne g c =
    let z = g.T.Portable.layout.size in
    let i = c.loop-index.index in
    let below : i < c.args.view.len = omega (arith, c.loop-index-test.true, c.len-index-end.ensures) in
    let under : i < length c.args.values.now = omega (arith, c.if-index-values.false) in
    let here = c.compare_native_at-order.ensures ∙ ap (g.T.CompareNative.native_order (standing c.args.view.bytes.now (c.args.view.pos + i * z) 0)) c.index-values-index.is in
    let other : is_ne c.compare_native_at-order.result ≡ true = sym c.is_ne.ensures ∙ c.if-is_ne.true in
    sym (c.loop-index.invariant.1 ∙ left_here g.T.CompareNative.native_order c.args.view.bytes.now c.args.view.pos z c.args.values.now i c.args.view.len c.compare_native_at-order.result c.index-values-index.result below under here other)

pub loop-index-preserved : goal.loop-index-preserved
loop-index-preserved g c =
    let z = g.T.Portable.layout.size in
    let i = c.loop-index.index in
    let below : i < c.args.view.len = omega (arith, c.loop-index-test.true, c.len-index-end.ensures) in
    let under : i < length c.args.values.now = omega (arith, c.if-index-values.false) in
    let here = c.compare_native_at-order.ensures ∙ ap (g.T.CompareNative.native_order (standing c.args.view.bytes.now (c.args.view.pos + i * z) 0)) c.index-values-index.is in
    let same : is_ne c.compare_native_at-order.result ≡ false = sym c.is_ne.ensures ∙ c.if-is_ne.false in (
      omega (arith, under),
      c.loop-index.invariant.1 ∙ left_later g.T.CompareNative.native_order c.args.view.bytes.now c.args.view.pos z c.args.values.now i c.args.view.len c.compare_native_at-order.result c.index-values-index.result below under here same,
    )

pub returns : goal.returns
returns g c =
    let end : c.args.view.len ≤ c.loop-index.index = omega (arith, c.loop-index-test.false, c.len-index-end.ensures) in
    let within : c.loop-index.index ≤ c.args.view.len = omega (arith, c.loop-index.auto.index-end, c.len-index-end.ensures) in
    let order : c.cmp.result ≡ nat_cmp c.args.view.len (length c.args.values.now) = rw c.len.ensures at c.cmp.ensures in
    order
    ∙ sym (c.loop-index.invariant.1 ∙ left_done g.T.CompareNative.native_order c.args.view.bytes.now c.args.view.pos g.T.Portable.layout.size c.args.values.now c.loop-index.index c.args.view.len end within c.loop-index.invariant.0)
