use Rattle.std.proofs.Common.{◌≡◌, ◌<◌, ◌≤◌, true, false, arith, sym, ◌∙◌}
use Rattle.std.specs.Ordering.{is_ne, nat_cmp}
use Rattle.archive_types.proofs.Comparing.Compared.{rest_start, rest_over, rest_done, rest_here, rest_later}
use Rattle.archive_types.proofs.compare.lists.compare_elements.Goals as goal

pub loop-index-init : goal.loop-index-init
loop-index-init g c =
    (c.skip_level-index.ensures.second, rest_start g.T.Ordered.order c.args.a.bytes.now c.args.a.pos g.T.Portable.layout.size c.args.b.bytes.now c.args.b.pos c.args.a.len c.args.b.len ∙ c.skip_level-index.ensures.level)

pub returns-then-index-len : goal.returns-then-index-len
returns-then-index-len g c =
    let below : c.loop-index.index < c.args.a.len = omega (arith, c.loop-index-test.true, c.len-index-end.ensures) in
    let over : c.args.b.len ≤ c.loop-index.index = omega (arith, c.if-index-len.true, c.len.ensures) in
    sym (c.loop-index.invariant.1 ∙ rest_over g.T.Ordered.order c.args.a.bytes.now c.args.a.pos g.T.Portable.layout.size c.args.b.bytes.now c.args.b.pos c.loop-index.index c.args.a.len c.args.b.len below over)

pub returns-then-is_ne : goal.returns-then-is_ne
returns-then-is_ne g c =
    let z = g.T.Portable.layout.size in
    let i = c.loop-index.index in
    let below : i < c.args.a.len = omega (arith, c.loop-index-test.true, c.len-index-end.ensures) in
    let under : i < c.args.b.len = omega (arith, c.if-index-len.false, c.len.ensures) in
    let other : is_ne c.compare_at-order.result ≡ true = sym c.is_ne.ensures ∙ c.if-is_ne.true in
    sym (c.loop-index.invariant.1 ∙ rest_here g.T.Ordered.order c.args.a.bytes.now c.args.a.pos z c.args.b.bytes.now c.args.b.pos i c.args.a.len c.args.b.len c.compare_at-order.result below under c.compare_at-order.ensures other)

pub loop-index-preserved : goal.loop-index-preserved
loop-index-preserved g c =
    let z = g.T.Portable.layout.size in
    let i = c.loop-index.index in
    let below : i < c.args.a.len = omega (arith, c.loop-index-test.true, c.len-index-end.ensures) in
    let under : i < c.args.b.len = omega (arith, c.if-index-len.false, c.len.ensures) in
    let same : is_ne c.compare_at-order.result ≡ false = sym c.is_ne.ensures ∙ c.if-is_ne.false in (
      omega (arith, under),
      c.loop-index.invariant.1 ∙ rest_later g.T.Ordered.order c.args.a.bytes.now c.args.a.pos z c.args.b.bytes.now c.args.b.pos i c.args.a.len c.args.b.len c.compare_at-order.result below under c.compare_at-order.ensures same,
    )

pub returns : goal.returns
returns g c =
    let end : c.args.a.len ≤ c.loop-index.index = omega (arith, c.loop-index-test.false, c.len-index-end.ensures) in
    let within : c.loop-index.index ≤ c.args.a.len = omega (arith, c.loop-index.auto.index-end, c.len-index-end.ensures) in
    let order : c.cmp.result ≡ nat_cmp c.args.a.len c.args.b.len = rw (c.len-2.ensures, c.len-3.ensures) at c.cmp.ensures in
    order
    ∙ sym (c.loop-index.invariant.1 ∙ rest_done g.T.Ordered.order c.args.a.bytes.now c.args.a.pos g.T.Portable.layout.size c.args.b.bytes.now c.args.b.pos c.loop-index.index c.args.a.len c.args.b.len end within c.loop-index.invariant.0)
