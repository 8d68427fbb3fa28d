use Rattle.std.proofs.Common.{◌≡◌, arith, refl, subst, drop, length, ◌<◌, ◌+◌}
use Rattle.archive_check.specs.Expressions.{shape_of, shapes_in}
use Rattle.archive_check.proofs.format.Views.{shapes_in-drop}
use Rattle.archive_inspect.proofs.WaySteps.{PartsLeft, left_first, left_more, left_last, offset_lies}
use Rattle.archive_inspect.proofs.ways.layouts.part_from.Goals as goal

pub loop-i-init : goal.loop-i-init
loop-i-init c = left_first c.args.form.now.schema c.args.at c.args.start (shapes_in c.args.parts.now) c.args.number

pub loop-i-preserved : goal.loop-i-preserved
loop-i-preserved c =
    let xs = c.args.parts.now in
    let i = c.loop-i.i in
    let x = c.index-parts-i.result in
    let below : i < length xs = omega arith in
    left_more c.args.form.now.schema c.args.at c.args.start (shapes_in xs) (shapes_in (drop i xs)) (shapes_in (drop (i + 1) xs)) (shape_of x) i (i + 1) c.args.number c.loop-i.end c.in_ok-next.next
    c.loop-i.invariant (shapes_in-drop xs i x below c.index-parts-i.is) refl c.in_ok-next.ensures

pub returns : goal.returns
returns c =
    let f = c.args.form.now.schema in
    let xs = c.args.parts.now in
    let k = c.args.number in
    let x = c.index-parts-number.result in
    let below : k < length xs = omega arith in
    let all : c.loop-i.i ≡ k = omega arith in
    let left : PartsLeft f c.args.at c.args.start (shapes_in xs) (shapes_in (drop k xs)) k k c.loop-i.end =
    subst (λ i. PartsLeft f c.args.at c.args.start (shapes_in xs) (shapes_in (drop i xs)) i k c.loop-i.end) all c.loop-i.invariant in
    record {
      shape = shape_of x;
      value = refl;
      numbered = left_last f c.args.at c.args.start (shapes_in xs) (shapes_in (drop k xs)) (shapes_in (drop (k + 1) xs)) (shape_of x) k c.loop-i.end c.in_ok-place.place
          left (shapes_in-drop xs k x below c.index-parts-number.is)
          (offset_lies f (shape_of x) c.in_ok-layout.layout c.args.at c.loop-i.end c.in_ok-offset.offset c.in_ok-place.place c.in_ok-layout.ensures c.in_ok-offset.ensures (omega arith));
    }
