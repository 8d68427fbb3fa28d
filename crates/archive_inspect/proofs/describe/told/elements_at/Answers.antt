use Rattle.std.proofs.Common.{◌≡◌, ◌+◌, subst, sym, ap, arith}
use Rattle.archive_check.specs.Expressions.{shape_of}
use Rattle.archive_check.specs.Layout.{Layout, size_of}
use Rattle.archive_inspect.specs.Points.{Under}
use Rattle.archive_inspect.proofs.Searched.{ElementsFound, elements_none, elements_more, elements_whole}
use Rattle.archive_inspect.proofs.describe.told.elements_at.Goals as goal

pub loop-number-init : goal.loop-number-init
loop-number-init c = elements_none c.args.form.now.schema (shape_of c.args.element.now) c.args.start _

pub loop-number-preserved : goal.loop-number-preserved
loop-number-preserved c =
    let f = c.args.form.now.schema in
    let X = shape_of c.args.element.now in
    let n = c.loop-number.number in
    subst (λ xs. ElementsFound f X c.args.start xs (n + 1)) (sym c.in_ok-push.ensures.items)
    (elements_more f X c.args.start c.args.count c.loop-number.points.items n c.in-Some-element_from.point c.meant.result c.loop-number.invariant c.in-Some-element_from.ensures c.meant.ensures.same c.meant.ensures.means)

pub returns : goal.returns
returns c =
    let f = c.args.form.now.schema in
    let X = shape_of c.args.element.now in
    let takes : Under f (λ s. size_of s.layouts X ≡ c.in-Some.layout.size) = λ s know. ap (λ (l : Layout). l.size) (c.in-Some.ensures.solved s know) in
    elements_whole f X c.args.start c.args.count c.loop-number.points.items c.loop-number.number c.in-Some.layout.size takes c.loop-number.invariant (λ none some. omega (arith, c.count_of_places-places.ensures.one none some)) (λ some. omega (arith, c.count_of_places-places.ensures.all some))
