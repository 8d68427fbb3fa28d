use Rattle.std.proofs.Common.{refl, ap, subst, sym, [], Contains}
use Rattle.std.proofs.lemmas.List.Elements.{Contains-push}
use Rattle.archive_check.specs.Expressions.{shape_of}
use Rattle.archive_inspect.specs.declared.ways.Point.{Point}
use Rattle.archive_inspect.specs.declared.ways.Thing.TheVariants as thing
use Rattle.archive_inspect.specs.Points.{pointed_of, pointed_order, pointer_told, means_so}
use Rattle.archive_inspect.proofs.Searched.{found_then, meant_among, value_target, elements_target, text_target, no_order}
use Rattle.archive_inspect.proofs.describe.told.target_of.Goals as goal

pub returns-in_ok-value-in-One : goal.returns-in_ok-value-in-One
returns-in_ok-value-in-One c =
    let f = c.args.form.now.schema in
    let xs = c.in_ok-value-in-One.value.items in
    let x = c.meant.result in
    let b : Point = record { at = c.in-Some.place; thing = thing.Value c.in-One.expr } in
    let has : Contains xs x = subst (λ l. Contains l x) (sym c.in_ok-value-in-One.ensures) (Contains-push [] x) in
    value_target f xs (pointer_told c.args.pointer) c.in-Some.place c.in-Some.ensures (shape_of c.in-One.expr.now) (ap pointed_of c.in-One.is) (meant_among f xs b x has c.meant.ensures.same c.meant.ensures.means refl)

pub returns-in-Run : goal.returns-in-Run
returns-in-Run c =
    found_then c.elements_at.result c.elements_at.ensures
    (λ xs h. elements_target c.args.form.now.schema xs.items (pointer_told c.args.pointer) c.in-Some.place c.in-Some.ensures (shape_of c.in-Run.element.now) (ap pointed_of c.in-Run.is) (no_order (pointer_told c.args.pointer) (ap pointed_order c.in-Run.is)) h)

pub returns-in_ok-text-in-Text : goal.returns-in_ok-text-in-Text
returns-in_ok-text-in-Text c =
    let xs = c.in_ok-text-in-Text.text.items in
    let b : Point = record { at = c.in-Some.place; thing = thing.Text c.args.pointer.length } in
    let has : Contains xs b = subst (λ l. Contains l b) (sym c.in_ok-text-in-Text.ensures) (Contains-push [] b) in
    text_target c.args.form.now.schema xs (pointer_told c.args.pointer) c.in-Some.place c.in-Some.ensures (ap pointed_of c.in-Text.is)
    (λ s know. record { point = b; among = has; at = refl; means = means_so })
