use Rattle.std.proofs.Common.{◌+◌, ◌∷◌, ◌++◌, [], refl, subst, sym, ap, arith, ◌∙◌}
use Rattle.archive_check.specs.Expressions.{key_of, shape_of}
use Rattle.archive_inspect.specs.declared.ways.Point.{Point}
use Rattle.archive_inspect.specs.declared.ways.Thing.TheVariants as thing
use Rattle.archive_inspect.proofs.Searched.{EntriesFound, entries_none, entries_more}
use Rattle.archive_inspect.proofs.describe.told.entries_at.Goals as goal

pub loop-number-init : goal.loop-number-init
loop-number-init c = entries_none c.args.form.now.schema c.args.bytes.now c.args.at (key_of c.args.key) (shape_of c.args.value.now) _

pub loop-number-preserved : goal.loop-number-preserved
loop-number-preserved c =
    let f = c.args.form.now.schema in
    let K = key_of c.args.key in
    let V = shape_of c.args.value.now in
    let n = c.loop-number.number in
    let places = c.in-Some-entry_from.places in
    let xs = c.loop-number.points.items in
    let a : Point = record { at = places.key; thing = thing.Key c.args.key } in
    let b : Point = record { at = places.value; thing = thing.Value c.args.value } in
    let x = c.meant.result in
    subst (λ ys. EntriesFound f c.args.bytes.now c.args.at K V ys (n + 1)) (sym (c.in_ok-push-2.ensures.items ∙ ap (λ ys. ys ++ x ∷ []) c.in_ok-push.ensures.items))
    (entries_more f c.args.bytes.now c.args.at K V xs n places a b x c.loop-number.invariant c.in-Some-entry_from.ensures refl refl refl refl c.meant.ensures.same c.meant.ensures.means)

pub returns : goal.returns
returns c = λ s know t leads k below. c.loop-number.invariant s know t leads k (omega arith)
