use Rattle.std.proofs.Common.{◌+◌, subst, sym, arith}
use Rattle.archive_check.specs.Expressions.{shapes_in}
use Rattle.archive_inspect.proofs.Searched.{PartsFound, parts_none, parts_more, parts_whole}
use Rattle.archive_inspect.proofs.describe.told.parts_at.Goals as goal

pub loop-number-init : goal.loop-number-init
loop-number-init c = parts_none c.args.form.now.schema c.args.at c.args.start (shapes_in c.args.parts.now) _

pub loop-number-preserved : goal.loop-number-preserved
loop-number-preserved c =
    let f = c.args.form.now.schema in
    let n = c.loop-number.number in
    let x = c.meant.result in
    subst (λ xs. PartsFound f c.args.at c.args.start (shapes_in c.args.parts.now) xs (n + 1)) (sym c.in_ok-push.ensures.items)
    (parts_more f c.args.at c.args.start (shapes_in c.args.parts.now) c.loop-number.points.items n c.in-Some.part x c.loop-number.invariant c.in-Some.ensures c.meant.ensures.same c.meant.ensures.means)

pub returns : goal.returns
returns c = parts_whole c.args.form.now.schema c.args.at c.args.start c.args.parts.now c.loop-number.points.items c.loop-number.number c.loop-number.invariant (omega arith)
