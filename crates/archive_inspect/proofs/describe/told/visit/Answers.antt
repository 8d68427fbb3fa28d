use Rattle.std.proofs.Common.{subst}
use Rattle.archive_inspect.specs.Opened.{LeadsAlike}
use Rattle.archive_inspect.specs.Points.{pointer_told}
use Rattle.archive_inspect.proofs.Searched.{found_then, visits_opened, visits_again, visits_next}
use Rattle.archive_inspect.proofs.describe.told.visit.Goals as goal

pub returns-in_default : goal.returns-in_default
returns-in_default c = found_then c.opened.result c.opened.ensures (λ xs h. visits_opened c.args.form.now.schema c.args.bytes.now c.args.pieces.now c.args.followed.now.items c.args.point xs.items h)

pub returns-then-is_followed : goal.returns-then-is_followed
returns-then-is_followed c =
    visits_again c.args.form.now.schema c.args.bytes.now c.args.pieces.now c.args.followed.now.items c.args.point (pointer_told c.in-Some.pointer) c.in-Some.ensures (subst (λ l. LeadsAlike l (pointer_told c.in-Some.pointer)) c.deref.ensures.value (c.is_followed.ensures c.if-is_followed.true)) c.new.result.items

pub returns : goal.returns
returns c =
    visits_next c.args.form.now.schema c.args.bytes.now c.args.pieces.now c.args.followed.now.items c.args.point c.in-Some.pointer c.in-Some.ensures c.in-Some-2.target.items (rw c.in-Some-2.is at c.in_ok-target.ensures) c.keep_followed.new.followed.items c.in_ok-keep_followed.ensures
