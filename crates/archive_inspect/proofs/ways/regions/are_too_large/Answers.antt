use Rattle.std.proofs.Common.{rules}
use Rattle.archive_inspect.proofs.Refused.{large_one, large_many, large_held}
use Rattle.archive_inspect.proofs.ways.regions.are_too_large.Goals as goal

pub returns-in-Some : goal.returns-in-Some
returns-in-Some c = λ t. large_one c.args.form.now.schema _ _ _ c.in-Some.ensures.found (c.is_too_large.ensures t)

pub returns-then-overflows : goal.returns-then-overflows
returns-then-overflows c = λ t. large_many c.args.form.now.schema _ _ c.in-None.ensures.none (c.overflows.ensures (search rules))

pub returns-in-Some-held_of : goal.returns-in-Some-held_of
returns-in-Some-held_of c = λ t. large_held c.args.form.now.schema _ _ c.args.pointer.length c.in-Some-held_of.ensures (search rules) (c.is_too_large-in-Some-held_of.ensures t)
