use Rattle.std.proofs.Common.{rules}
use Rattle.archive_inspect.proofs.Explained.{told_place}
use Rattle.archive_inspect.proofs.explain.is_place.Goals as goal

pub returns-in-Some : goal.returns-in-Some
returns-in-Some c = λ t. told_place c.args.form.now.schema c.args.bytes.now c.args.root c.args.refusal c.args.place.now c.deref.result.now c.in-Some.position c.in-Some.ensures (c.is_refused_by.ensures t) c.deref.ensures.value (search rules)
