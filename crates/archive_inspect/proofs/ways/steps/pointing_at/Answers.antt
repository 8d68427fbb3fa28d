use Rattle.std.proofs.lemmas.Option.{IfSome_then}
use Rattle.archive_inspect.specs.Points.{points_from}
use Rattle.archive_inspect.proofs.ways.steps.pointing_at.Goals as goal

pub returns-in-Some : goal.returns-in-Some
returns-in-Some c = IfSome_then c.pointer_from.result c.pointer_from.ensures (λ p h. points_from c.in-Some.ensures h)

pub returns-then-is_string : goal.returns-then-is_string
returns-then-is_string c = IfSome_then c.string_pointing.result c.string_pointing.ensures (λ p h. points_from (c.is_string.ensures c.if-is_string.true) h)
