use Rattle.archive_check.specs.Expressions.{key_of, shape_of}
use Rattle.archive_inspect.proofs.Searched.{EntriesFound}
use Rattle.archive_inspect.proofs.describe.told.entries_at.Given as goal

abbrev pub invariant-loop-number : goal.invariant-loop-number
invariant-loop-number l = EntriesFound l.form.schema l.bytes l.at (key_of l.key) (shape_of l.value) l.points.items l.number
