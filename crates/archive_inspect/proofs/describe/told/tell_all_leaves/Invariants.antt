use Rattle.archive_inspect.proofs.Searched.{Searches}
use Rattle.archive_inspect.proofs.describe.told.tell_all_leaves.Given as goal

abbrev pub invariant-loop : goal.invariant-loop
invariant-loop l = Searches l.form.schema l.bytes l.pieces l.root l.pending.items l.points.items l.followed.items
