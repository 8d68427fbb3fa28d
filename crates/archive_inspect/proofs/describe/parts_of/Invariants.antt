use Rattle.std.proofs.Common.{All}
use Rattle.archive_inspect.specs.Described.{IsReached, IsPiece}
use Rattle.archive_inspect.proofs.describe.parts_of.Given as goal

abbrev pub invariant-loop : goal.invariant-loop
invariant-loop l = All (IsReached l.form.schema l.bytes l.root) l.holders.items × All (IsPiece l.form.schema l.bytes l.root) l.parts.items
