use Rattle.std.proofs.Common.{◌≡◌, drop}
use Rattle.archive_tuple.specs.Entries.{entries_ascend}
use Rattle.archive_tuple.proofs.entries.is_ascending.Given as goal

abbrev pub invariant-loop-index : goal.invariant-loop-index
invariant-loop-index g l = entries_ascend g.K.Ord.cmp l.entries ≡ entries_ascend g.K.Ord.cmp (drop l.index l.entries)
