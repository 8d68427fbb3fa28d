use Rattle.std.proofs.Common.{sym, ◌∙◌}
use Rattle.archive_types.proofs.Writing.SortedPairs.{ascends_as_meant}
use Rattle.archive_types.proofs.map.sources.are_sorted.Goals as goal

pub returns : goal.returns
returns g c =
    c.is_ascending.ensures ∙ ascends_as_meant g.A.Ord.cmp g.A.Archive.meaning g.B.Archive.meaning g.met.A.SortedKey.sorted c.args.entries.now
