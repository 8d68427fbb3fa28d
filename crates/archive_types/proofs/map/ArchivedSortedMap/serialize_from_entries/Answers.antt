use Rattle.std.proofs.Common.{sym, ◌∙◌}
use Rattle.archive_types.specs.Members.Maps.{entry_is}
use Rattle.archive_types.specs.Members.PlannedMaps.{pair_planned, pairs_planned}
use Rattle.archive_types.specs.Members.PlannedOwners.{each_planned}
use Rattle.archive_types.proofs.Planning.Causes.{goes_nowhere}
use Rattle.archive_types.proofs.Planning.PlannedMaps.{long_map_refused, unsorted_map_refused}
use Rattle.archive_types.proofs.map.ArchivedSortedMap.serialize_from_entries.Goals as goal

pub returns-then-entries-clause-outcome : goal.returns-then-entries-clause-outcome
returns-then-entries-clause-outcome g c = record {
  serialized = tt;
  same_value = tt;
  goes_on = goes_nowhere _;
  refused = long_map_refused _ _ _ _ (entry_is g.K.Portable.shape g.V.Portable.shape g.K.MapKey.key g.met.K.MapKey.is_key) _ _ _ _ _
      (each_planned _ _ _ _ (pair_planned g.A.Archive.keys g.B.Archive.keys g.A.Archive.meaning g.B.Archive.meaning _ _ _ _ g.met.A.Archive.planned g.met.B.Archive.planned) c.args.entries.now) c.if-entries.true;
}

pub returns-then-not-are_sorted-clause-outcome : goal.returns-then-not-are_sorted-clause-outcome
returns-then-not-are_sorted-clause-outcome g c = record {
  serialized = tt;
  same_value = tt;
  goes_on = goes_nowhere _;
  refused = unsorted_map_refused _ _ _ _ (entry_is g.K.Portable.shape g.V.Portable.shape g.K.MapKey.key g.met.K.MapKey.is_key) _ _ _ _ _
      (pairs_planned g.A.Archive.keys g.B.Archive.keys g.A.Archive.meaning g.B.Archive.meaning _ _ _ _ g.met.A.Archive.planned g.met.B.Archive.planned c.args.entries.now)
      (sym c.are_sorted.ensures ∙ c.if-not-are_sorted.true);
}
