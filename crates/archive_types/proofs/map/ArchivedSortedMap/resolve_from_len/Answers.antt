use Rattle.std.proofs.Common.{rules}
use Rattle.archive_types.proofs.Writing.EntriesWritten.{map_resolved, map_unresolved}
use Rattle.archive_types.proofs.map.ArchivedSortedMap.resolve_from_len.Goals as goal

pub returns-clause-outcome : goal.returns-clause-outcome
returns-clause-outcome g c = record {
  resolved = rw (← c.resolver.view_is) (map_resolved c.emplace_long_owner.result _ _ _ _ _ _ _ c.requires.held c.emplace_long_owner.ensures.written c.emplace_long_owner.ensures.fits);
  refused = rw (← c.resolver.view_is) (map_unresolved c.emplace_long_owner.result _ _ _ _ _ _ _ c.emplace_long_owner.ensures.refused);
  same_length = search rules;
}
