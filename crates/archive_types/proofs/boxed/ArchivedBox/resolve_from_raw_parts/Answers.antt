use Rattle.std.proofs.Common.{rules}
use Rattle.archive_types.proofs.Writing.OwnersWritten.{box_unresolved, resolves_box}
use Rattle.archive_types.proofs.boxed.ArchivedBox.resolve_from_raw_parts.Goals as goal

pub returns-clause-outcome : goal.returns-clause-outcome
returns-clause-outcome g c = record {
  resolved = search (rules, resolves_box);
  refused = rw (← c.resolver.view_is) (box_unresolved c.emplace_pointer.result _ _ _ _ _ _ c.emplace_pointer.ensures.refused);
  same_length = search rules;
}
