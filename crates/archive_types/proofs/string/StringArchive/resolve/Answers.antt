use Rattle.std.proofs.Common.{rules}
use Rattle.archive_types.proofs.Planning.Planned.{string_unresolved}
use Rattle.archive_types.proofs.string.StringArchive.resolve.Goals as goal

pub returns-clause-outcome : goal.returns-clause-outcome
returns-clause-outcome c = record {
  resolved = search rules;
  refused = rw (← c.as_str.ensures.value, ← c.new.ensures.position)
      (string_unresolved c.resolve_from_str.result _ c.as_str.result.now _ _ _ c.resolve_from_str.ensures.refused c.resolve_from_str.ensures.inline);
  same_length = search rules;
}
