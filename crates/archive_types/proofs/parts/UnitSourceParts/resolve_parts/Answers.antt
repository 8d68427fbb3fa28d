use Rattle.std.proofs.Common.{rules}
use Rattle.archive_types.proofs.Writing.ResolvedParts.{resolves_nothing}
use Rattle.archive_types.proofs.parts.UnitSourceParts.resolve_parts.Goals as goal

pub returns : goal.returns
returns g c = record {
  resolved = resolves_nothing _ _ _ _ c.requires.zeroed;
  refused = search rules;
  same_length = search rules;
}
