use Rattle.std.proofs.Common.{rules}
use Rattle.archive_types.proofs.Writing.OwnersWritten.{vec_unresolved, resolves_vec}
use Rattle.archive_types.proofs.vec.ArchivedVec.resolve_from_len.Goals as goal

pub returns-clause-outcome : goal.returns-clause-outcome
returns-clause-outcome g c = record {
  resolved = search (rules, resolves_vec);
  refused = rw (← c.resolver.view_is) (vec_unresolved c.emplace_long_owner.result _ _ _ _ _ _ c.emplace_long_owner.ensures.refused);
  same_length = search rules;
}
