use Rattle.std.proofs.Common.{rules}
use Rattle.archive_types.proofs.slice.copying.copy_slice.Goals as goal

-- what is copied is what the source's `Archive` says

pub returns-clause-outcome : goal.returns-clause-outcome
returns-clause-outcome g c = record {
  serialized = rw (g.met.T.CopiedSource.same_keys, g.met.T.CopiedSource.same_meaning) at c.copy_together.ensures.outcome.serialized;
  goes_on = search rules;
  refused = rw (g.met.T.CopiedSource.same_keys, g.met.T.CopiedSource.same_meaning) at c.copy_together.ensures.outcome.refused;
}
