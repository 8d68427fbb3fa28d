use Rattle.std.proofs.Common.{rules}
use Rattle.archive_types.proofs.SharedValues.SharedWritten.{weak_serialized, null_serialized}
use Rattle.archive_types.proofs.rc.ArchivedRcWeak.serialize_from_ref.Goals as goal

pub returns-in_default-clause-outcome : goal.returns-in_default-clause-outcome
returns-in_default-clause-outcome g c = record {
  serialized = rw c.in_default.is (null_serialized _ _ _ _);
  same_value = search rules;
  goes_on = search rules;
  refused = search rules;
}

pub returns-in-Ok-clause-outcome : goal.returns-in-Ok-clause-outcome
returns-in-Ok-clause-outcome g c = record {
  serialized = rw c.in-Some.is (weak_serialized _ _ _ _ _ _ _ _ c.in-Ok.ensures.outcome.serialized);
  same_value = search rules;
  goes_on = search rules;
  refused = search rules;
}
