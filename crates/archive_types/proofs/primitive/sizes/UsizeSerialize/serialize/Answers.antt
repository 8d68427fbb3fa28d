use Rattle.std.proofs.Common.{rules}
use Rattle.archive_types.proofs.Planning.Planned.{serialized_number}
use Rattle.archive_types.proofs.primitive.sizes.UsizeSerialize.serialize.Goals as goal

pub returns-clause-outcome : goal.returns-clause-outcome
returns-clause-outcome g c = record {
  serialized = serialized_number _ _ _ _;
  same_value = search rules;
  goes_on = search rules;
  refused = search rules;
}
