use Rattle.std.proofs.Common.{rules}
use Rattle.archive_types.proofs.Planning.Planned.{serialized_leaf}
use Rattle.archive_types.proofs.primitive.leaves.AnySerialize.serialize.Goals as goal

pub returns-clause-outcome : goal.returns-clause-outcome
returns-clause-outcome g c = record {
  serialized = serialized_leaf _ _ _ _ _ g.met.L.Leaf.leaf_shape;
  same_value = search rules;
  goes_on = search rules;
  refused = search rules;
}
