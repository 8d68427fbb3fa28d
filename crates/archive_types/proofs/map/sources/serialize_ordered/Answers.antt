use Rattle.std.proofs.Common.{rules}
use Rattle.archive_types.proofs.Planning.Causes.{err_by}
use Rattle.archive_types.proofs.Planning.PlannedMaps.{serialized_map, far_map_refused}
use Rattle.archive_types.proofs.map.sources.serialize_ordered.Goals as goal

pub returns-in_err-pos-2 : goal.returns-in_err-pos-2
returns-in_err-pos-2 g c = record {
  serialized = search rules;
  same_value = search rules;
  goes_on = c.serialize_in_turn.ensures.outcome.goes_on;
  refused = err_by c.from_residual-in_err-pos-2.result c.in_err-pos-2.field-0.0 _ c.from_residual-in_err-pos-2.ensures.1
      (rw (c.in_err-pos-2.ensures.refused.0) (far_map_refused _ _ _ _ c.requires.pairs _ _ _ _ _ _ c.in_err-pos-2.ensures.refused.1 c.in_ok-pos.ensures.outcome.serialized));
}

pub returns : goal.returns
returns g c = record {
  serialized = rw (c.in_ok-pos-2.ensures.same) (serialized_map _ _ _ _ c.requires.pairs _ _ _ _ _ _ c.in_ok-pos.ensures.outcome.serialized c.requires.ordered);
  same_value = c.requires.few;
  goes_on = c.serialize_in_turn.ensures.outcome.goes_on;
  refused = tt;
}
