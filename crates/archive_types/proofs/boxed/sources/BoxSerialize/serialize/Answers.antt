use Rattle.std.proofs.Common.{rules}
use Rattle.archive_types.proofs.Planning.Causes.{err_by}
use Rattle.archive_types.proofs.Planning.Owners.{serialized_boxed_one, far_boxed_one_refused}
use Rattle.archive_types.proofs.boxed.sources.BoxSerialize.serialize.Goals as goal

pub returns-in_err-pos-2 : goal.returns-in_err-pos-2
returns-in_err-pos-2 g c = record {
  serialized = search rules;
  same_value = search rules;
  goes_on = c.in_ok-pos.ensures.goes_on;
  refused = err_by c.from_residual-in_err-pos-2.result c.in_err-pos-2.field-0.0 _ c.from_residual-in_err-pos-2.ensures.1
      (rw (c.in_err-pos-2.ensures.refused.0)
      (far_boxed_one_refused _ _ _ _ _ g.met.T.Archived.Portable.is_one c.in_ok-pos.pos _ _ c.in_err-pos-2.ensures.refused.1 (rw c.deref.ensures at c.in_ok-pos.ensures.serialized)));
}

pub returns : goal.returns
returns g c = record {
  serialized = rw (c.in_ok-pos-2.ensures.same) (serialized_boxed_one _ _ _ _ _ g.met.T.Archived.Portable.is_one c.in_ok-pos.pos _ _ (rw c.deref.ensures at c.in_ok-pos.ensures.serialized));
  same_value = tt;
  goes_on = c.in_ok-pos.ensures.goes_on;
  refused = tt;
}
