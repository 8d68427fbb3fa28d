use Rattle.std.proofs.Common.{rules, refl}
use Rattle.archive_check.specs.Members.PartsLayout.{knows_left, knows_right}
use Rattle.archive_types.proofs.Planning.Causes.{err_by}
use Rattle.archive_types.proofs.Writing.WrittenVariants.{serialized_case, case_refused}
use Rattle.archive_types.proofs.result.ResultSerialize.serialize.Goals as goal

pub returns-in_err-serialize-in-Ok : goal.returns-in_err-serialize-in-Ok
returns-in_err-serialize-in-Ok g c = record {
  serialized = search rules;
  same_value = search rules;
  goes_on = search rules;
  refused = err_by c.from_residual.result c.in_err-serialize-in-Ok.field-0.0 _ c.from_residual.ensures.1
      (rw c.in-Ok.is (case_refused _ _ (λ s k. knows_left s _ _ k) _ _ 0 _ refl _ _ _ _ _ c.in_err-serialize-in-Ok.ensures.refused));
}

pub returns-in_err-serialize-in-Err : goal.returns-in_err-serialize-in-Err
returns-in_err-serialize-in-Err g c = record {
  serialized = search rules;
  same_value = search rules;
  goes_on = search rules;
  refused = err_by c.from_residual-in_err-serialize-in-Err.result c.in_err-serialize-in-Err.field-0.0 _ c.from_residual-in_err-serialize-in-Err.ensures.1
      (rw c.in-Err.is (case_refused _ _ (λ s k. knows_right s _ _ k) _ _ 1 _ refl _ _ _ _ _ c.in_err-serialize-in-Err.ensures.refused));
}

pub returns-in_ok-serialize-in-Ok : goal.returns-in_ok-serialize-in-Ok
returns-in_ok-serialize-in-Ok g c = record {
  serialized =
      rw c.in-Ok.is (serialized_case _ _ (λ s k. knows_left s _ _ k) _ _ 0 _ refl _ _ _ _ _ c.in_ok-serialize-in-Ok.ensures.serialized);
  same_value = search rules;
  goes_on = search rules;
  refused = search rules;
}

pub returns-in_ok-serialize-in-Err : goal.returns-in_ok-serialize-in-Err
returns-in_ok-serialize-in-Err g c = record {
  serialized =
      rw c.in-Err.is (serialized_case _ _ (λ s k. knows_right s _ _ k) _ _ 1 _ refl _ _ _ _ _ c.in_ok-serialize-in-Err.ensures.serialized);
  same_value = search rules;
  goes_on = search rules;
  refused = search rules;
}
