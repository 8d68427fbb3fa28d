use Rattle.std.proofs.Common.{rules, refl, sym, ap, ◌∙◌, [], ◌∷◌, None}
use Rattle.std.proofs.lemmas.List.{append-nil}
use Rattle.archive_check.proofs.Tours.StandingBytes.{zeroed_none}
use Rattle.archive_types.proofs.Planning.Causes.{err_by, goes_both, goes_written, goes_refused}
use Rattle.archive_types.proofs.SharedValues.SharedWritten.{shared_refused, byte_refused, shared_serialized, without_byte, with_byte, a_zero}
use Rattle.archive_types.proofs.rc.writing.write_shared.Goals as goal

pub returns-in-Err-clause-outcome : goal.returns-in-Err-clause-outcome
returns-in-Err-clause-outcome g c = record {
  serialized = search rules;
  same_value = search rules;
  goes_on = search rules;
  refused = rw (c.by_words.ensures)
      (shared_refused _ _ _ _ _ _ c.args.key c.serialize_shared.result _ _ _ c.in-Err.is c.serialize_shared.ensures.known c.in-Err.ensures.refused);
}

pub returns-in-Err-clause-pending : goal.returns-in-Err-clause-pending
returns-in-Err-clause-pending g c pending =
    let kept = c.serialize_shared.ensures.unchanged None pending in
    let same = c.serialize_shared.ensures.known None pending in
    (rw (c.by_words.ensures) (sym c.in-Err.is ∙ same), kept.0, kept.1)

pub returns-then-pos-clause-outcome : goal.returns-then-pos-clause-outcome
returns-then-pos-clause-outcome g c = record {
  serialized =
      shared_serialized _ _ _ _ _ _ c.args.key c.serialize_shared.result c.in-Ok.pos _ _ c.in-Ok.is c.serialize_shared.ensures.known c.serialize_shared.ensures.unchanged c.in-Ok.ensures.serialized
      _ [] (sym (append-nil _)) zeroed_none (without_byte _ _ _ (c.pos.ensures ∙ g.met.S.Writer.position_law _) c.if-pos.true) (λ k. refl);
  same_value = search rules;
  goes_on = search rules;
  refused = search rules;
}

pub returns-in_err-write-clause-outcome : goal.returns-in_err-write-clause-outcome
returns-in_err-write-clause-outcome g c = record {
  serialized = search rules;
  same_value = search rules;
  goes_on = goes_both _ _ _ c.in-Ok.ensures.goes_on (goes_refused _ _ c.in_err-write.ensures.kept c.write.ensures.room c.write.ensures.device c.write.ensures.keys);
  refused = err_by c.from_residual.result c.in_err-write.field-0.0 _ c.from_residual.ensures.1
      (byte_refused _ _ _ _ _ _ c.args.key c.serialize_shared.result c.in-Ok.pos _ _ c.in-Ok.is c.serialize_shared.ensures.known c.serialize_shared.ensures.unchanged c.in-Ok.ensures.serialized
      _ _ _ (g.met.S.Writer.position_law _) (sym c.pos.ensures ∙ c.if-pos.false) c.in-Ok.ensures.goes_on (goes_refused _ _ c.in_err-write.ensures.kept c.write.ensures.room c.write.ensures.device c.write.ensures.keys) c.in_err-write.ensures.refusal);
}

pub returns-clause-outcome : goal.returns-clause-outcome
returns-clause-outcome g c = record {
  serialized =
      shared_serialized _ _ _ _ _ _ c.args.key c.serialize_shared.result c.in-Ok.pos _ _ c.in-Ok.is c.serialize_shared.ensures.known c.serialize_shared.ensures.unchanged c.in-Ok.ensures.serialized
      _ (0 ∷ []) c.in_ok-write.ensures.written a_zero (with_byte _ _ _ (c.pos.ensures ∙ g.met.S.Writer.position_law _) c.if-pos.false) c.write.ensures.keys;
  same_value = search rules;
  goes_on = goes_both _ _ _ c.in-Ok.ensures.goes_on (goes_written _ _ (0 ∷ []) c.in_ok-write.ensures.written c.write.ensures.room c.write.ensures.device c.write.ensures.keys);
  refused = search rules;
}
