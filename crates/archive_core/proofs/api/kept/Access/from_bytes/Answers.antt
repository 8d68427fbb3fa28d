use Rattle.std.proofs.Common.{rules, inl, inr, ⊎_elim}
use Rattle.std.proofs.lemmas.Result.{IfOk-weaker, IfErr-weaker}
use Rattle.archive_check.proofs.Archives.{root_read}
use Rattle.archive_check.proofs.Unshared.{never_cyclic}
use Rattle.archive_types.proofs.Planning.Causes.{err_by}
use Rattle.archive_core.proofs.api.kept.Access.from_bytes.Goals as goal

pub returns-in_err-root : goal.returns-in_err-root
returns-in_err-root g c = record {
  accepted = search rules;
  read = search rules;
  refused = err_by c.from_residual.result c.in_err-root.field-0.0 _ c.from_residual.ensures.1 (inl c.in_err-root.ensures.answer.refused);
  never_open = λ u. err_by c.from_residual.result c.in_err-root.field-0.0 _ c.from_residual.ensures.1
      (record { refused = c.in_err-root.ensures.answer.refused; exact = c.in_err-root.ensures.answer.exact });
}

pub returns : goal.returns
returns g c = record {
  accepted = search rules;
  read =
      let e = c.in_ok-root.ensures in
      IfOk-weaker c.deserialize.result _ _
      (λ t h. let k = g.met.U.Archive.keyed t in root_read _ _ _ _ _ _ _ _ e.answer.accepted (rw (e.buffer, e.position, e.whole, g.met.T.Portable.is_one) at h) k.value k.named) c.deserialize.ensures.read;
  refused =
      let e = c.in_ok-root.ensures in
      IfErr-weaker c.deserialize.result _ _
      (λ x h. ⊎_elim (λ memory. inl (inl (inl memory))) (λ y. inr (y.0, e.answer.accepted, rw (e.buffer, e.position, e.whole, g.met.T.Portable.is_one) at (y.1))) h) c.deserialize.ensures.refused;
  never_open = λ u.
      let e = c.in_ok-root.ensures in
      IfErr-weaker c.deserialize.result _ _
      (λ x h. ⊎_elim (λ memory. record { refused = inl (inl memory); exact = inl memory })
      (λ y. absurd (never_cyclic _ _ _ _ _ _ u e.answer.accepted (rw (e.buffer, e.position, e.whole, g.met.T.Portable.is_one) at (y.1)))) h) c.deserialize.ensures.refused;
}
