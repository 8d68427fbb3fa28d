use Rattle.std.proofs.Common.{rules, inl, inr, ⊎_elim}
use Rattle.std.proofs.lemmas.Result.{IfOk-weaker, IfErr-weaker}
use Rattle.archive_check.proofs.Archives.{root_read}
use Rattle.archive_check.proofs.Unshared.{never_cyclic}
use Rattle.archive_core.proofs.api.from_bytes.Goals as goal

pub returns : goal.returns
returns g c = record {
  accepted = search rules;
  read =
      let e = c.in_ok-root.ensures in
      IfOk-weaker c.deserialize.result _ _
      (λ t h. let k = g.met.T.Archive.keyed t in root_read _ _ _ _ _ _ _ _ e.answer.accepted (rw (e.buffer, e.position, e.whole, g.met.T.Archived.Portable.is_one) at h) k.value k.named) c.deserialize.ensures.read;
  refused =
      let e = c.in_ok-root.ensures in
      IfErr-weaker c.deserialize.result _ _
      (λ x h. ⊎_elim (λ memory. inl (inl (inl memory))) (λ y. inr (y.0, e.answer.accepted, rw (e.buffer, e.position, e.whole, g.met.T.Archived.Portable.is_one) at (y.1))) h) c.deserialize.ensures.refused;
  never_open = λ u.
      let e = c.in_ok-root.ensures in
      IfErr-weaker c.deserialize.result _ _
      (λ x h. ⊎_elim (λ memory. record { refused = inl (inl memory); exact = inl memory })
      (λ y. absurd (never_cyclic _ _ _ _ _ _ u e.answer.accepted (rw (e.buffer, e.position, e.whole, g.met.T.Archived.Portable.is_one) at (y.1)))) h) c.deserialize.ensures.refused;
}
