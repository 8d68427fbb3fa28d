use Rattle.std.proofs.Common.{rules}
use Rattle.archive_types.proofs.Planning.Causes.{err_by, err_from, goes_both, goes_nowhere, goes_written, goes_refused}
use Rattle.archive_types.proofs.Copying.Copies.{serialized_as_they_are, copies_put_if, copy_unresolved, copy_refused_later, copy_not_padded, behind_written, begins_behind, copy_succeeds, copy_fails}
use Rattle.archive_types.proofs.Writing.RunRegions.{serialized_elements_if, run_padded, run_hindered}
use Rattle.archive_types.proofs.slice.copying.copy_together.Goals as goal

pub returns-in_err-align_for_run-clause-outcome : goal.returns-in_err-align_for_run-clause-outcome
returns-in_err-align_for_run-clause-outcome g c = record {
  serialized = search rules;
  goes_on =
      goes_refused _ _ c.in_err-align_for_run.ensures.kept c.in_err-align_for_run.ensures.room c.in_err-align_for_run.ensures.device c.in_err-align_for_run.ensures.keys;
  refused = err_by c.from_residual.result c.in_err-align_for_run.field-0.0 _ c.from_residual.ensures.1
      (run_padded _ _ _ _ _ _ _ _ _ _ _ _ g.met.T.CopiedAs.Portable.is_align g.met.T.CopiedAs.Portable.has_layout
      (serialized_as_they_are _ _ _ _ c.requires.owns_nothing c.args.values.now _) (goes_nowhere _)
      (g.met.S.Writer.position_law _) (goes_refused _ _ c.in_err-align_for_run.ensures.kept c.in_err-align_for_run.ensures.room c.in_err-align_for_run.ensures.device c.in_err-align_for_run.ensures.keys)
      c.in_err-align_for_run.ensures.refusal);
}

pub returns-in_err-align_for_run-clause-cause : goal.returns-in_err-align_for_run-clause-cause
returns-in_err-align_for_run-clause-cause g c = err_by c.from_residual.result c.in_err-align_for_run.field-0.0 _ c.from_residual.ensures.1
    (copy_not_padded g.T.CopiedAs.Portable.layout _ _ _ _ _ (g.met.S.Writer.position_law _)
    (goes_refused _ _ c.in_err-align_for_run.ensures.kept c.in_err-align_for_run.ensures.room c.in_err-align_for_run.ensures.device c.in_err-align_for_run.ensures.keys)
    c.in_err-align_for_run.ensures.refusal)

pub returns-in_err-align_for_run-clause-succeeds : goal.returns-in_err-align_for_run-clause-succeeds
returns-in_err-align_for_run-clause-succeeds g c = copy_fails c.from_residual.result c.in_err-align_for_run.field-0.0 _ _ _ _
    (goes_refused _ _ c.in_err-align_for_run.ensures.kept c.in_err-align_for_run.ensures.room c.in_err-align_for_run.ensures.device c.in_err-align_for_run.ensures.keys)
    c.in_err-align_for_run.ensures.memory
    (copy_not_padded g.T.CopiedAs.Portable.layout _ _ _ _ _ (g.met.S.Writer.position_law _)
    (goes_refused _ _ c.in_err-align_for_run.ensures.kept c.in_err-align_for_run.ensures.room c.in_err-align_for_run.ensures.device c.in_err-align_for_run.ensures.keys)
    c.in_err-align_for_run.ensures.refusal)

pub returns-clause-outcome : goal.returns-clause-outcome
returns-clause-outcome g c = record {
  serialized = serialized_elements_if _ _ _ _ _ c.copy_aligned.result _ _ _ _ _ _ _
      (serialized_as_they_are _ _ _ _ c.requires.owns_nothing c.args.values.now _) c.in_ok-align_for_run.ensures.padded
      (copies_put_if _ _ _ _ _ _ _ _ _ _ g.met.T.CopiedAs.Portable.has_layout c.requires.same c.copy_aligned.ensures.read c.copy_aligned.ensures.copied c.copy_aligned.ensures.keys)
      (g.met.S.Writer.position_law _) c.copy_aligned.ensures.position;
  goes_on = goes_both _ _ _
      (goes_written _ _ _ c.in_ok-align_for_run.ensures.written c.in_ok-align_for_run.ensures.room c.in_ok-align_for_run.ensures.device c.in_ok-align_for_run.ensures.keys) c.copy_aligned.ensures.goes_on;
  refused = err_from c.copy_aligned.result c.copy_aligned.ensures.refused (λ e h.
      run_hindered _ _ _ _ _ _ _ _ _ _ _ e g.met.T.CopiedAs.Portable.has_layout (serialized_as_they_are _ _ _ _ c.requires.owns_nothing c.args.values.now _)
      c.in_ok-align_for_run.ensures.padded
      (goes_written _ _ _ c.in_ok-align_for_run.ensures.written c.in_ok-align_for_run.ensures.room c.in_ok-align_for_run.ensures.device c.in_ok-align_for_run.ensures.keys) c.copy_aligned.ensures.goes_on
      (copy_unresolved _ _ g.T.CopiedAs.Portable.layout _ _ _ _ _ _ e (g.met.S.Writer.position_law _) c.requires.same h));
}

pub returns-clause-copied : goal.returns-clause-copied
returns-clause-copied g c = behind_written c.copy_aligned.result g.T.CopiedAs.Portable.layout _ _ _ _ _ (g.met.S.Writer.position_law _) c.in_ok-align_for_run.ensures.written c.copy_aligned.ensures.copied

pub returns-clause-position : goal.returns-clause-position
returns-clause-position g c = begins_behind c.copy_aligned.result g.T.CopiedAs.Portable.layout _ _ _ _ (g.met.S.Writer.position_law _) (g.met.S.Writer.position_law _) c.in_ok-align_for_run.ensures.written c.copy_aligned.ensures.position

pub returns-clause-cause : goal.returns-clause-cause
returns-clause-cause g c = err_from c.copy_aligned.result c.copy_aligned.ensures.refused (λ e h.
    copy_refused_later g.T.CopiedAs.Portable.layout _ _ _ _ _ _ _ e (g.met.S.Writer.position_law _) (g.met.S.Writer.position_law _) c.requires.same c.in_ok-align_for_run.ensures.written
    (goes_written _ _ _ c.in_ok-align_for_run.ensures.written c.in_ok-align_for_run.ensures.room c.in_ok-align_for_run.ensures.device c.in_ok-align_for_run.ensures.keys) c.copy_aligned.ensures.goes_on h)

pub returns-clause-succeeds : goal.returns-clause-succeeds
returns-clause-succeeds g c = copy_succeeds c.copy_aligned.result _ _ _ _
    (goes_both _ _ _ (goes_written _ _ _ c.in_ok-align_for_run.ensures.written c.in_ok-align_for_run.ensures.room c.in_ok-align_for_run.ensures.device c.in_ok-align_for_run.ensures.keys) c.copy_aligned.ensures.goes_on)
    c.copy_aligned.ensures.memory
    (err_from c.copy_aligned.result c.copy_aligned.ensures.refused (λ e h.
    copy_refused_later g.T.CopiedAs.Portable.layout _ _ _ _ _ _ _ e (g.met.S.Writer.position_law _) (g.met.S.Writer.position_law _) c.requires.same c.in_ok-align_for_run.ensures.written
    (goes_written _ _ _ c.in_ok-align_for_run.ensures.written c.in_ok-align_for_run.ensures.room c.in_ok-align_for_run.ensures.device c.in_ok-align_for_run.ensures.keys) c.copy_aligned.ensures.goes_on h))
