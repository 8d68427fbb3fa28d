use Rattle.std.proofs.Common.{◌∙◌}
use Rattle.archive_types.proofs.Planning.Causes.{err_by, goes_both, goes_written, goes_refused}
use Rattle.archive_types.proofs.Writing.RunRegions.{serialized_elements, run_padded, run_hindered}
use Rattle.archive_core.proofs.recursive.sharing.write_elements.Goals as goal

pub returns-in_err-align_for-clause-refused : goal.returns-in_err-align_for-clause-refused
returns-in_err-align_for-clause-refused g c = err_by c.from_residual.result c.in_err-align_for.field-0.0 _ c.from_residual.ensures.1 (record {
  since = λ old go h. run_padded _ _ _ _ _ _ _ _ old _ _ _ g.met.T.Archived.Portable.is_align g.met.T.Archived.Portable.has_layout h go (g.met.S.Writer.position_law _)
      (goes_refused _ _ c.in_err-align_for.ensures.kept c.in_err-align_for.ensures.room c.in_err-align_for.ensures.device c.in_err-align_for.ensures.keys) c.in_err-align_for.ensures.refusal;
})

pub returns-in_err-pos-clause-refused : goal.returns-in_err-pos-clause-refused
returns-in_err-pos-clause-refused g c = err_by c.from_residual-in_err-pos.result c.in_err-pos.field-0.0 _ c.from_residual-in_err-pos.ensures.1 (record {
  since = λ old go h. run_hindered _ _ _ _ _ _ _ old _ _ _ _ g.met.T.Archived.Portable.has_layout h c.in_ok-align_for.ensures.padded
      (goes_both _ _ _ go (goes_written _ _ _ c.in_ok-align_for.ensures.written c.in_ok-align_for.ensures.room c.in_ok-align_for.ensures.device c.in_ok-align_for.ensures.keys))
      c.in_err-pos.ensures.outcome.goes_on c.in_err-pos.ensures.outcome.refused;
})

pub returns-clause-region : goal.returns-clause-region
returns-clause-region g c = record {
  since = λ old go h. serialized_elements _ _ _ _ _ _ _ c.in_ok-pos.pos old _ _ _ h c.in_ok-align_for.ensures.padded c.in_ok-pos.ensures.outcome.put
      (c.in_ok-pos.ensures.position ∙ g.met.S.Writer.position_law _);
}
