use Rattle.std.proofs.Common.{rules}
use Rattle.archive_types.proofs.Copying.BulkWritten.{owned_refused, owned_too_far, owned_in_bulk}
use Rattle.archive_types.proofs.Planning.Causes.{err_by}
use Rattle.archive_types.proofs.Planning.Owners.{far_vec_refused}
use Rattle.archive_types.proofs.vec.ArchivedVec.serialize_from_slice.Goals as goal

pub returns-in_err-pos-2-clause-outcome : goal.returns-in_err-pos-2-clause-outcome
returns-in_err-pos-2-clause-outcome g c = record {
  serialized = search rules;
  same_value = search rules;
  goes_on = c.in_ok-pos.ensures.outcome.goes_on;
  refused = err_by c.from_residual-in_err-pos-2.result c.in_err-pos-2.field-0.0 _ c.from_residual-in_err-pos-2.ensures.1
      (rw (c.in_err-pos-2.ensures.refused.0) (far_vec_refused _ _ _ _ _ c.in_ok-pos.pos _ _ c.in_err-pos-2.ensures.refused.1 c.in_ok-pos.ensures.outcome.serialized));
}

pub returns-in_err-pos-clause-in_bulk : goal.returns-in_err-pos-clause-in_bulk
returns-in_err-pos-clause-in_bulk g c = owned_refused g.T.Portable.layout c.args.value.now _ _ _ g.S.Writer.takes_memory g.U.Archive.in_bulk
    c.from_residual.result c.in_err-pos.field-0.0 c.from_residual.ensures.1 c.in_err-pos.ensures.in_bulk

pub returns-in_err-pos-2-clause-in_bulk : goal.returns-in_err-pos-2-clause-in_bulk
returns-in_err-pos-2-clause-in_bulk g c = owned_too_far g.T.Portable.layout c.args.value.now _ _ _ g.S.Writer.takes_memory g.U.Archive.in_bulk
    c.from_residual-in_err-pos-2.result c.in_ok-pos.pos c.in_err-pos-2.field-0.0 c.from_residual-in_err-pos-2.ensures.1 c.in_err-pos-2.ensures.refused c.in_ok-pos.ensures.in_bulk

pub returns-clause-in_bulk : goal.returns-clause-in_bulk
returns-clause-in_bulk g c = owned_in_bulk g.T.Portable.layout c.args.value.now _ _ _ g.S.Writer.takes_memory g.U.Archive.in_bulk c.in_ok-pos.pos _ c.in_ok-pos-2.ensures.same c.in_ok-pos.ensures.in_bulk
