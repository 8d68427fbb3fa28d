use Rattle.archive_types.proofs.Planning.Causes.{err_by, goes_both}
use Rattle.archive_types.proofs.SharedValues.SharedCauses.{finished_served}
use Rattle.archive_types.proofs.SharedValues.SharedWritten.{far_shared_refused}
use Rattle.archive_core.proofs.recursive.KeysBegun.{finished_since, shared_lies}
use Rattle.archive_core.proofs.recursive.sharing.end_shared.Goals as goal

pub returns-in_err-finish_sharing-clause-goes_on : goal.returns-in_err-finish_sharing-clause-goes_on
returns-in_err-finish_sharing-clause-goes_on g c = record {
  since = λ old low b go. absurd (finished_served old.states low.states _ c.args.key _ _ (b.unknown) (b.pending) (go.known) c.finish_sharing.ensures.answer c.in_err-finish_sharing.was);
}

pub returns-in_err-finish_sharing-clause-refused : goal.returns-in_err-finish_sharing-clause-refused
returns-in_err-finish_sharing-clause-refused g c = err_by c.from_residual.result c.in_err-finish_sharing.field-0.0 _ c.from_residual.ensures.1 (record {
  since = λ D flavor P n ks v old low b go h. absurd (finished_served old.states low.states _ c.args.key _ _ (b.unknown) (b.pending) (go.known) c.finish_sharing.ensures.answer c.in_err-finish_sharing.was);
})

pub returns-in_err-close_shared-clause-goes_on : goal.returns-in_err-close_shared-clause-goes_on
returns-in_err-close_shared-clause-goes_on g c = record {
  since = λ old low b go. goes_both _ _ _ (finished_since old low _ _ c.args.key _ b go c.finish_sharing.ensures.bytes c.in_ok-finish_sharing.ensures.after) c.close_shared.ensures.goes_on;
}

pub returns-in_err-close_shared-clause-refused : goal.returns-in_err-close_shared-clause-refused
returns-in_err-close_shared-clause-refused g c = err_by c.from_residual-in_err-close_shared.result c.in_err-close_shared.field-0.0 _ c.from_residual-in_err-close_shared.ensures.1 (record {
  since = λ D flavor P n ks v old low b go h. c.in_err-close_shared.ensures.refused.since D flavor P n c.args.key ks v old
      (shared_lies D P n c.args.key ks v c.args.pos old low _ _ b h c.finish_sharing.ensures.bytes c.in_ok-finish_sharing.ensures.after)
      (finished_since old low _ _ c.args.key _ b go c.finish_sharing.ensures.bytes c.in_ok-finish_sharing.ensures.after);
})

pub returns-then-pos-gt4294967295-clause-goes_on : goal.returns-then-pos-gt4294967295-clause-goes_on
returns-then-pos-gt4294967295-clause-goes_on g c = record {
  since = λ old low b go. goes_both _ _ _ (finished_since old low _ _ c.args.key _ b go c.finish_sharing.ensures.bytes c.in_ok-finish_sharing.ensures.after) c.close_shared.ensures.goes_on;
}

pub returns-then-pos-gt4294967295-clause-refused : goal.returns-then-pos-gt4294967295-clause-refused
returns-then-pos-gt4294967295-clause-refused g c = record {
  since = λ D flavor P n ks v old low b go h. far_shared_refused D flavor P n c.args.pos _ _ old _ (c.in_ok-close_shared.ensures.closed.since D flavor P n c.args.key ks v old
      (shared_lies D P n c.args.key ks v c.args.pos old low _ _ b h c.finish_sharing.ensures.bytes c.in_ok-finish_sharing.ensures.after)) c.if-pos-gt4294967295.true;
}

pub returns-clause-goes_on : goal.returns-clause-goes_on
returns-clause-goes_on g c = record {
  since = λ old low b go. goes_both _ _ _ (finished_since old low _ _ c.args.key _ b go c.finish_sharing.ensures.bytes c.in_ok-finish_sharing.ensures.after) c.close_shared.ensures.goes_on;
}

pub returns-clause-ended : goal.returns-clause-ended
returns-clause-ended g c = (
  c.from_pos.ensures,
  record {
    since = λ D flavor P n ks v old low b go h. c.in_ok-close_shared.ensures.closed.since D flavor P n c.args.key ks v old
        (shared_lies D P n c.args.key ks v c.args.pos old low _ _ b h c.finish_sharing.ensures.bytes c.in_ok-finish_sharing.ensures.after);
  },
)
