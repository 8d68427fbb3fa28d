use Rattle.archive_types.specs.Causes.{no_memory}
use Rattle.archive_types.proofs.Planning.Causes.{err_by}
use Rattle.archive_types.proofs.SharedValues.SharedCauses.{shared_hindered, laid_shared, started_unknown, pending_known, finished_served}
use Rattle.archive_types.proofs.sharing.SharingExt.serialize_shared.Goals as goal

pub returns-in_err-start_sharing-clause-refused : goal.returns-in_err-start_sharing-clause-refused
returns-in_err-start_sharing-clause-refused g c none = err_by c.from_residual.result c.in_err-start_sharing.field-0.0 _ c.from_residual.ensures.1 (rw (c.in_err-start_sharing.ensures.refusal.0) no_memory)

pub returns-in-Err-clause-refused : goal.returns-in-Err-clause-refused
returns-in-Err-clause-refused g c none = rw (c.by_words.ensures)
    (shared_hindered _ _ _ _ _ c.args.key _ _ _ _ none c.start_sharing.ensures.bytes c.in_ok-start_sharing.ensures.after
    c.serialize_unsized.ensures.goes_on c.in-Err.ensures.refused)

pub returns-in-Pending-clause-refused : goal.returns-in-Pending-clause-refused
returns-in-Pending-clause-refused g c none = (let pending = pending_known _ _ c.in_ok-start_sharing.ensures.answer c.in-Pending.is in cc)

pub returns-in_err-finish_sharing-in-Started-clause-goes_on : goal.returns-in_err-finish_sharing-in-Started-clause-goes_on
returns-in_err-finish_sharing-in-Started-clause-goes_on g c = absurd (finished_served (g.Self.Keys.state c.args.self.now).states _ _ c.args.key _ _
    (started_unknown _ _ c.in_ok-start_sharing.ensures.answer c.in-Started.is) c.in_ok-start_sharing.ensures.after c.serialize_unsized.ensures.goes_on.known c.finish_sharing.ensures.answer c.in_err-finish_sharing-in-Started.was)

pub returns-in_ok-finish_sharing-in-Started-clause-serialized : goal.returns-in_ok-finish_sharing-in-Started-clause-serialized
returns-in_ok-finish_sharing-in-Started-clause-serialized g c none = laid_shared _ _ _ _ _ c.args.key _ _ _ _ _ none c.start_sharing.ensures.bytes c.in_ok-start_sharing.ensures.after
    c.in-Ok.ensures.serialized c.finish_sharing.ensures.bytes c.in_ok-finish_sharing-in-Started.ensures.after
