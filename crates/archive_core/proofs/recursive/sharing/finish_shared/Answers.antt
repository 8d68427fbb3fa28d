use Rattle.std.proofs.lemmas.Result.{IfOk-weaker, IfErr-weaker}
use Rattle.archive_check.specs.Shape.{one}
use Rattle.archive_types.proofs.Planning.Causes.{err_by, goes_both}
use Rattle.archive_core.proofs.recursive.KeysBegun.{begun_since, region_refused}
use Rattle.archive_core.proofs.recursive.sharing.finish_shared.Goals as goal

pub returns-in_err-pos-clause-goes_on : goal.returns-in_err-pos-clause-goes_on
returns-in_err-pos-clause-goes_on g c = record { since = λ old low b go. begun_since old low _ c.args.key b (goes_both _ _ _ go c.write_region.ensures.goes_on) }

pub returns-in_err-pos-clause-refused : goal.returns-in_err-pos-clause-refused
returns-in_err-pos-clause-refused g c = err_by c.from_residual.result c.in_err-pos.field-0.0 _ c.from_residual.ensures.1 (record {
  since = λ flavor old low b go h. region_refused _ _ 0 c.args.key _ _ flavor old low _ _ b (goes_both _ _ _ go c.write_region.ensures.goes_on) (c.in_err-pos.ensures.refused.since low go h);
})

pub returns-clause-shared : goal.returns-clause-shared
returns-clause-shared g c = IfOk-weaker c.end_shared.result _ _ (λ t k. rw (k.0) (record {
  since = λ flavor old low b go h. k.1.since _ flavor (one _) 0 _ _ old low b (goes_both _ _ _ go c.write_region.ensures.goes_on) (c.in_ok-pos.ensures.region.since low go h);
})) c.end_shared.ensures.ended

pub returns-clause-goes_on : goal.returns-clause-goes_on
returns-clause-goes_on g c = record { since = λ old low b go. c.end_shared.ensures.goes_on.since old low b (goes_both _ _ _ go c.write_region.ensures.goes_on) }

pub returns-clause-refused : goal.returns-clause-refused
returns-clause-refused g c = IfErr-weaker c.end_shared.result _ _ (λ e k. record {
  since = λ flavor old low b go h. k.since _ flavor (one _) 0 _ _ old low b (goes_both _ _ _ go c.write_region.ensures.goes_on) (c.in_ok-pos.ensures.region.since low go h);
}) c.end_shared.ensures.refused
