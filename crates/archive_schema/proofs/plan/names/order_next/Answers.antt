use Rattle.std.proofs.Common.{subst, Some}
use Rattle.archive_check.specs.Expressions.{entries_of}
use Rattle.archive_schema.specs.plan.Names.{NextReady}
use Rattle.archive_schema.proofs.plan.names.order_next.Goals as goal

pub returns-clause-ok : goal.returns-clause-ok
returns-clause-ok c = record {
  at = c.in-Some.i;
  def = c.remove.result;
  ready = subst (λ xs. NextReady (entries_of xs) c.args.rest.now.items (Some c.in-Some.i)) c.deref.ensures.value
      (subst (λ xs. NextReady (entries_of c.deref.result.now) xs (Some c.in-Some.i)) c.deref-2.ensures.value c.in-Some.ensures);
  is = c.remove.ensures.value;
  added = c.in_ok-push.ensures.items;
  left = c.remove.ensures.items;
}
