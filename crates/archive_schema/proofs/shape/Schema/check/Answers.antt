use Rattle.std.proofs.Common.{inl, inr, ⊎_elim, length, sym, ◌<◌, subst}
use Rattle.std.proofs.lemmas.Result.{on_ok_weaker, IfErr-weaker}
use Rattle.archive_schema.proofs.SchemaDefinitions.{schema_meaning}
use Rattle.archive_schema.proofs.PlanAnswers.{plan_accepts, plan_refuses, plan_exact, plan_known, plan_sound}
use Rattle.archive_schema.proofs.shape.Schema.check.Goals as goal

pub check-requires-clause-sound : goal.check-requires-clause-sound
check-requires-clause-sound g c =
    plan_sound c.args.self.now _ (record { nodes = c.deref.ensures.value; parts = c.deref-2.ensures.value; variants = c.deref-3.ensures.value; shared_types = c.deref-4.ensures.value })

pub check-requires-clause-known : goal.check-requires-clause-known
check-requires-clause-known g c = subst (λ xs. c.args.self.now.node < length xs) (sym c.deref.ensures.value) (plan_known c.args.self.now)

pub returns-clause-meaning : goal.returns-clause-meaning
returns-clause-meaning g c = schema_meaning c.args.self.now

pub returns-clause-answer : goal.returns-clause-answer
returns-clause-answer g c whole = record {
  accepted = on_ok_weaker c.check.result
      (λ h. plan_accepts c.args.self.now _ (record { nodes = c.deref.ensures.value; parts = c.deref-2.ensures.value; variants = c.deref-3.ensures.value; shared_types = c.deref-4.ensures.value }) _ c.args.pos (h whole))
      c.check.ensures.ok;
  refused = IfErr-weaker c.check.result _ _
      (λ e. ⊎_elim (λ memory. inl (inl memory)) (λ h. inr (plan_refuses c.args.self.now _ (record { nodes = c.deref.ensures.value; parts = c.deref-2.ensures.value; variants = c.deref-3.ensures.value; shared_types = c.deref-4.ensures.value }) _ c.args.pos e (h whole))))
      c.check.ensures.err;
  exact = plan_exact c.args.self.now _ (record { nodes = c.deref.ensures.value; parts = c.deref-2.ensures.value; variants = c.deref-3.ensures.value; shared_types = c.deref-4.ensures.value }) _ c.args.pos c.check.result
      (c.check.ensures.exact whole);
}
