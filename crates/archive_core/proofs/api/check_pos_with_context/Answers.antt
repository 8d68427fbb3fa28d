use Rattle.std.proofs.Common.{◌∙◌, inr, inl, sym, Result, Ok, Err, IfErr}
use Rattle.archive_check.specs.declared.format.error.Error.{Error}
use Rattle.std.proofs.lemmas.Result.{on_ok_weaker, IfErr-weaker}
use Rattle.archive_core.proofs.api.check_pos_with_context.Goals as goal

pub returns-then-is_direct-clause-meaning : goal.returns-then-is_direct-clause-meaning
returns-then-is_direct-clause-meaning g c = if_err_all c.check_root.result (λ e. inr (c.check_root.ensures.meaning (sym c.is_direct.ensures ∙ c.if-is_direct.true)))
  where
    if_err_all : {P : Error → Type 0} (r : Result (Unit {0}) Error) → ((e : Error) → P e) → IfErr r P
    if_err_all (Ok u) h = tt
    if_err_all (Err e) h = h e

pub returns-then-is_direct-clause-answer : goal.returns-then-is_direct-clause-answer
returns-then-is_direct-clause-answer g c whole =
    let direct = sym c.is_direct.ensures ∙ c.if-is_direct.true in
    record {
      accepted = on_ok_weaker c.check_root.result (λ h. h whole) (c.check_root.ensures.accepted direct);
      refused = IfErr-weaker c.check_root.result _ _ (λ e h. h whole) (c.check_root.ensures.refused direct);
      exact = IfErr-weaker c.check_root.result _ _ (λ e h. h whole) (c.check_root.ensures.exact direct);
    }

-- in whatever context

pub returns-then-is_direct-clause-of_check : goal.returns-then-is_direct-clause-of_check
returns-then-is_direct-clause-of_check g c = IfErr-weaker c.check_root.result _ _ (λ e h some. inl (h some)) (c.check_root.ensures.of_check (sym c.is_direct.ensures ∙ c.if-is_direct.true))
