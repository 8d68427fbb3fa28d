use Rattle.std.proofs.Common.{arith}
use Rattle.std.proofs.lemmas.Result.{on_ok_weaker, IfErr-weaker}
use Rattle.archive_schema.specs.Schemas.{IsSchemaOf}
use Rattle.archive_schema.proofs.Archives.{answers_type}
use Rattle.archive_core.proofs.api.kept.Access.check_pos_with_context.Goals as goal

pub returns-in-None-clause-answer : goal.returns-in-None-clause-answer
returns-in-None-clause-answer g c whole =
    let direct = rw c.in-None.is at c.args.self.now.needed in
    record {
      accepted = on_ok_weaker c.check_root.result (λ h. h whole) (c.check_root.ensures.accepted direct);
      refused = IfErr-weaker c.check_root.result _ _ (λ e h. h whole) (c.check_root.ensures.refused direct);
      exact = IfErr-weaker c.check_root.result _ _ (λ e h. h whole) (c.check_root.ensures.exact direct);
    }

pub returns-in-Some-clause-answer : goal.returns-in-Some-clause-answer
returns-in-Some-clause-answer g c whole =
    let made : IsSchemaOf c.in-Some.schema g.T.Portable.shape g.T.ArchivePointee.definitions = rw c.in-Some.is at c.args.self.now.made in
    answers_type c.in-Some.schema g.T.Portable.shape g.T.ArchivePointee.definitions made c.args.bytes.now (g.C.Context.state c.args.context.now).depth c.args.pos g.met.T.Portable.no_others (omega (arith, c.if-prove.false)) c.check.result
    (c.check.ensures.answer whole)

pub returns-in-None-clause-of_check : goal.returns-in-None-clause-of_check
returns-in-None-clause-of_check g c = c.check_root.ensures.of_check (rw c.in-None.is at c.args.self.now.needed)
