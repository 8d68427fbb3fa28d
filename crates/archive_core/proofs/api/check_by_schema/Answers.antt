use Rattle.std.proofs.Common.{arith, inl}
use Rattle.std.proofs.lemmas.Result.{IfErr-weaker}
use Rattle.archive_schema.proofs.Archives.{answers_type}
use Rattle.archive_check.proofs.Archives.{answers_unmeant}
use Rattle.archive_core.proofs.api.check_by_schema.Goals as goal

pub returns-in_err-schema-clause-answer : goal.returns-in_err-schema-clause-answer
returns-in_err-schema-clause-answer g c whole = answers_unmeant _ _ _ _ _ c.from_residual.result c.in_err-schema.field-0.0 c.from_residual.ensures.1 (omega arith) c.in_err-schema.ensures.refused

pub returns-clause-answer : goal.returns-clause-answer
returns-clause-answer g c whole =
    answers_type c.in_ok-schema.schema g.T.Portable.shape g.T.ArchivePointee.definitions c.in_ok-schema.ensures.made c.args.bytes.now (g.C.Context.state c.args.context.now).depth c.args.pos g.met.T.Portable.no_others (omega arith) c.check.result
    (c.check.ensures.answer whole)

-- in whatever context

pub returns-clause-of_check : goal.returns-clause-of_check
returns-clause-of_check g c = IfErr-weaker c.check.result _ _ (λ e h some. inl (h some)) c.check.ensures.of_check
