use Rattle.std.proofs.Common.{subst}
use Rattle.std.proofs.lemmas.Result.{IfOk-weaker}
use Rattle.archive_schema.proofs.SchemaDefinitions.{schema_meaning}
use Rattle.archive_inspect.specs.Explained.{IsExplained}
use Rattle.archive_inspect.proofs.Explained.{explains}
use Rattle.archive_inspect.proofs.explain.explain_with.Goals as goal

pub returns : goal.returns
returns c = IfOk-weaker c.explained.result _ _
    (λ explanation h L known. let f = c.args.form.now.schema in
    explains _ c.args.bytes.now _ _ (schema_meaning f).well_formed f (λ e place p. p) c.check_archive-answer.result explanation
    ((rw c.schema.ensures at c.check_archive-answer.ensures) L known)
    (subst (λ r. IsExplained f c.args.bytes.now r c.check_archive-answer.result explanation) ((rw c.schema-2.ensures at c.root_position-root.ensures.position) L known) h))
    c.explained.ensures
