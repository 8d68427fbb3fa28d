use Rattle.std.proofs.Common.{sym, ap, subst, ◌∙◌}
use Rattle.archive_check.specs.Expressions.{shape_of, entries_of}
use Rattle.archive_check.specs.Shape.{definition}
use Rattle.archive_schema.proofs.SchemaDefinitions.{knows_own, listed_in}
use Rattle.archive_inspect.specs.Points.{MeantBy, means_itself, means_more}
use Rattle.archive_inspect.proofs.form.Form.meant.Goals as goal

pub loop-init : goal.loop-init
loop-init c = λ s know. means_itself

pub loop-preserved : goal.loop-preserved
loop-preserved c = λ s know.
    let schema = c.args.self.now.schema in
    means_more (subst (λ x. MeantBy s (shape_of c.args.expr.now) (shape_of x)) c.in-Named.is (c.loop.invariant s know))
    (knows_own (entries_of schema.definitions.items) s know _ _ (ap (λ t. definition t c.in-Named.name.now) (sym (c.definitions-definitions.ensures ∙ listed_in schema)) ∙ c.in-Some.ensures))
