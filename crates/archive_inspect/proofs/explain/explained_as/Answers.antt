use Rattle.std.proofs.Common.{subst}
use Rattle.archive_inspect.specs.Explained.{IsExplained}
use Rattle.archive_inspect.proofs.Explained.{explains, placed_type}
use Rattle.archive_inspect.proofs.explain.explained_as.Goals as goal

pub returns-clause-explained : goal.returns-clause-explained
returns-clause-explained g c =
    explains g.T.ArchivePointee.definitions c.args.bytes.now _ g.T.Portable.shape c.requires.well_formed c.args.form.schema (placed_type _ _ _ c.requires c.args.bytes.now _) c.check_as-answer.result c.in_ok-explanation.explanation c.check_as-answer.ensures
    (subst (λ r. IsExplained c.args.form.schema c.args.bytes.now r c.check_as-answer.result c.in_ok-explanation.explanation) c.root_position-root.ensures c.in_ok-explanation.ensures)
