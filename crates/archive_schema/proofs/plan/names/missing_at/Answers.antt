use Rattle.std.proofs.Common.{◌∙◌, ap, sym, true}
use Rattle.archive_check.specs.declared.format.defs.Def.{Def}
use Rattle.archive_check.specs.Expressions.{shape_of, entries_of}
use Rattle.archive_check.specs.MissingNames.{missing as missing_in}
use Rattle.archive_schema.proofs.plan.CollectedDefinitions.{shape_behind}
use Rattle.archive_schema.proofs.plan.names.missing_at.Goals as goal

pub returns : goal.returns
returns c = λ X e.
    c.missing-2.ensures
    ∙ ap (λ (d : Def). missing_in true (entries_of c.args.defs.now) (shape_of d.expr)) (sym c.index-defs-at.is)
    ∙ ap (missing_in true (entries_of c.args.defs.now)) (shape_behind (shape_of c.args.root.now) c.args.defs.now c.args.at c.index-defs-at.result X c.if-at-eq0.false c.requires c.index-defs-at.is e)
