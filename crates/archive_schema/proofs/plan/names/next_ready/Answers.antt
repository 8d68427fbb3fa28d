use Rattle.std.proofs.Common.{sym, ap, ◌∙◌, false}
use Rattle.archive_check.specs.declared.format.defs.Def.{Def}
use Rattle.archive_check.specs.Expressions.{shape_of, entries_of}
use Rattle.archive_check.specs.MissingNames.{missing}
use Rattle.archive_schema.proofs.plan.ArrangedDefinitions.{not_ready}
use Rattle.archive_schema.proofs.plan.names.next_ready.Goals as goal

pub loop-i-preserved : goal.loop-i-preserved
loop-i-preserved c =
    not_ready (entries_of c.args.placed.now) c.args.rest.now c.loop-i.i c.index-rest-i.result c.missing.result c.loop-i-test.true c.index-rest-i.is
    (c.missing.ensures ∙ ap (λ (d : Def). missing false (entries_of c.args.placed.now) (shape_of d.expr)) (sym c.index-rest-i.is)) c.if-is_none.ensures c.loop-i.invariant
