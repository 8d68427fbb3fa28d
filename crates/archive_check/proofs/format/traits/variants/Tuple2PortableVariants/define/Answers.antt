use Rattle.std.proofs.lemmas.Result.{IfErr-weaker}
use Rattle.archive_check.specs.Expressions.{table_of}
use Rattle.archive_check.proofs.format.RecordParts.{err_is}
use Rattle.archive_check.proofs.format.AddedDefinitions.{first_conflicts, later_conflicts}
use Rattle.archive_check.proofs.format.traits.variants.Tuple2PortableVariants.define.Goals as goal

pub returns-in_err-define-clause-refused : goal.returns-in_err-define-clause-refused
returns-in_err-define-clause-refused g c =
    err_is c.from_residual.result c.in_err-define.field-0.0 _ c.from_residual.ensures.1
    (first_conflicts (table_of c.args.defs.now) g.P.CheckedParts.definitions g.V.CheckedVariants.definitions c.in_err-define.field-0.0 c.in_err-define.ensures.refused)

pub returns-clause-refused : goal.returns-clause-refused
returns-clause-refused g c =
    IfErr-weaker c.define-2.result _ _ (later_conflicts (table_of c.args.defs.now) (table_of c.define.new.defs) g.P.CheckedParts.definitions g.V.CheckedVariants.definitions c.in_ok-define.ensures.added)
    c.define-2.ensures.refused
