use Rattle.archive_core.specs.Expressions.{table_of}
use Rattle.archive_core.proofs.RecordParts.{err_is}
use Rattle.archive_core.proofs.AddedDefinitions.{record_refused, record_extended}
use Rattle.tests_whole.specs.LoopShape.{loop_name, loop_choice}
use Rattle.tests_whole.proofs.archive.endless.ArchivedLoopPortable.define.Goals as goal

pub returns-in_err-add-clause-refused : goal.returns-in_err-add-clause-refused
returns-in_err-add-clause-refused c = err_is c.from_residual-in_err-add.result c.in_err-add.field-0.0 _ c.from_residual-in_err-add.ensures.1
    (record_refused (table_of c.args.defs.now) loop_name _ loop_choice c.in_ok-definition.ensures c.in_err-add.field-0.0 c.in_err-add.ensures.answer)

pub returns-clause-added : goal.returns-clause-added
returns-clause-added c = record_extended (table_of c.args.defs.now) (table_of c.add.new.self) loop_name _ loop_choice c.in_ok-definition.ensures _ c.in_ok-add.ensures.answer c.in_ok-add.ensures.added
