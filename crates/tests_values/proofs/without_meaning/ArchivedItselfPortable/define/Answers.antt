use Rattle.std.proofs.Common.{arith, subst, Err, codes}
use Rattle.archive_check.specs.Shape.{Name, definition}
use Rattle.archive_check.specs.Expressions.{table_of}
use Rattle.archive_check.specs.Words.AddAnswer.{IsAddAnswer}
use Rattle.archive_check.specs.Definitions.{defines, Extended}
use Rattle.archive_check.proofs.format.AddedDefinitions.{extended_by, not_extended}
use Rattle.tests_values.proofs.without_meaning.ArchivedItselfPortable.define.Goals as goal

abbrev itself : Name
itself = codes "ArchivedItself"

pub returns-in_err-add-clause-refused : goal.returns-in_err-add-clause-refused
returns-in_err-add-clause-refused c =
    let old = table_of c.args.defs.now in
    let answer = subst (λ X. IsAddAnswer (definition old itself) X (Err c.in_err-add.field-0.0)) c.in_ok-record_of_itself.ensures c.in_err-add.ensures.answer in
    let refused = not_extended old itself _ _ answer in
    grind (arith, refused)

pub returns-clause-added : goal.returns-clause-added
returns-clause-added c =
    let old = table_of c.args.defs.now in
    subst (λ X. Extended old (defines itself X) (table_of c.add.new.self)) c.in_ok-record_of_itself.ensures
    (extended_by _ _ _ _ c.in_ok-add.field-0 c.in_ok-add.ensures.answer c.in_ok-add.ensures.added)
