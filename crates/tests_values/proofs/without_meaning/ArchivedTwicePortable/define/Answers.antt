use Rattle.archive_check.specs.Members.NamedLayout.{leaves_differ}
use Rattle.archive_check.proofs.format.AddedDefinitions.{first_refused, second_refused, second_never}
use Rattle.archive_types.proofs.Planning.Causes.{err_by}
use Rattle.tests_values.proofs.without_meaning.ArchivedTwicePortable.define.Goals as goal

pub returns-in_err-add-clause-refused : goal.returns-in_err-add-clause-refused
returns-in_err-add-clause-refused c = err_by c.from_residual.result c.in_err-add.field-0.0 _ c.from_residual.ensures.1 (first_refused _ _ _ _ _ c.in_err-add.ensures.answer)

pub returns-in_err-add-2-clause-refused : goal.returns-in_err-add-2-clause-refused
returns-in_err-add-2-clause-refused c = err_by c.from_residual-in_err-add-2.result c.in_err-add-2.field-0.0 _ c.from_residual-in_err-add-2.ensures.1
    (second_refused _ _ _ _ _ leaves_differ _ _ c.in_ok-add.ensures.answer c.in_ok-add.ensures.added c.in_err-add-2.ensures.answer)

pub returns-clause-added : goal.returns-clause-added
returns-clause-added c = absurd (second_never _ _ _ _ _ leaves_differ _ _ c.in_ok-add.ensures.answer c.in_ok-add.ensures.added c.in_ok-add-2.ensures.answer)
