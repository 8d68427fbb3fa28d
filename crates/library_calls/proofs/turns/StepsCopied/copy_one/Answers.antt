-- Written by tools/derive: change the declaration, and run it again.
use Rattle.std.proofs.Common.{refl}
use Rattle.archive_core.proofs.fields.CloseFields.{copied_record}
use Rattle.library_calls.proofs.turns.StepsCopied.copy_one.Goals as goal

pub returns-clause-read : goal.returns-clause-read
returns-clause-read c = copied_record _ (record { solved = λ s k. refl }) refl (refl, (refl, tt)) refl c.copy_2.ensures.read
