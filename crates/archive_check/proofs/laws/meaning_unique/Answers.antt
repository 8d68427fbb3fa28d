use Rattle.archive_check.proofs.Meanings.MeaningUnique.{meaning_one}
use Rattle.archive_check.proofs.laws.meaning_unique.Goals as goal

pub returns : goal.returns
returns c s bytes root X m n h k = meaning_one s bytes h k
