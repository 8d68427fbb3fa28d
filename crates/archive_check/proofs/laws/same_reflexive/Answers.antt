use Rattle.archive_check.proofs.Meanings.SameMeanings.{same_reflexive}
use Rattle.archive_check.proofs.laws.same_reflexive.Goals as goal

pub returns : goal.returns
returns c a = same_reflexive a
