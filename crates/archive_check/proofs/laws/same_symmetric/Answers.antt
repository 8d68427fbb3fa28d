use Rattle.archive_check.proofs.Meanings.SameMeanings.{same_symmetric}
use Rattle.archive_check.proofs.laws.same_symmetric.Goals as goal

pub returns : goal.returns
returns c a b h = same_symmetric h
