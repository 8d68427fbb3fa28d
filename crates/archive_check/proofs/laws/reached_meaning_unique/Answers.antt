use Rattle.archive_check.proofs.Meanings.ReachedMeanings.{reached_meaning_one}
use Rattle.archive_check.proofs.laws.reached_meaning_unique.Goals as goal

pub returns : goal.returns
returns c s bytes root X p P n m o h k = reached_meaning_one s bytes h k
