use Rattle.archive_check.proofs.Meanings.ReachedParts.{reached_one}
use Rattle.archive_check.proofs.laws.reached_unique.Goals as goal

pub returns : goal.returns
returns c s bytes root X p P n v w h k = reached_one s bytes h k
