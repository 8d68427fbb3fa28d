use Rattle.archive_check.proofs.Meanings.ReachedMeanings.{part_has_meaning}
use Rattle.archive_check.proofs.laws.parts_reached_meaning.Goals as goal

pub returns : goal.returns
returns c s bytes root X a p P n i = part_has_meaning s bytes a i
