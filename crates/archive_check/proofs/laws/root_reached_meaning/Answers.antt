use Rattle.archive_check.proofs.Meanings.NamesReached.{root_reached_meaning}
use Rattle.archive_check.proofs.laws.root_reached_meaning.Goals as goal

pub returns : goal.returns
returns c s bytes root X m h = root_reached_meaning s bytes h
