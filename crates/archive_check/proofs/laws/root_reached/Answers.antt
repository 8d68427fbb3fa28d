use Rattle.archive_check.proofs.Meanings.ReachedParts.{root_reached}
use Rattle.archive_check.proofs.laws.root_reached.Goals as goal

pub returns : goal.returns
returns c s bytes root X m h = root_reached s bytes h
