use Rattle.archive_check.proofs.Meanings.ReachedParts.{within_reached}
use Rattle.archive_check.proofs.laws.within_reached.Goals as goal

pub returns : goal.returns
returns c s bytes root X p n Y w q Z h i = within_reached s bytes h i
