use Rattle.archive_check.proofs.Meanings.ReachedParts.{element_reached}
use Rattle.archive_check.proofs.laws.elements_reached.Goals as goal

pub returns : goal.returns
returns c s bytes root X p n Y w k h below = element_reached s bytes h below
