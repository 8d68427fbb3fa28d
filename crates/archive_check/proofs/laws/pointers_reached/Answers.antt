use Rattle.archive_check.proofs.Meanings.ReachedParts.{pointer_reached}
use Rattle.archive_check.proofs.laws.pointers_reached.Goals as goal

pub returns : goal.returns
returns c s bytes root X p P n w h q d = pointer_reached s bytes h q d
