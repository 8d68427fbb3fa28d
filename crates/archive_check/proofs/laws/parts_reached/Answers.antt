use Rattle.archive_check.proofs.Meanings.ReachedParts.{part_reached}
use Rattle.archive_check.proofs.laws.parts_reached.Goals as goal

pub returns : goal.returns
returns c s bytes root X a p P n h = part_reached s bytes a h
