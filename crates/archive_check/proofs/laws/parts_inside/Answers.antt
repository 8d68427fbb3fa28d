use Rattle.archive_check.proofs.Tours.PartsInside.{within_inside}
use Rattle.archive_check.proofs.laws.parts_inside.Goals as goal

pub returns : goal.returns
returns c s bytes p X q Y laid w = within_inside s laid w
