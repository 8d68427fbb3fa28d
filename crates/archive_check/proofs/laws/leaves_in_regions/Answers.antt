use Rattle.archive_check.proofs.Tours.RegionsApart.{leaf_in_one}
use Rattle.archive_check.proofs.laws.leaves_in_regions.Goals as goal

pub returns : goal.returns
returns c s bytes root X laid a x h some = leaf_in_one s laid bytes root X a x h some
