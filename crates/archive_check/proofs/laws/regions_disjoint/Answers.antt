use Rattle.archive_check.proofs.Tours.RegionsApart.{rising_disjoint}
use Rattle.std.proofs.Common.{length}
use Rattle.archive_check.specs.Leaves.{regions_of}
use Rattle.archive_check.proofs.laws.regions_disjoint.Goals as goal

pub returns : goal.returns
returns c s bytes root X a = rising_disjoint 0 (regions_of a) (length bytes) a.rising
