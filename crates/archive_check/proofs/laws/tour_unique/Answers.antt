use Rattle.std.proofs.Common.{sym}
use Rattle.archive_check.proofs.Tours.ReadingUnique.{tour_one}
use Rattle.archive_check.proofs.laws.tour_unique.Goals as goal

pub returns : goal.returns
returns c s bytes pending seen last final O C D h k = let same = tour_one s bytes h k in (sym (same.0), sym (same.1))
