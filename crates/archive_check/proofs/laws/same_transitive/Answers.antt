use Rattle.archive_check.proofs.Meanings.SameMeanings.{same_transitive}
use Rattle.archive_check.proofs.laws.same_transitive.Goals as goal

pub returns : goal.returns
returns c a b d h k = same_transitive h k
