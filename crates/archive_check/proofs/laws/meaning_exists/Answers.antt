use Rattle.archive_check.proofs.Meanings.MeaningExists.{has_meaning}
use Rattle.archive_check.proofs.laws.meaning_exists.Goals as goal

pub returns : goal.returns
returns c s bytes root X a = has_meaning s bytes a
