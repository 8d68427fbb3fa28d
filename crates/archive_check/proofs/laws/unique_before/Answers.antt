use Rattle.archive_check.proofs.Tours.UniqueBefore.{lies_before}
use Rattle.archive_check.proofs.laws.unique_before.Goals as goal

pub returns : goal.returns
returns c s bytes q P n v p t laid l h i unique there = lies_before s bytes laid l h i unique there
