use Rattle.archive_check.proofs.format.LegalBytes.{encoding_unique}
use Rattle.archive_check.proofs.laws.encoding_unique.Goals as goal

pub returns : goal.returns
returns c kind a b g h i j same = encoding_unique kind a b g h i j same
