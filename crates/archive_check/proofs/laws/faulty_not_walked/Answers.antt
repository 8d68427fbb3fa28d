use Rattle.archive_check.proofs.Checks.FaultyNotWalked.{root_no_walk}
use Rattle.archive_check.proofs.laws.faulty_not_walked.Goals as goal

pub returns : goal.returns
returns c s bytes limit root X fault small t w = root_no_walk s bytes small t w
