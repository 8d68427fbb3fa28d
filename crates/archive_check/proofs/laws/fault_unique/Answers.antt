use Rattle.archive_check.proofs.Checks.FaultUnique.{root_one_fault}
use Rattle.archive_check.proofs.laws.fault_unique.Goals as goal

pub returns : goal.returns
returns c s bytes limit root X e f small t u = root_one_fault s bytes small t u
