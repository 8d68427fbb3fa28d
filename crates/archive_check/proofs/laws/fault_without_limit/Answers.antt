use Rattle.archive_check.proofs.Checks.WithoutLimit.{root_trips_free}
use Rattle.archive_check.proofs.laws.fault_without_limit.Goals as goal

pub returns : goal.returns
returns c s bytes limit root X fault trips other = root_trips_free s bytes other trips
