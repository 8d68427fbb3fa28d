use Rattle.archive_check.proofs.Checks.AcceptedWalks.{walked, walks}
use Rattle.archive_check.proofs.laws.accepted_where_walked.Goals as goal

pub returns : goal.returns
returns c s bytes limit root X = (walks s bytes limit root X, walked s bytes limit root X)
