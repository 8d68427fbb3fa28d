use Rattle.archive_schema.proofs.check.Entries.{read_at}
use Rattle.archive_schema.proofs.check.FollowedPointers.{leads_back}
use Rattle.archive_schema.proofs.check.Checker.leads_back.Goals as goal

pub returns : goal.returns
returns g c = λ k numbered so.
    let position = read_at (record { sfits = c.read_position-position.type_inv }) c.read_position-position.ensures in
    leads_back c.length-length.ensures position c.is_finished_as.ensures numbered so
