use Rattle.archive_inspect.proofs.describe.told.shared_at.Goals as goal

pub returns : goal.returns
returns c = c.in_ok-pointer.ensures
