use Rattle.archive_check.proofs.Meanings.SharedKnown.{shared_known}
use Rattle.archive_check.proofs.laws.shared_known.Goals as goal

pub returns : goal.returns
returns c s bytes q P n v p flavor t l m d k i e there u w h f = shared_known s bytes l d k i e there h f
