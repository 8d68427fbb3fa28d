use Rattle.archive_check.proofs.Viewing.Viewed.{reached_says}
use Rattle.archive_check.proofs.laws.said_reached.Goals as goal

pub returns : goal.returns
returns c D bytes q P n w h s root X u k r = reached_says D bytes q P n w s u h k r
