use Rattle.archive_check.proofs.Maps.NoKeySealed.{come_to_free}
use Rattle.archive_check.proofs.laws.come_to_free.Goals as goal

pub returns : goal.returns
returns c s bytes root X q P n x laid a h low high = come_to_free s laid bytes a x h low high
