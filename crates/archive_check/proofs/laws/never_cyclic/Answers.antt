use Rattle.std.proofs.Common.{None}
use Rattle.archive_check.proofs.Unshared as unshared
use Rattle.archive_check.proofs.laws.never_cyclic.Goals as goal

pub returns : goal.returns
returns c D bytes root X told never a cyclic = unshared.never_cyclic D bytes None root X told never a cyclic
