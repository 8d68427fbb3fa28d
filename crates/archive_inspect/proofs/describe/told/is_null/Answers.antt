use Rattle.std.proofs.Common.{rules}
use Rattle.archive_inspect.proofs.describe.told.is_null.Goals as goal

pub returns : goal.returns
returns c = λ t. record { flavor = _; pointee = _; pointer = c.in-Some.ensures; nothing = search rules }
