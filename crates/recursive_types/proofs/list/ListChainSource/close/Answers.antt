-- Written by tools/derive: change the declaration, and run it again.
use Rattle.recursive_types.specs.ListMeaning.{list_kept_is}
use Rattle.std.proofs.Common.{refl}
use Rattle.std.specs.Prelude.{refl}
use Rattle.recursive_types.proofs.list.ListChainSource.close.Goals as goal

pub returns : goal.returns
returns g c = rw (list_kept_is c.args.kept) refl
