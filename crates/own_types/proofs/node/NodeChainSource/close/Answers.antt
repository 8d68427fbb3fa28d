-- Written by tools/derive: change the declaration, and run it again.
use Rattle.own_types.specs.NodeMeaning.{node_kept_is}
use Rattle.std.proofs.Common.{refl}
use Rattle.std.specs.Prelude.{refl}
use Rattle.own_types.proofs.node.NodeChainSource.close.Goals as goal

pub returns : goal.returns
returns g c = rw (node_kept_is c.args.kept) refl
