-- Written by tools/derive: change the declaration, and run it again.
use Rattle.own_types.specs.NodeMeaning.{node_front_is, node_cons_means, node_cons_has_keys}
use Rattle.own_types.proofs.node.NodeChainBackArchivedNode.around.Goals as goal

pub returns-clause-meaning : goal.returns-clause-meaning
returns-clause-meaning g c = rw (node_front_is c.args.front) (node_cons_means c.args.rest)

pub returns-clause-keys : goal.returns-clause-keys
returns-clause-keys g c = rw (node_front_is c.args.front) (node_cons_has_keys c.args.rest)
