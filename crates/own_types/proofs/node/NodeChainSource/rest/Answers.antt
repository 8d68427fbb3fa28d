-- Written by tools/derive: change the declaration, and run it again.
use Rattle.own_types.specs.NodeMeaning.{node_nil_opens, node_cons_opens}
use Rattle.std.proofs.Common.{refl}
use Rattle.std.specs.Prelude.{refl}
use Rattle.own_types.proofs.node.NodeChainSource.rest.Goals as goal

pub returns-in-Nil : goal.returns-in-Nil
returns-in-Nil g c = rw (c.in-Nil.is, node_nil_opens) refl

pub returns-in-Cons : goal.returns-in-Cons
returns-in-Cons g c = rw (c.in-Cons.is, (node_cons_opens c.in-Cons.a0), c.deref.ensures) refl
