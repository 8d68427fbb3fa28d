-- Written by tools/derive: change the declaration, and run it again.
use Rattle.own_types.specs.NodeMeaning.{node_nil_opens, node_cons_opens}
use Rattle.std.proofs.Common.{◌≡◌, rules}
use Rattle.std.specs.Prelude.{◌≡◌}
use Rattle.own_types.proofs.node.NodeArchive.resolve.Goals as goal
use Rattle.own_types.proofs.node.NodeArchive.resolve.Goals.{in-Nil, in-Cons+in-Cons-resolver}

pub returns : goal.returns
returns g = elim g.match-self.branch [
  | in-Nil w ↦ let after : g.match-self.bytes ≡ w.resolve_node_0.new.place.0 = search rules in let there = rw (w.new.ensures.position) at w.resolve_node_0.ensures in rw (w.in-Nil.is, node_nil_opens, after, w.result-is) (record { resolved = there.resolved; refused = there.refused; same_length = search rules })
  | in-Cons+in-Cons-resolver w ↦ let after : g.match-self.bytes ≡ w.resolve_node_1.new.place.0 = search rules in let there = rw (w.new-in-Cons.ensures.position) at w.resolve_node_1.ensures in rw (w.in-Cons.is, w.in-Cons-resolver.is, node_cons_opens w.in-Cons._a0, after, w.result-is) (record { resolved = there.resolved; refused = there.refused; same_length = search rules })
]
