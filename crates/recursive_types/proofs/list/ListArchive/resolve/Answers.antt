-- Written by tools/derive: change the declaration, and run it again.
use Rattle.recursive_types.specs.ListMeaning.{list_nil_opens, list_cons_opens}
use Rattle.std.proofs.Common.{◌≡◌, rules}
use Rattle.std.specs.Prelude.{◌≡◌}
use Rattle.recursive_types.proofs.list.ListArchive.resolve.Goals as goal
use Rattle.recursive_types.proofs.list.ListArchive.resolve.Goals.{in-Nil, in-Cons+in-Cons-resolver}

pub returns : goal.returns
returns g = elim g.match-self.branch [
  | in-Nil w ↦ let after : g.match-self.bytes ≡ w.resolve_list_0.new.place.0 = search rules in let there = rw (w.new.ensures.position) at w.resolve_list_0.ensures in rw (w.in-Nil.is, list_nil_opens, after, w.result-is) (record { resolved = there.resolved; refused = there.refused; same_length = search rules })
  | in-Cons+in-Cons-resolver w ↦ let after : g.match-self.bytes ≡ w.resolve_list_2.new.place.0 = search rules in let there = rw (w.new-in-Cons.ensures.position) at w.resolve_list_2.ensures in rw (w.in-Cons.is, w.in-Cons-resolver.is, list_cons_opens w.in-Cons.a0 w.in-Cons._a1, after, w.result-is) (record { resolved = there.resolved; refused = there.refused; same_length = search rules })
]
