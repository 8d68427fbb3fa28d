-- Written by tools/derive: change the declaration, and run it again.
use Rattle.recursive_types.specs.DirMeaning.{entry_file_opens, entry_sub_opens}
use Rattle.std.proofs.Common.{◌≡◌, rules}
use Rattle.std.specs.Prelude.{◌≡◌}
use Rattle.recursive_types.proofs.dir.EntryArchive.resolve.Goals as goal
use Rattle.recursive_types.proofs.dir.EntryArchive.resolve.Goals.{in-File+in-File-resolver, in-Sub+in-Sub-resolver}

pub returns : goal.returns
returns g = elim g.match-self.branch [
  | in-File+in-File-resolver w ↦ let after : g.match-self.bytes ≡ w.resolve_entry_1.new.place.0 = search rules in let there = rw (w.new.ensures.position) at w.resolve_entry_1.ensures in rw (w.in-File.is, w.in-File-resolver.is, entry_file_opens w.in-File.a0, after, w.result-is) (record { resolved = there.resolved; refused = there.refused; same_length = search rules })
  | in-Sub+in-Sub-resolver w ↦ let after : g.match-self.bytes ≡ w.resolve_entry_1-in-Sub.new.place.0 = search rules in let there = rw (w.new-in-Sub.ensures.position) at w.resolve_entry_1-in-Sub.ensures in rw (w.in-Sub.is, w.in-Sub-resolver.is, entry_sub_opens w.in-Sub._a0, after, w.result-is) (record { resolved = there.resolved; refused = there.refused; same_length = search rules })
]
