-- Written by tools/derive: change the declaration, and run it again.
use Rattle.archive_core.specs.Value.{value}
use Rattle.recursive_kinds.specs.declared.bag.Bag.{out-Bag}
use Rattle.std.proofs.Common.{◌≡◌, length, arith, rules}
use Rattle.std.specs.Prelude.{◌≡◌, length}
use Rattle.recursive_kinds.proofs.bag.BagArchive.resolve.Goals as goal

pub returns : goal.returns
returns g = let same1 : g.len.result ≡ length (out-Bag g.args.self.now).inside.value.items.value.items = grind (arith, g.len.ensures) in let there = rw (same1, g.new.ensures.position) at g.resolve_named_record_2.ensures in record { resolved = search (rules, there.resolved); refused = there.refused; same_length = search rules }
