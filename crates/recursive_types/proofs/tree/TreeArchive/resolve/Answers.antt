-- Written by tools/derive: change the declaration, and run it again.
use Rattle.recursive_types.specs.declared.tree.Tree.{out-Tree}
use Rattle.std.proofs.Common.{◌≡◌, length, arith, rules}
use Rattle.std.specs.Prelude.{◌≡◌, length}
use Rattle.recursive_types.proofs.tree.TreeArchive.resolve.Goals as goal

pub returns : goal.returns
returns g = let same1 : g.of-h1.result.len ≡ length (out-Tree g.args.self.now).children.items = grind (arith, g.of-h1.ensures, g.len.ensures) in let there = rw (same1, g.new.ensures.position) at g.resolve_named_record_2.ensures in record { resolved = search (rules, there.resolved); refused = there.refused; same_length = search rules }
