-- Written by tools/derive: change the declaration, and run it again.
use Rattle.recursive_kinds.specs.declared.bush.Bush.{out-Bush}
use Rattle.std.proofs.Common.{◌≡◌, length, arith, rules}
use Rattle.std.specs.Prelude.{◌≡◌, length}
use Rattle.recursive_kinds.proofs.bush.BushArchive.resolve.Goals as goal

pub returns : goal.returns
returns g = let same1 : g.of-h1.result.len ≡ length (out-Bush g.args.self.now).sides.items = grind (arith, g.of-h1.ensures, g.len.ensures) in let same2 : g.of-h2.result.len ≡ length (out-Bush g.args.self.now).next.items = grind (arith, g.of-h2.ensures, g.len-2.ensures) in let there = rw (same1, same2, g.new.ensures.position) at g.resolve_named_record_3.ensures in record { resolved = search (rules, there.resolved); refused = there.refused; same_length = search rules }
