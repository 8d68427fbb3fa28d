-- Written by tools/derive: change the declaration, and run it again.
use Rattle.archive_core.specs.Shape.{parts}
use Rattle.recursive_kinds.specs.declared.rule.Rule.{out-Rule}
use Rattle.std.proofs.Common.{◌≡◌, length, arith, rules}
use Rattle.std.specs.Prelude.{◌≡◌, length}
use Rattle.recursive_kinds.proofs.rule.RuleArchive.resolve.Goals as goal

pub returns : goal.returns
returns g = let same4 : g.of-h4.result.len ≡ length (out-Rule g.args.self.now).parts.items.items = grind (arith, g.of-h4.ensures, g.len.ensures) in let there = rw (same4, g.new.ensures.position) at g.resolve_named_record_5.ensures in record { resolved = search (rules, there.resolved); refused = there.refused; same_length = search rules }
