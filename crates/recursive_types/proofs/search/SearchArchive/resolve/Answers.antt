-- Written by tools/derive: change the declaration, and run it again.
use Rattle.std.proofs.Common.{rules}
use Rattle.recursive_types.proofs.search.SearchArchive.resolve.Goals as goal

pub returns : goal.returns
returns g = let there = rw (g.new.ensures.position) at g.resolve_named_record_3.ensures in record { resolved = search (rules, there.resolved); refused = there.refused; same_length = search rules }
