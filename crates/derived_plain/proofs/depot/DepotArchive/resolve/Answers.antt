-- Written by tools/derive: change the declaration, and run it again.
use Rattle.std.proofs.Common.{rules}
use Rattle.derived_plain.proofs.depot.DepotArchive.resolve.Goals.{in-Free, in-Sent+in-Sent-resolver}
use Rattle.derived_plain.proofs.depot.DepotArchive.resolve.Goals as goal

pub returns : goal.returns
returns c = elim c.match-self.branch [ in-Free w ↦ search rules | in-Sent+in-Sent-resolver w ↦ grind (w.resolve_case.ensures, w.bytes-is, w.result-is, rules) ]
