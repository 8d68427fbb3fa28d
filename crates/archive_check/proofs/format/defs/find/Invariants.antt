use Rattle.std.proofs.Common.{◌≡◌, drop}
use Rattle.archive_check.specs.Shape.{definition}
use Rattle.archive_check.specs.Expressions.{entries_of}
use Rattle.archive_check.proofs.format.defs.find.Given as goal

abbrev pub invariant-loop-def : goal.invariant-loop-def
invariant-loop-def l = definition (entries_of l.items) l.name ≡ definition (entries_of (drop l.def-index l.items)) l.name
