use Rattle.std.proofs.Common.{◌≡◌, drop}
use Rattle.archive_check.specs.Shape.{definition}
use Rattle.archive_check.specs.Expressions.{entries_of}
use Rattle.archive_inspect.proofs.form.definition_of.Given as goal

abbrev pub invariant-loop-def : goal.invariant-loop-def
invariant-loop-def l = definition (entries_of l.definitions) l.name ≡ definition (entries_of (drop l.def-index l.definitions)) l.name
