use Rattle.std.proofs.Common.{◌≡◌, All}
use Rattle.archive_inspect.specs.declared.describe.Content.TheVariants.{Unused}
use Rattle.archive_inspect.proofs.describe.gaps.Given as goal

abbrev pub invariant-loop-part : goal.invariant-loop-part
invariant-loop-part l = All (λ x. x.content ≡ Unused) l.gaps.items
