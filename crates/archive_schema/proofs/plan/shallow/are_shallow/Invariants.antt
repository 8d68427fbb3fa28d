use Rattle.std.proofs.Common.{◌≡◌, drop}
use Rattle.archive_schema.specs.plan.Shallow.{variants_shallow, HasSpans}
use Rattle.archive_schema.proofs.plan.shallow.are_shallow.Given as goal

abbrev pub invariant-loop-variant : goal.invariant-loop-variant
invariant-loop-variant l =
    (variants_shallow l.marks l.parts l.variants ≡ variants_shallow l.marks l.parts (drop l.variant-index l.variants))
    × (HasSpans l.parts l.variants → HasSpans l.parts (drop l.variant-index l.variants))
