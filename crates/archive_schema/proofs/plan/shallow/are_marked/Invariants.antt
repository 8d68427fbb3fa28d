use Rattle.std.proofs.Common.{◌≡◌, drop}
use Rattle.archive_schema.specs.plan.Shallow.{parts_shallow}
use Rattle.archive_schema.proofs.plan.shallow.are_marked.Given as goal

abbrev pub invariant-loop-part : goal.invariant-loop-part
invariant-loop-part l = parts_shallow l.marks l.parts ≡ parts_shallow l.marks (drop l.part-index l.parts)
