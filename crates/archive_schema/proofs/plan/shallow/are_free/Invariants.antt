use Rattle.std.proofs.Common.{◌≡◌, drop}
use Rattle.archive_schema.specs.plan.Shallow.{parts_free}
use Rattle.archive_schema.proofs.plan.shallow.are_free.Given as goal

abbrev pub invariant-loop-part : goal.invariant-loop-part
invariant-loop-part l = parts_free l.nodes l.parts ≡ parts_free l.nodes (drop l.part-index l.parts)
