use Rattle.std.proofs.Common.{◌≡◌, length}
use Rattle.archive_schema.specs.plan.Shallow.{AreShallow, AreAllMarked}
use Rattle.archive_schema.proofs.plan.shallow.shallow_nodes.Given as goal

abbrev pub invariant-loop-node : goal.invariant-loop-node
invariant-loop-node l =
    (length l.marks.items ≡ l.node-index)
    × AreShallow l.plan.nodes.items l.plan.parts.items l.plan.variants.items l.marks.items
    × AreAllMarked l.plan.nodes.items l.plan.parts.items l.plan.variants.items l.marks.items
