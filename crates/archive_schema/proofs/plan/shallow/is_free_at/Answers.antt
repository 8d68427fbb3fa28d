use Rattle.std.proofs.Common.{sym, ◌∙◌}
use Rattle.std.proofs.lemmas.Bool.{le-ltb}
use Rattle.archive_schema.proofs.plan.ShallowMarks.{free_here, free_nowhere}
use Rattle.archive_schema.proofs.plan.shallow.is_free_at.Goals as goal

pub returns-then-node-nodes : goal.returns-then-node-nodes
returns-then-node-nodes c = c.is_free.ensures ∙ sym (free_here c.args.nodes.now c.args.node c.index-nodes-node.result c.if-node-nodes.true)

pub returns-else-node-nodes : goal.returns-else-node-nodes
returns-else-node-nodes c = le-ltb _ _ c.if-node-nodes.false ∙ sym (free_nowhere c.args.nodes.now c.args.node c.if-node-nodes.false)
