use Rattle.std.proofs.Common.{inr, ⊎_elim, ap, ◌∙◌, [], ◌∷◌}
use Rattle.archive_schema.specs.plan.CompileQueue.{waits_in}
use Rattle.archive_schema.proofs.plan.WaitingExpressions.{waits_in-append, no_name}
use Rattle.archive_check.specs.Expressions.{shape_of}
use Rattle.archive_schema.proofs.plan.Compilable.{wait_name}
use Rattle.archive_schema.proofs.plan.queue.wait.Goals as goal

pub known_node-requires : goal.known_node-requires
known_node-requires c = wait_name c.requires c.in-Named.name.now (ap shape_of c.in-Named.is)

pub root-requires : goal.root-requires
root-requires c = wait_name c.requires

pub returns : goal.returns
returns c = ⊎_elim
    (λ r. absurd (no_name c.args.expr.now c.in_default.not-Named r.0 r.1))
    (λ r. inr (record {
      node_is = r.0;
      begins = r.1;
      items_are = ap waits_in c.in_ok-push.ensures.items ∙ waits_in-append c.args.queue.now.items.items (record { expr = c.args.expr; node = c.in_ok-node.node } ∷ []);
      next_is = c.in_ok-node.ensures.1;
    }))
    c.in_ok-node.ensures.0
