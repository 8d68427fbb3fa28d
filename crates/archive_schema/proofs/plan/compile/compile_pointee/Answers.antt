use Rattle.std.proofs.Common.{ap, subst}
use Rattle.archive_schema.specs.plan.Compilable.{CanPoint}
use Rattle.archive_schema.proofs.plan.Compilable.{can_one, can_run}
use Rattle.archive_check.specs.Expressions.{shape_of, pointee_of}
use Rattle.archive_schema.specs.plan.CompileQueue.{waits_of}
use Rattle.archive_schema.proofs.plan.Restated.{as_pointee}
use Rattle.archive_schema.proofs.plan.WaitingExpressions.{targets_queued}
use Rattle.archive_schema.proofs.plan.CompiledPointers.{leads_one, leads_run, leads_text}
use Rattle.archive_schema.proofs.plan.compile.compile_pointee.Goals as goal

pub wait-requires : goal.wait-requires
wait-requires c = can_one (subst (CanPoint c.args.names.now) (ap pointee_of c.in-One.is) c.requires)

pub wait-requires-in-Run : goal.wait-requires-in-Run
wait-requires-in-Run c = can_run (subst (CanPoint c.args.names.now) (ap pointee_of c.in-Run.is) c.requires)

pub returns-in_ok-node-in-One : goal.returns-in_ok-node-in-One
returns-in_ok-node-in-One c =
    as_pointee (ap pointee_of c.in-One.is) (leads_one (targets_queued (shape_of c.in-One.x) (waits_of c.args.queue.now) (waits_of c.wait.new.queue) c.in_ok-node-in-One.node c.in_ok-node-in-One.ensures))

pub returns-in_ok-node-in-Run : goal.returns-in_ok-node-in-Run
returns-in_ok-node-in-Run c =
    as_pointee (ap pointee_of c.in-Run.is) (leads_run (targets_queued (shape_of c.in-Run.x) (waits_of c.args.queue.now) (waits_of c.wait-in-Run.new.queue) c.in_ok-node-in-Run.node c.in_ok-node-in-Run.ensures))

pub returns-in_ok-node-in-Text : goal.returns-in_ok-node-in-Text
returns-in_ok-node-in-Text c = as_pointee (ap pointee_of c.in-Text.is) (leads_text c.in_ok-node-in-Text.ensures)
