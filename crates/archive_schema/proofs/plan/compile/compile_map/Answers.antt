use Rattle.archive_check.specs.Expressions.{shape_of}
use Rattle.archive_schema.specs.plan.CompileQueue.{waits_of}
use Rattle.archive_schema.proofs.plan.Restated.{ok_map}
use Rattle.archive_schema.proofs.plan.WaitingExpressions.{targets_queued}
use Rattle.archive_schema.proofs.plan.CompiledPointers.{compiled_map}
use Rattle.archive_schema.proofs.plan.compile.compile_map.Goals as goal

pub returns : goal.returns
returns c =
    ok_map c.push.result c.push.ensures
    (λ j p. λ done. compiled_map (targets_queued (shape_of c.args.value.now) (waits_of c.args.queue.now) (waits_of c.wait.new.queue) c.in_ok-pointee.pointee c.in_ok-pointee.ensures) p)
