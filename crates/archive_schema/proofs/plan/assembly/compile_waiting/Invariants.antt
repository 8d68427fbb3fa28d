use Rattle.std.proofs.Common.{◌-◌, take}
use Rattle.archive_schema.specs.plan.PlanGrowth.{lists_of}
use Rattle.archive_schema.specs.plan.CompileQueue.{waits_of, measure_of_waits}
use Rattle.archive_schema.specs.plan.Planned.{FinishesTo}
use Rattle.archive_schema.proofs.plan.assembly.compile_waiting.Given as goal

abbrev pub invariant-loop-i : goal.invariant-loop-i
invariant-loop-i l = FinishesTo l.names l.i (waits_of l.fn.queue) (waits_of l.queue) (lists_of l.fn.plan) (lists_of l.plan)

abbrev pub decreases-loop-i : goal.decreases-loop-i
decreases-loop-i l = measure_of_waits (waits_of l.queue).items - measure_of_waits (take l.i (waits_of l.queue).items)
