use Rattle.std.proofs.Common.{take}
use Rattle.archive_schema.specs.plan.PlanGrowth.{lists_of}
use Rattle.archive_schema.specs.plan.CompileQueue.{waits_of}
use Rattle.archive_schema.specs.plan.NodeNumbers.{def_shapes}
use Rattle.archive_schema.specs.plan.Planned.{Chained}
use Rattle.archive_schema.proofs.plan.assembly.compile_defs.Given as goal

abbrev pub invariant-loop-i : goal.invariant-loop-i
invariant-loop-i l = Chained l.names (def_shapes (take l.i l.defs)) l.fn.queue.next (waits_of l.queue) (lists_of l.plan)
