use Rattle.std.proofs.Common.{take}
use Rattle.archive_inspect.specs.Points.{LeadsOn}
use Rattle.archive_inspect.proofs.ways.follow_from.Given as goal

abbrev pub invariant-loop-step : goal.invariant-loop-step
invariant-loop-step l = LeadsOn l.form.schema l.bytes l.fn.start (take l.step-index l.steps) l.point
