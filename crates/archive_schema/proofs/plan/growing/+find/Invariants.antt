use Rattle.std.proofs.Common.{length}
use Rattle.archive_schema.proofs.plan.growing.+find.Given as goal

abbrev pub decreases-find : goal.decreases-find
decreases-find l = length l.names.now
