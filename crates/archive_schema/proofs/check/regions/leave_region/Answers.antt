use Rattle.std.proofs.Common.{refl}
use Rattle.archive_schema.proofs.check.Entries.{leaves_so}
use Rattle.archive_schema.proofs.check.regions.leave_region.Goals as goal

pub returns-clause-leaves : goal.returns-clause-leaves
returns-clause-leaves g c = leaves_so c.leave.result c.leave.ensures.taken c.leave.ensures.left c.leave.ensures.refused c.leave.ensures.positions refl
