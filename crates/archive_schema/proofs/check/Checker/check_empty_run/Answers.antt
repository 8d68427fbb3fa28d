use Rattle.std.proofs.Common.{arith}
use Rattle.archive_schema.specs.declared.plan.PointeeKind.TheVariants.{Run}
use Rattle.archive_schema.proofs.check.AtOnce.{passes_by}
use Rattle.archive_schema.proofs.check.Entries.{read_at}
use Rattle.archive_schema.proofs.check.HollowRecords.{empty_run}
use Rattle.archive_schema.proofs.check.Paid.{pointer_few}
use Rattle.archive_schema.proofs.check.TurnInvariants.{node_fits}
use Rattle.archive_schema.proofs.check.Checker.check_empty_run.Goals as goal

pub returns-clause-passes : goal.returns-clause-passes
returns-clause-passes g c =
    let position = read_at (record { sfits = c.read_position-position.type_inv }) c.read_position-position.ensures in
    passes_by (rw position at c.check_empty_region.ensures.passes) (λ pending seen o r. empty_run c.requires.kind c.requires.empty r)

pub returns-clause-pays : goal.returns-clause-pays
returns-clause-pays g c =
    let few = pointer_few c.requires.fits Run (node_fits c.requires.sound c.requires.kind c.requires.fits).0 in
    omega (arith, c.check_empty_region.ensures.pays, few)
