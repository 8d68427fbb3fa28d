use Rattle.std.proofs.Common.{arith}
use Rattle.archive_schema.specs.declared.plan.PointeeKind.TheVariants.{Run}
use Rattle.archive_schema.proofs.check.Entries.{read_at}
use Rattle.archive_schema.proofs.check.Paid.{pointer_few}
use Rattle.archive_schema.proofs.check.TurnExits.{opens_pointer}
use Rattle.archive_schema.proofs.check.TurnInvariants.{node_fits}
use Rattle.archive_schema.proofs.check.Checker.open_run.Goals as goal

pub returns-clause-turn : goal.returns-clause-turn
returns-clause-turn g c =
    opens_pointer c.requires.kind c.count-count.ensures (read_at (record { sfits = c.read_position-position.type_inv }) c.read_position-position.ensures) c.enter_here.ensures.enters

pub returns-clause-pays : goal.returns-clause-pays
returns-clause-pays g c =
    let f = c.requires.ready.fits.0 in
    let few = pointer_few f Run (node_fits c.requires.plan.sound c.requires.kind f).0 in
    omega (arith, c.enter_here.ensures.pays, few)
