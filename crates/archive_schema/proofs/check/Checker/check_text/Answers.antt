use Rattle.std.proofs.Common.{arith}
use Rattle.archive_schema.specs.check.Runs.{run_str}
use Rattle.archive_schema.proofs.check.TurnInvariants.{node_fits}
use Rattle.archive_schema.proofs.check.AtOnce.{passes_by}
use Rattle.archive_schema.proofs.check.Paid.{node_size}
use Rattle.archive_schema.proofs.check.Checker.check_text.Goals as goal

pub check_string-requires : goal.check_string-requires
check_string-requires g c =
    let n = node_fits c.requires.sound c.requires.kind c.requires.fits in record { known = n.1; fits = omega (arith, n.0, c.requires.fits.fits); below = c.requires.below }

pub returns-clause-passes : goal.returns-clause-passes
returns-clause-passes g c = passes_by c.check_string.ensures.passes (λ pending seen o r. run_str c.requires.kind r)

pub returns-clause-pays : goal.returns-clause-pays
returns-clause-pays g c = omega (arith, c.check_string.ensures.pays, node_size c.requires.fits, (node_fits c.requires.sound c.requires.kind c.requires.fits).0)
