use Rattle.std.specs.Int.{w128}
use Rattle.std.proofs.Math.Facts.{to_z-of_z}
use Rattle.archive_check.specs.context.InSubtree.{laid_out}
use Rattle.archive_check.proofs.context.SubtreeSteps.{at_layout}
use Rattle.archive_check.proofs.context.subtree.ArchiveContextExt.in_subtree.Goals as goal

pub returns-in_err-layout : goal.returns-in_err-layout
returns-in_err-layout g c = at_layout _ _ _ _ _ _ _ _ c.args.position _ _ c.in_err-layout.ensures.refused c.from_residual.ensures.1

pub returns : goal.returns
returns g c = laid_out {layout = c.in_ok-layout.layout} c.in_ok-layout.ensures.made (rw (to_z-of_z {w = w128} {z = c.args.position} c.ranges.position) at c.in_subtree_raw.ensures)
