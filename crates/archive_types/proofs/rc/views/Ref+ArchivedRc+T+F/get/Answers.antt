use Rattle.std.proofs.Common.{arith}
use Rattle.archive_types.proofs.Writing.Owned.{pointer_some}
use Rattle.archive_types.proofs.SharedValues.SharedViews.{shared_fits, shared_shown, shared_says}
use Rattle.archive_types.proofs.Viewing.ViewsTogether.{shared_with}
use Rattle.archive_types.proofs.rc.views.Ref+ArchivedRc+T+F.get.Goals as goal

pub read_target-target-requires-clause-within : goal.read_target-target-requires-clause-within
read_target-target-requires-clause-within g c = omega (arith, shared_fits _ _ _ _ _ _ c.part-pos.ensures.viewed, pointer_some g.T.ArchivePointee.pointee)

pub read_target-target-requires-clause-lands : goal.read_target-target-requires-clause-lands
read_target-target-requires-clause-lands g c = (shared_shown _ _ _ _ _ _ c.part-pos.ensures.viewed).lands

pub read_target-target-requires-clause-fits : goal.read_target-target-requires-clause-fits
read_target-target-requires-clause-fits g c = (shared_shown _ _ _ _ _ _ c.part-pos.ensures.viewed).ends

pub read_length-requires : goal.read_length-requires
read_length-requires g c = shared_fits _ _ _ _ _ _ c.part-pos.ensures.viewed

pub at-requires : goal.at-requires
at-requires g c = rw (c.read_target-target.ensures, c.read_length.ensures) (shared_shown _ _ _ _ _ _ c.part-pos.ensures.viewed).viewed

pub returns-clause-says : goal.returns-clause-says
returns-clause-says g c = rw (c.at.ensures.position, c.read_target-target.ensures, c.part-pos.ensures.buffer, c.part-pos.ensures.position) (shared_says _ _ _ _ _ _)

pub returns-clause-beside : goal.returns-clause-beside
returns-clause-beside g c = rw (c.at.ensures.position, c.at.ensures.length, c.read_target-target.ensures, c.read_length.ensures, c.part-pos.ensures.buffer, c.part-pos.ensures.position) (shared_with _ _ _ _ _ _)
