use Rattle.std.proofs.Common.{arith}
use Rattle.archive_types.proofs.Writing.Owned.{pointer_some}
use Rattle.archive_types.proofs.Viewing.EndsBefore.{box_ends}
use Rattle.archive_types.proofs.Viewing.PartsShown.{box_shown, box_shows, box_within}
use Rattle.archive_types.proofs.boxed.Ref+ArchivedBox+T.get.Goals as goal

pub read_target-requires-clause-within : goal.read_target-requires-clause-within
read_target-requires-clause-within g c = omega (arith, pointer_some g.T.ArchivePointee.pointee, box_within g.T.ArchivePointee.definitions c.part-pos.result.bytes.now c.part-pos.result.pos c.part-pos.result.len g.T.ArchivePointee.pointee c.part-pos.ensures.viewed)

pub read_target-requires-clause-lands : goal.read_target-requires-clause-lands
read_target-requires-clause-lands g c = (box_shown g.T.ArchivePointee.definitions c.part-pos.result.bytes.now c.part-pos.result.pos c.part-pos.result.len g.T.ArchivePointee.pointee c.part-pos.ensures.viewed).lands

pub read_target-requires-clause-fits : goal.read_target-requires-clause-fits
read_target-requires-clause-fits g c = (box_shown g.T.ArchivePointee.definitions c.part-pos.result.bytes.now c.part-pos.result.pos c.part-pos.result.len g.T.ArchivePointee.pointee c.part-pos.ensures.viewed).fits

pub read_length-requires : goal.read_length-requires
read_length-requires g c = box_within g.T.ArchivePointee.definitions c.part-pos.result.bytes.now c.part-pos.result.pos c.part-pos.result.len g.T.ArchivePointee.pointee c.part-pos.ensures.viewed

pub at-requires : goal.at-requires
at-requires g c = rw (c.read_target.ensures, c.read_length.ensures) (box_shown g.T.ArchivePointee.definitions c.part-pos.result.bytes.now c.part-pos.result.pos c.part-pos.result.len g.T.ArchivePointee.pointee c.part-pos.ensures.viewed).viewed

pub returns-clause-ends : goal.returns-clause-ends
returns-clause-ends g c =
    rw (c.at.ensures.position, c.at.ensures.length, c.read_target.ensures, c.read_length.ensures, ← c.part-pos.ensures.position)
    (box_ends g.T.ArchivePointee.definitions c.part-pos.result.bytes.now c.part-pos.result.pos c.part-pos.result.len g.T.ArchivePointee.pointee c.part-pos.ensures.viewed)

pub returns-clause-shows : goal.returns-clause-shows
returns-clause-shows g c =
    rw (c.at.ensures.position, c.at.ensures.length, c.read_target.ensures, c.read_length.ensures, c.part-pos.ensures.buffer, c.part-pos.ensures.position)
    (box_shows g.T.ArchivePointee.definitions c.args.self.bytes.now c.args.self.pos c.args.self.len g.T.ArchivePointee.pointee)
