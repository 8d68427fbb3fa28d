use Rattle.std.proofs.Common.{length, arith, ap}
use Rattle.archive_types.proofs.Viewing.EndsBefore.{vec_ends}
use Rattle.archive_types.proofs.Viewing.PartsShown.{vec_shown, vec_shows, vec_within}
use Rattle.archive_types.proofs.vec.Ref+ArchivedVec+T.as_slice.Goals as goal

pub read_target-requires-clause-within : goal.read_target-requires-clause-within
read_target-requires-clause-within g c = omega (arith, vec_within g.T.ArchivePointee.definitions c.part-pos.result.bytes.now c.part-pos.result.pos c.part-pos.result.len g.T.Portable.shape c.part-pos.ensures.viewed)

pub read_target-requires-clause-lands : goal.read_target-requires-clause-lands
read_target-requires-clause-lands g c = (vec_shown g.T.ArchivePointee.definitions c.part-pos.result.bytes.now c.part-pos.result.pos c.part-pos.result.len g.T.Portable.shape c.part-pos.ensures.viewed).lands

pub read_target-requires-clause-fits : goal.read_target-requires-clause-fits
read_target-requires-clause-fits g c = (vec_shown g.T.ArchivePointee.definitions c.part-pos.result.bytes.now c.part-pos.result.pos c.part-pos.result.len g.T.Portable.shape c.part-pos.ensures.viewed).fits

pub overflow_add-pos : goal.overflow_add-pos
overflow_add-pos g c =
    let within = vec_within g.T.ArchivePointee.definitions c.part-pos.result.bytes.now c.part-pos.result.pos c.part-pos.result.len g.T.Portable.shape c.part-pos.ensures.viewed in
    let same = ap length c.part-pos.ensures.buffer in
    let buffer = c.ranges.self.0 in
    omega arith

pub read_u32-requires : goal.read_u32-requires
read_u32-requires g c = omega (arith, vec_within g.T.ArchivePointee.definitions c.part-pos.result.bytes.now c.part-pos.result.pos c.part-pos.result.len g.T.Portable.shape c.part-pos.ensures.viewed)

pub at-requires : goal.at-requires
at-requires g c = rw (c.read_target.ensures, c.read_u32.ensures) (vec_shown g.T.ArchivePointee.definitions c.part-pos.result.bytes.now c.part-pos.result.pos c.part-pos.result.len g.T.Portable.shape c.part-pos.ensures.viewed).viewed

pub returns-clause-ends : goal.returns-clause-ends
returns-clause-ends g c =
    rw (c.at.ensures.position, c.at.ensures.length, c.read_target.ensures, c.read_u32.ensures, ← c.part-pos.ensures.position)
    (vec_ends g.T.ArchivePointee.definitions c.part-pos.result.bytes.now c.part-pos.result.pos c.part-pos.result.len g.T.Portable.shape g.T.Portable.layout g.met.T.Portable.has_layout c.part-pos.ensures.viewed)

pub returns-clause-shows : goal.returns-clause-shows
returns-clause-shows g c =
    rw (c.at.ensures.position, c.at.ensures.length, c.read_target.ensures, c.read_u32.ensures, c.part-pos.ensures.buffer, c.part-pos.ensures.position)
    (vec_shows g.T.ArchivePointee.definitions c.args.self.bytes.now c.args.self.pos c.args.self.len g.T.Portable.shape)
