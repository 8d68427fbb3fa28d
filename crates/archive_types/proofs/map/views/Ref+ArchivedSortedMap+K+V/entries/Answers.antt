use Rattle.std.proofs.Common.{length, arith, ap}
use Rattle.archive_check.specs.SelfCheck.Maps.{entry_definitions}
use Rattle.archive_types.proofs.Maps.EntriesShown.{entries_shown, entries_show}
use Rattle.archive_types.proofs.Viewing.PartsShown.{map_within}
use Rattle.archive_types.proofs.map.views.Ref+ArchivedSortedMap+K+V.entries.Goals as goal

pub read_target-requires-clause-within : goal.read_target-requires-clause-within
read_target-requires-clause-within g c =
    let D = entry_definitions g.K.ArchivePointee.definitions g.V.ArchivePointee.definitions in
    omega (arith, map_within D c.part-pos.result.bytes.now c.part-pos.result.pos c.part-pos.result.len g.K.MapKey.key g.V.Portable.shape c.part-pos.ensures.viewed)

pub read_target-requires-clause-lands : goal.read_target-requires-clause-lands
read_target-requires-clause-lands g c =
    let D = entry_definitions g.K.ArchivePointee.definitions g.V.ArchivePointee.definitions in
    (entries_shown D g.K.Portable.shape g.V.Portable.shape g.K.MapKey.key g.met.K.MapKey.is_key c.part-pos.result.bytes.now c.part-pos.result.pos c.part-pos.result.len c.part-pos.ensures.viewed).lands

pub read_target-requires-clause-fits : goal.read_target-requires-clause-fits
read_target-requires-clause-fits g c =
    let D = entry_definitions g.K.ArchivePointee.definitions g.V.ArchivePointee.definitions in
    (entries_shown D g.K.Portable.shape g.V.Portable.shape g.K.MapKey.key g.met.K.MapKey.is_key c.part-pos.result.bytes.now c.part-pos.result.pos c.part-pos.result.len c.part-pos.ensures.viewed).fits

pub overflow_add-pos : goal.overflow_add-pos
overflow_add-pos g c =
    let D = entry_definitions g.K.ArchivePointee.definitions g.V.ArchivePointee.definitions in
    let within = map_within D c.part-pos.result.bytes.now c.part-pos.result.pos c.part-pos.result.len g.K.MapKey.key g.V.Portable.shape c.part-pos.ensures.viewed in
    let same = ap length c.part-pos.ensures.buffer in
    let buffer = c.ranges.self.0 in
    omega arith

pub read_u32-requires : goal.read_u32-requires
read_u32-requires g c =
    let D = entry_definitions g.K.ArchivePointee.definitions g.V.ArchivePointee.definitions in
    omega (arith, map_within D c.part-pos.result.bytes.now c.part-pos.result.pos c.part-pos.result.len g.K.MapKey.key g.V.Portable.shape c.part-pos.ensures.viewed)

pub at-requires : goal.at-requires
at-requires g c =
    let D = entry_definitions g.K.ArchivePointee.definitions g.V.ArchivePointee.definitions in
    rw (c.read_target.ensures, c.read_u32.ensures)
    (entries_shown D g.K.Portable.shape g.V.Portable.shape g.K.MapKey.key g.met.K.MapKey.is_key c.part-pos.result.bytes.now c.part-pos.result.pos c.part-pos.result.len c.part-pos.ensures.viewed).viewed

pub returns-clause-shows : goal.returns-clause-shows
returns-clause-shows g c =
    let D = entry_definitions g.K.ArchivePointee.definitions g.V.ArchivePointee.definitions in
    rw (c.at.ensures.position, c.at.ensures.length, c.read_target.ensures, c.read_u32.ensures, c.part-pos.ensures.buffer, c.part-pos.ensures.position)
    (entries_show D g.K.Portable.shape g.V.Portable.shape g.K.MapKey.key g.met.K.MapKey.is_key c.args.self.bytes.now c.args.self.pos c.args.self.len)
