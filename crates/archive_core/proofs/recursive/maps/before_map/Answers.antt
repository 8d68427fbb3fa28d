use Rattle.std.proofs.Common.{arith, ◌∙◌}
use Rattle.archive_check.specs.SelfCheck.Maps.{entry_definitions}
use Rattle.archive_types.specs.Members.Maps.{entry_is}
use Rattle.archive_types.proofs.Maps.EntriesShown.{entries_shown}
use Rattle.archive_types.proofs.Viewing.PartsShown.{map_within}
use Rattle.archive_core.proofs.recursive.MapsHeld.{map_ends}
use Rattle.archive_core.proofs.recursive.maps.before_map.Goals as goal

pub read_target-requires-clause-within : goal.read_target-requires-clause-within
read_target-requires-clause-within g c =
    let D = entry_definitions g.K.ArchivePointee.definitions g.V.ArchivePointee.definitions in
    omega (arith, map_within D c.args.part.bytes.now c.args.part.pos c.args.part.len g.K.MapKey.key g.V.Portable.shape c.requires.viewed)

pub read_target-requires-clause-lands : goal.read_target-requires-clause-lands
read_target-requires-clause-lands g c =
    let D = entry_definitions g.K.ArchivePointee.definitions g.V.ArchivePointee.definitions in
    (entries_shown D g.K.Portable.shape g.V.Portable.shape g.K.MapKey.key g.met.K.MapKey.is_key c.args.part.bytes.now c.args.part.pos c.args.part.len c.requires.viewed).lands

pub read_target-requires-clause-fits : goal.read_target-requires-clause-fits
read_target-requires-clause-fits g c =
    let D = entry_definitions g.K.ArchivePointee.definitions g.V.ArchivePointee.definitions in
    (entries_shown D g.K.Portable.shape g.V.Portable.shape g.K.MapKey.key g.met.K.MapKey.is_key c.args.part.bytes.now c.args.part.pos c.args.part.len c.requires.viewed).fits

pub overflow_add-pos : goal.overflow_add-pos
overflow_add-pos g c =
    let D = entry_definitions g.K.ArchivePointee.definitions g.V.ArchivePointee.definitions in
    let within = map_within D c.args.part.bytes.now c.args.part.pos c.args.part.len g.K.MapKey.key g.V.Portable.shape c.requires.viewed in
    let buffer = c.ranges.part.0 in
    omega arith

pub read_u32-requires : goal.read_u32-requires
read_u32-requires g c =
    let D = entry_definitions g.K.ArchivePointee.definitions g.V.ArchivePointee.definitions in
    omega (arith, map_within D c.args.part.bytes.now c.args.part.pos c.args.part.len g.K.MapKey.key g.V.Portable.shape c.requires.viewed)

pub at-requires : goal.at-requires
at-requires g c =
    let D = entry_definitions g.K.ArchivePointee.definitions g.V.ArchivePointee.definitions in
    rw (c.read_target.ensures, c.read_u32.ensures, c.requires.pairs, c.requires.definitions)
    (entries_shown D g.K.Portable.shape g.V.Portable.shape g.K.MapKey.key g.met.K.MapKey.is_key c.args.part.bytes.now c.args.part.pos c.args.part.len c.requires.viewed).viewed

pub returns-clause-ends : goal.returns-clause-ends
returns-clause-ends g c =
    let D = entry_definitions g.K.ArchivePointee.definitions g.V.ArchivePointee.definitions in
    rw (c.at.ensures.position, c.at.ensures.length, c.read_target.ensures, c.read_u32.ensures)
    (map_ends D g.K.MapKey.key g.V.Portable.shape g.X.Portable.shape (c.requires.pairs ∙ entry_is g.K.Portable.shape g.V.Portable.shape g.K.MapKey.key g.met.K.MapKey.is_key) g.X.Portable.layout
    (rw (c.requires.definitions) at g.met.X.Portable.has_layout) c.args.part.bytes.now c.args.part.pos c.args.part.len c.requires.viewed)
