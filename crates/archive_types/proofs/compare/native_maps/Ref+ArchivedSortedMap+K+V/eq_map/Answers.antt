use Rattle.std.proofs.Common.{ap, ◌∙◌}
use Rattle.std.specs.Ordering.{is_eq}
use Rattle.archive_check.specs.Shape.{one}
use Rattle.archive_types.specs.Compared.{standing}
use Rattle.archive_types.specs.Members.OrderedPairs.{maps_native}
use Rattle.archive_types.specs.Members.OrderedParts.{as_native_pointee}
use Rattle.archive_types.proofs.compare.native_maps.Ref+ArchivedSortedMap+K+V.eq_map.Goals as goal

pub returns-clause-by_value : goal.returns-clause-by_value
returns-clause-by_value g c w m =
    let D = g.K.ArchivePointee.definitions in
    let E = g.V.ArchivePointee.definitions in
    let P = g.K.CompareNative.native_order in
    let Q = g.V.CompareNative.native_order in
    let by_key = as_native_pointee D g.K.ArchivePointee.pointee (one g.K.Portable.shape) g.A.Archive.meaning P g.met.K.Portable.is_one g.met.K.CompareNative.native_by_value in
    let by_value = as_native_pointee E g.V.ArchivePointee.pointee (one g.V.Portable.shape) g.B.Archive.meaning Q g.met.V.Portable.is_one g.met.V.CompareNative.native_by_value in
    c.are_pairs.ensures ∙ ap is_eq (maps_native D E g.K.Portable.shape g.V.Portable.shape g.K.Portable.layout g.V.Portable.layout g.met.K.Portable.has_layout g.met.V.Portable.has_layout
    g.K.MapKey.key g.met.K.MapKey.is_key g.A.Archive.meaning g.B.Archive.meaning P Q by_key by_value (standing c.args.self.bytes.now c.args.self.pos c.args.self.len) w c.args.map.now.entries m)
