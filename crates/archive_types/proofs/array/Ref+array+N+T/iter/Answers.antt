use Rattle.archive_types.proofs.Viewing.ArraysShown.{array_element_viewed}
use Rattle.archive_types.proofs.array.Ref+array+N+T.iter.Goals as goal

pub over-requires : goal.over-requires
over-requires g c = λ k below.
    array_element_viewed g.T.ArchivePointee.definitions c.part.result.bytes.now c.part.result.pos c.part.result.len g.row.N g.T.Portable.shape g.T.Portable.layout g.met.T.Portable.has_layout k below
    g.T.ArchivePointee.pointee g.met.T.Portable.is_one c.part.ensures.viewed
