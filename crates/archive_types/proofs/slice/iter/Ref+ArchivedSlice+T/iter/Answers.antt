use Rattle.std.proofs.Common.{◌<◌, ◌∙◌, sym}
use Rattle.archive_types.proofs.Viewing.PartsShown.{element_viewed}
use Rattle.archive_types.proofs.slice.iter.Ref+ArchivedSlice+T.iter.Goals as goal

pub over-requires : goal.over-requires
over-requires g c = λ k below. (
    let less : k < c.part.result.len = rw (c.part.ensures.length ∙ sym c.len.ensures) below in
    element_viewed g.T.ArchivePointee.definitions c.part.result.bytes.now c.part.result.pos c.part.result.len g.T.Portable.shape g.T.Portable.layout g.met.T.Portable.has_layout k less
    g.T.ArchivePointee.pointee g.met.T.Portable.is_one c.part.ensures.viewed)
