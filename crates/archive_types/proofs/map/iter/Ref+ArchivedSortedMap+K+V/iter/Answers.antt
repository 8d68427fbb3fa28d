use Rattle.std.proofs.Common.{◌∙◌, sym}
use Rattle.archive_types.proofs.Maps.EntriesShown.{entries_viewed}
use Rattle.archive_types.proofs.map.iter.Ref+ArchivedSortedMap+K+V.iter.Goals as goal

pub invariant_of-result-clause-valid : goal.invariant_of-result-clause-valid
invariant_of-result-clause-valid g c =
    let count = c.part.ensures.length ∙ sym c.len.ensures in
    rw count at (entries_viewed g.K.ArchivePointee.definitions g.V.ArchivePointee.definitions g.K.Portable.shape g.V.Portable.shape g.K.Portable.layout g.V.Portable.layout
    g.met.K.Portable.has_layout g.met.V.Portable.has_layout c.part.result.bytes.now c.part.result.pos c.part.result.len c.part.ensures.viewed)
