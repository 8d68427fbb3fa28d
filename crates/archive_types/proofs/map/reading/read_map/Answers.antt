use Rattle.archive_check.specs.SelfCheck.Maps.{entry_definitions}
use Rattle.archive_types.proofs.Maps.MapsRead.{pairs_read, pairs_unread}
use Rattle.archive_types.proofs.Planning.Causes.{err_by}
use Rattle.archive_types.proofs.Reading.ReadElements.{ok_from}
use Rattle.archive_types.proofs.map.reading.read_map.Goals as goal

pub returns-in_err-pairs-clause-refused : goal.returns-in_err-pairs-clause-refused
returns-in_err-pairs-clause-refused g c =
    let D = entry_definitions g.K.ArchivePointee.definitions g.V.ArchivePointee.definitions in
    let h = rw (c.part-entries.ensures.buffer, c.part-entries.ensures.position, c.part-entries.ensures.length, c.entries.ensures.buffer, c.entries.ensures.position, c.entries.ensures.length, c.at-view.ensures.buffer, c.at-view.ensures.position) at c.in_err-pairs.ensures.refused in
    err_by c.from_residual.result c.in_err-pairs.field-0.0 _ c.from_residual.ensures.1
    (pairs_unread D g.K.Portable.shape g.V.Portable.shape g.K.MapKey.key g.met.K.MapKey.is_key c.args.part.bytes.now c.args.part.pos c.args.part.len c.requires (g.D.Entries.entry_of c.args.deserializer.now) c.in_err-pairs.field-0.0 h)

pub returns-clause-read : goal.returns-clause-read
returns-clause-read g c =
    let D = entry_definitions g.K.ArchivePointee.definitions g.V.ArchivePointee.definitions in
    let h = rw (c.part-entries.ensures.buffer, c.part-entries.ensures.position, c.part-entries.ensures.length, c.entries.ensures.buffer, c.entries.ensures.position, c.entries.ensures.length, c.at-view.ensures.buffer, c.at-view.ensures.position) at c.in_ok-pairs.ensures.read in
    ok_from c.collect.result c.collect.ensures.made (λ m made.
    pairs_read g.A.Archive.meaning g.B.Archive.meaning g.A.Archive.keys g.B.Archive.keys g.A.Ord.cmp g.met.A.Ord.total g.met.A.SortedKey.sorted g.met.A.SortedKey.exact D g.K.Portable.shape g.V.Portable.shape g.K.MapKey.key g.met.K.MapKey.is_key
    c.args.part.bytes.now c.args.part.pos c.args.part.len c.requires _ _ _ m made h)
