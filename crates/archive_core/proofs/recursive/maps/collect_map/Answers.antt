use Rattle.std.proofs.Common.{subst, ◌∙◌}
use Rattle.std.proofs.IntoIterSteps.{All-taken}
use Rattle.std.specs.BTreeMap.{IsFromIterResult}
use Rattle.archive_check.specs.SelfCheck.Maps.{entry_definitions}
use Rattle.archive_types.proofs.Maps.MapsRead.{pairs_read}
use Rattle.archive_core.proofs.recursive.maps.collect_map.Goals as goal

pub returns-clause-read : goal.returns-clause-read
returns-clause-read g c =
    let D = entry_definitions g.K.ArchivePointee.definitions g.V.ArchivePointee.definitions in
    let h = c.in_ok-from_iter.ensures.ran in
    let made = subst (λ l. IsFromIterResult g.A.Ord.cmp l c.in_ok-from_iter.field-0) (All-taken h.0 h.1 ((h.3.2 tt).0, (h.3.0, h.3.1, (h.3.2 tt).1)) ∙ h.2.0) h.4 in
    record {
      since = λ keeps old new read. pairs_read g.A.Archive.meaning g.B.Archive.meaning g.A.Archive.keys g.B.Archive.keys g.A.Ord.cmp g.met.A.Ord.total g.met.A.SortedKey.sorted g.met.A.SortedKey.exact
          D g.K.Portable.shape g.V.Portable.shape g.K.MapKey.key g.met.K.MapKey.is_key c.args.part.bytes.now c.args.part.pos c.args.part.len c.requires old new _ c.in_ok-from_iter.field-0 made read;
    }
