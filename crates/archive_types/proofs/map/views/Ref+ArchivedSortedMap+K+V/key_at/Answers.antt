use Rattle.std.proofs.Common.{◌+◌, ◌*◌, ap, ◌∙◌, add-zero}
use Rattle.archive_check.specs.SelfCheck.Maps.{entry_size}
use Rattle.archive_types.proofs.Maps.EntriesShown.{entry_part_shows, key_begins}
use Rattle.archive_types.proofs.map.views.Ref+ArchivedSortedMap+K+V.key_at.Goals as goal

pub returns : goal.returns
returns g c =
    let entry = rw c.entries.ensures.buffer at c.index.ensures.shows in
    let part = rw (c.index.ensures.buffer ∙ c.entries.ensures.buffer) at c.field.ensures.shows in (
      c.field.ensures.buffer ∙ c.index.ensures.buffer ∙ c.entries.ensures.buffer,
      c.field.ensures.position ∙ ap (λ n. c.index.result.pos + n) (key_begins g.K.Portable.layout g.K.MapKey.key g.met.K.MapKey.key_laid) ∙ add-zero c.index.result.pos
          ∙ c.index.ensures.position ∙ ap (λ n. n + c.args.index * entry_size g.K.Portable.layout g.V.Portable.layout) c.entries.ensures.position,
      c.field.ensures.length,
      rw c.field.ensures.length (entry_part_shows c.args.index 0 c.entries.ensures.shows entry part),
    )
