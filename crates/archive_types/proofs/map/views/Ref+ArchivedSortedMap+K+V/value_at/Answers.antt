use Rattle.std.proofs.Common.{◌+◌, ◌*◌, ap, ◌∙◌}
use Rattle.archive_check.specs.SelfCheck.Maps.{entry_size}
use Rattle.archive_types.specs.Maps.{entry_value_begin}
use Rattle.archive_types.proofs.Maps.EntriesShown.{entry_part_shows}
use Rattle.archive_types.proofs.map.views.Ref+ArchivedSortedMap+K+V.value_at.Goals as goal

pub returns : goal.returns
returns g c =
    let entry = rw c.entries.ensures.buffer at c.index.ensures.shows in
    let part = rw (c.index.ensures.buffer ∙ c.entries.ensures.buffer) at c.field.ensures.shows in (
      c.field.ensures.buffer ∙ c.index.ensures.buffer ∙ c.entries.ensures.buffer,
      c.field.ensures.position
          ∙ ap (λ n. n + entry_value_begin g.K.Portable.layout g.V.Portable.layout)
          (c.index.ensures.position ∙ ap (λ n. n + c.args.index * entry_size g.K.Portable.layout g.V.Portable.layout) c.entries.ensures.position),
      c.field.ensures.length,
      rw c.field.ensures.length (entry_part_shows c.args.index 1 c.entries.ensures.shows entry part),
    )
