use Rattle.std.proofs.Common.{refl, sym}
use Rattle.archive_core.specs.Choices.{up_first}
use Rattle.archive_core.specs.PartsLayout.{knows_at}
use Rattle.archive_core.proofs.SealedParts.{comes_trans, comes_also, field_comes, case_comes, vec_comes, element_comes}
use Rattle.archive_bench.proofs.seals.third.Goals as goal

pub returns : goal.returns
returns g c =
    let E = g.T.ArchivePointee.definitions in
    let first = rw (c.field.ensures.buffer, c.field.ensures.position) at c.in_ok-list.ensures.tag in
    let list = case_comes E E (λ s k. k) _ _ 1 _ refl (record { size = 8; align = 4 }) (record { solved = λ s k. refl }) _ _ _ 4 refl first in
    let among = c.in_ok-item.ensures.some.0 refl in
    let below = rw (c.as_slice.ensures.length, c.in_ok-list.ensures.buffer, c.in_ok-list.ensures.position, c.field.ensures.buffer, c.field.ensures.position) at among in
    let item = element_comes E _ _ _ _ _ g.met.T.Portable.has_layout 2 _ g.met.T.Portable.is_one below in
    rw (c.spot.ensures.position, c.spot.ensures.length, c.in_ok-item.ensures.position, c.in_ok-item.ensures.length, c.as_slice.ensures.position, c.in_ok-list.ensures.buffer, c.in_ok-list.ensures.position, c.field.ensures.buffer, c.field.ensures.position)
    (comes_trans _ _ _ _ _ (field_comes _ _ _ _ g.met.R.Record.has_parts _ _ _ _ g.met.R.Portable.is_one _ _ _ g.met.R.Parts.PortableParts.laid_out 2 _ c.requires.shape _ refl)
    (comes_also (λ s k. c.requires.definitions s (knows_at s _ 2 (g.met.R.Record.has_parts.known s k))) _ _ _ (comes_trans _ _ _ _ _ list (comes_trans _ _ _ _ _ (vec_comes _ _ _ _ _) item))))
