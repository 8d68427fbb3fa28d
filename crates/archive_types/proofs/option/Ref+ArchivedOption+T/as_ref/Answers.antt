use Rattle.std.proofs.Common.{◌≡◌, slice_index, refl, sym}
use Rattle.archive_check.proofs.Viewing.ViewedVariants.{tag_fits, tag_known, case_viewed}
use Rattle.archive_enum.specs.Choices.{option_tag, up_first}
use Rattle.archive_types.proofs.Viewing.ViewsTogether.{case_with}
use Rattle.archive_types.proofs.option.Ref+ArchivedOption+T.as_ref.Goals as goal

pub bounds-bytes-pos : goal.bounds-bytes-pos
bounds-bytes-pos g c = tag_fits _ _ _ _ _ _ c.part-pos.ensures.viewed

pub at-requires : goal.at-requires
at-requires g c =
    let L = g.T.Portable.layout in
    let first : slice_index c.part-pos.result.bytes.now c.part-pos.result.pos ≡ 1 = option_tag g.T.Portable.shape _ (tag_known _ _ _ _ _ _ c.part-pos.ensures.viewed) c.if-bytes-pos-eq0.false in
    rw (g.met.T.Portable.is_one, c.align.ensures) (case_viewed _ _ (λ s k. k) _ _ 1 _ refl L g.met.T.Portable.has_layout _ _ _ L.align (sym (up_first L.align g.met.T.Portable.is_align)) first c.part-pos.ensures.viewed)

pub returns-clause-tag : goal.returns-clause-tag
returns-clause-tag g c = rw (← c.part-pos.ensures.buffer, ← c.part-pos.ensures.position)
    (option_tag g.T.Portable.shape _ (tag_known _ _ _ _ _ _ c.part-pos.ensures.viewed) c.if-bytes-pos-eq0.false)

pub returns-clause-beside : goal.returns-clause-beside
returns-clause-beside g c =
    let L = g.T.Portable.layout in
    let first : slice_index c.part-pos.result.bytes.now c.part-pos.result.pos ≡ 1 = option_tag g.T.Portable.shape _ (tag_known _ _ _ _ _ _ c.part-pos.ensures.viewed) c.if-bytes-pos-eq0.false in
    rw (c.at.ensures.position, c.at.ensures.length, g.met.T.Portable.is_one, c.align.ensures, ← c.part-pos.ensures.buffer, ← c.part-pos.ensures.position)
    (case_with _ _ (λ s k. k) _ _ 1 _ refl L g.met.T.Portable.has_layout _ _ _ L.align (sym (up_first L.align g.met.T.Portable.is_align)) first)
