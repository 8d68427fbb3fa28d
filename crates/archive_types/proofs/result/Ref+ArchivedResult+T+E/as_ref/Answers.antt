use Rattle.std.proofs.Common.{◌≡◌, ◌≤◌, ◌<◌, ◌*◌, ℕ, length, slice_index, refl, sym, arith, inl, inr}
use Rattle.archive_check.specs.Definitions.{IsAlign}
use Rattle.archive_check.specs.Members.PartsLayout.{knows_left, knows_right}
use Rattle.archive_check.proofs.Viewing.ViewedVariants.{tag_fits, tag_known, case_viewed}
use Rattle.archive_enum.specs.Choices.{up_first}
use Rattle.archive_enum.specs.ResultShapes.{result_tag}
use Rattle.archive_types.proofs.Viewing.ViewsTogether.{case_with}
use Rattle.archive_types.proofs.result.Ref+ArchivedResult+T+E.as_ref.Goals as goal

pub bounds-bytes-pos : goal.bounds-bytes-pos
bounds-bytes-pos g c = tag_fits _ _ _ _ _ _ c.part-pos.ensures.viewed

align_few : (a : ℕ) → IsAlign a → a ≤ 32
align_few a (inl e) = omega arith
align_few a (inr (inl e)) = omega arith
align_few a (inr (inr (inl e))) = omega arith
align_few a (inr (inr (inr (inl e)))) = omega arith
align_few a (inr (inr (inr (inr (inl e))))) = omega arith
align_few a (inr (inr (inr (inr (inr e))))) = omega arith

pub overflow_add-part : goal.overflow_add-part
overflow_add-part g c =
    let few : c.align.result ≤ 32 = rw c.align.ensures (align_few g.T.Portable.layout.align g.met.T.Portable.is_align) in
    let low : c.part-pos.result.pos < length c.part-pos.result.bytes.now = tag_fits _ _ _ _ _ _ c.part-pos.ensures.viewed in
    let whole : length c.part-pos.result.bytes.now * 1 < 9223372036854775808 = rw c.part-pos.ensures.buffer c.ranges.self.1 in
    omega (arith, few, low, whole)

pub at-requires : goal.at-requires
at-requires g c =
    let L = g.T.Portable.layout in
    rw (g.met.T.Portable.is_one, c.align.ensures)
    (case_viewed _ _ (λ s k. knows_left s _ _ k) _ _ 0 _ refl L g.met.T.Portable.has_layout _ _ _ L.align (sym (up_first L.align g.met.T.Portable.is_align)) c.if-bytes-pos-eq0.true c.part-pos.ensures.viewed)

pub at-requires-2 : goal.at-requires-2
at-requires-2 g c =
    let L = g.E.Portable.layout in
    let first : slice_index c.part-pos.result.bytes.now c.part-pos.result.pos ≡ 1 = result_tag g.T.Portable.shape g.E.Portable.shape _ (tag_known _ _ _ _ _ _ c.part-pos.ensures.viewed) c.if-bytes-pos-eq0.false in
    rw (g.met.E.Portable.is_one, c.align-2.ensures)
    (case_viewed _ _ (λ s k. knows_right s _ _ k) _ _ 1 _ refl L g.met.E.Portable.has_layout _ _ _ L.align (sym (up_first L.align g.met.E.Portable.is_align)) first c.part-pos.ensures.viewed)

pub returns-clause-tag : goal.returns-clause-tag
returns-clause-tag g c = rw (← c.part-pos.ensures.buffer, ← c.part-pos.ensures.position)
    (result_tag g.T.Portable.shape g.E.Portable.shape _ (tag_known _ _ _ _ _ _ c.part-pos.ensures.viewed) c.if-bytes-pos-eq0.false)

pub returns-clause-beside : goal.returns-clause-beside
returns-clause-beside g c =
    let L = g.E.Portable.layout in
    let first : slice_index c.part-pos.result.bytes.now c.part-pos.result.pos ≡ 1 = result_tag g.T.Portable.shape g.E.Portable.shape _ (tag_known _ _ _ _ _ _ c.part-pos.ensures.viewed) c.if-bytes-pos-eq0.false in
    rw (c.at-2.ensures.position, c.at-2.ensures.length, g.met.E.Portable.is_one, c.align-2.ensures, ← c.part-pos.ensures.buffer, ← c.part-pos.ensures.position)
    (case_with _ _ (λ s k. knows_right s _ _ k) _ _ 1 _ refl L g.met.E.Portable.has_layout _ _ _ L.align (sym (up_first L.align g.met.E.Portable.is_align)) first)

pub returns-then-bytes-pos-eq0-clause-beside : goal.returns-then-bytes-pos-eq0-clause-beside
returns-then-bytes-pos-eq0-clause-beside g c =
    let L = g.T.Portable.layout in
    rw (c.at.ensures.position, c.at.ensures.length, g.met.T.Portable.is_one, c.align.ensures, ← c.part-pos.ensures.buffer, ← c.part-pos.ensures.position)
    (case_with _ _ (λ s k. knows_left s _ _ k) _ _ 0 _ refl L g.met.T.Portable.has_layout _ _ _ L.align (sym (up_first L.align g.met.T.Portable.is_align)) c.if-bytes-pos-eq0.true)
