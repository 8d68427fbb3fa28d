use Rattle.std.proofs.Common.{◌≡◌, ◌+◌, ◌-◌, ◌<◌, ◌≤◌, ◌^◌, length, drop, arith, refl, sym, ◌∙◌, take_all}
use Rattle.std.proofs.lemmas.List.{length-take, length-drop}
use Rattle.archive_types.proofs.Writing.Arrays.{fills_start, fills_more, fills_broken, fills_end, left_behind, its_size, none_left, fresh_element, zeroed_behind}
use Rattle.archive_types.proofs.Planning.Causes.{err_by}
use Rattle.archive_types.proofs.Writing.PartBytes.{put_length, behind_is, before_is}
use Rattle.archive_types.proofs.array.sources.resolve_elements.Goals as goal

pub loop-resolver-init : goal.loop-resolver-init
loop-resolver-init g c = record {
  can_next = tt;
  finite = tt;
  room = refl;
  left = omega (arith, c.requires.zeroed.sized);
  zeroed = c.requires.zeroed.zeroed;
  fills = fills_start _ _ g.T.Archived.Portable.layout g.met.T.Archived.Portable.has_layout _ _ _ (c.args.pos + 0) _ _ _ (omega arith) c.into_iter-resolver-iterator.ensures.into_iter_gives.0 c.requires.same_values;
}

pub resolve_into-requires-clause-zeroed : goal.resolve_into-requires-clause-zeroed
resolve_into-requires-clause-zeroed g c =
    let z = g.T.Archived.Portable.layout.size in
    let first = c.in-Some-split_first.ensures.cases.0 in
    let kept = c.loop-resolver.invariant in
    let behind = left_behind c.loop-resolver.begin z _ _ _ _ first kept.left in
    let ends : c.args.pos + length c.loop-resolver.bytes < 2 ^ 64 = omega (arith, kept.room, c.requires.zeroed.sized, c.requires.zeroed.ends) in
    let same : c.size-size.result ≡ z = its_size c.loop-resolver.begin z _ _ _ _ first kept.left c.size-size.result c.args.pos c.size-size.ensures ends in
    fresh_element z c.size-size.result c.loop-resolver.begin c.args.pos c.loop-resolver.bytes same (omega (arith, behind)) kept.zeroed ends

pub returns-in_err-resolve_into-clause-refused : goal.returns-in_err-resolve_into-clause-refused
returns-in_err-resolve_into-clause-refused g c = err_by c.from_residual.result c.in_err-resolve_into.field-0.0 _ c.from_residual.ensures.1
    (fills_broken _ _ g.T.Archived.Portable.layout g.met.T.Archived.Portable.has_layout _ _ _ _ _ _ _ _ _ _ _ c.in-Some-split_first.value.now c.in-Some.resolver c.in-Some-split_first.ensures.cases.0 c.in-Some.ensures.steps.0
    _ c.in_err-resolve_into.ensures.refused c.loop-resolver.invariant.fills)

pub loop-resolver-preserved : goal.loop-resolver-preserved
loop-resolver-preserved g c =
    let z = g.T.Archived.Portable.layout.size in
    let first = c.in-Some-split_first.ensures.cases.0 in
    let kept = c.loop-resolver.invariant in
    let o = c.loop-resolver.begin in
    let old = c.loop-resolver.bytes in
    let w = c.size-size.result in
    let new = c.resolve_into.new.bytes in
    let behind = left_behind o z _ _ _ _ first kept.left in
    let ends : c.args.pos + length old < 2 ^ 64 = omega (arith, kept.room, c.requires.zeroed.sized, c.requires.zeroed.ends) in
    let same : w ≡ z = its_size o z _ _ _ _ first kept.left w c.args.pos c.size-size.ensures ends in
    let k : o + w - o ≡ w = omega arith in
    let few : o + w ≤ length old = omega (arith, behind, same) in
    let sized : length new ≡ w = omega (arith, few, c.resolve_into.ensures.same_length, length-take (o + w - o) (drop o old), length-drop o old) in
    record {
      can_next = tt;
      finite = tt;
      room = put_length o (o + w - o) w (o + w) old new k refl few sized ∙ kept.room;
      left = omega (arith, behind, same, put_length o (o + w - o) w (o + w) old new k refl few sized);
      zeroed = rw (behind_is o (o + w - o) w (o + w) old new k refl few sized) (zeroed_behind (o + w - o) (drop o old) kept.zeroed);
      fills = fills_more _ _ g.T.Archived.Portable.layout g.met.T.Archived.Portable.has_layout _ _ _ _ _ _ _ _ _ _ _ c.in-Some-split_first.value.now c.in-Some.resolver first c.in-Some.ensures.steps.0
          (c.args.pos + (o + w)) new _ (omega (arith, same)) (before_is o (o + w - o) w (o + w) old new k refl few sized) (sized ∙ same) c.in_ok-resolve_into.ensures.resolved kept.fills;
    }

pub returns-clause-resolved : goal.returns-clause-resolved
returns-clause-resolved g c =
    let kept = c.loop-resolver.invariant in
    fills_end _ _ g.T.Archived.Portable.layout g.met.T.Archived.Portable.has_layout _ _ _ _ _ _ _ c.loop-resolver.bytes _ _ (sym c.loop-resolver.resolver-iterator.rest.ok.0 ∙ c.in-None.ensures.steps.0)
    (λ none. take_all c.loop-resolver.begin c.loop-resolver.bytes (none_left c.loop-resolver.begin _ g.T.Archived.Portable.layout.size _ kept.left none)) kept.fills
