use Rattle.std.proofs.Common.{◌≡◌, ◌+◌, ◌≤◌, length, slice_index, arith, refl}
use Rattle.archive_check.proofs.Viewing.ViewedPayloads.{choice_tag_fits, payload_viewed, payload_within}
use Rattle.archive_types.proofs.Viewing.KnownParts.{viewed_also}
use Rattle.archive_types.proofs.Viewing.ChoicesShown.{payload_shows}
use Rattle.archive_types.proofs.view.Ref.payload.Goals as goal

pub bounds-bytes-pos : goal.bounds-bytes-pos
bounds-bytes-pos g c = choice_tag_fits _ _ _ _ _ g.met.T.Choice.has_variants _ _ _ _ g.met.T.Portable.is_one c.part-pos.ensures.viewed

pub overflow_add-pos : goal.overflow_add-pos
overflow_add-pos g c =
    let at = rw (← c.part-pos.ensures.buffer, ← c.part-pos.ensures.position) at c.requires.part in
    omega (arith, c.offset.ensures, payload_within _ _ _ _ _ g.met.T.Choice.has_variants c.part-pos.result.bytes.now c.part-pos.result.pos _ _ g.met.T.Portable.is_one _ _ _ g.met.T.Variants.PortableVariants.laid_out c.args.i _ at c.part-pos.ensures.viewed)

pub at-requires : goal.at-requires
at-requires g c =
    let at = rw (← c.part-pos.ensures.buffer, ← c.part-pos.ensures.position) at c.requires.part in
    let of = rw (← c.part-pos.ensures.buffer, ← c.part-pos.ensures.position) at c.requires.definitions in
    let within = payload_within _ _ _ _ _ g.met.T.Choice.has_variants c.part-pos.result.bytes.now c.part-pos.result.pos _ _ g.met.T.Portable.is_one _ _ _ g.met.T.Variants.PortableVariants.laid_out c.args.i _ at c.part-pos.ensures.viewed in
    let here : c.offset.result ≡ g.T.Variants.PortableVariants.begin (slice_index c.part-pos.result.bytes.now c.part-pos.result.pos) c.args.i = omega (arith, c.offset.ensures, within) in
    rw (g.met.U.Portable.is_one, here) (viewed_also of (payload_viewed _ _ _ _ _ g.met.T.Choice.has_variants c.part-pos.result.bytes.now c.part-pos.result.pos _ _ g.met.T.Portable.is_one _ _ _ g.met.T.Variants.PortableVariants.laid_out c.args.i _ at _ refl c.part-pos.ensures.viewed))

pub returns-clause-position : goal.returns-clause-position
returns-clause-position g c =
    let at = rw (← c.part-pos.ensures.buffer, ← c.part-pos.ensures.position) at c.requires.part in
    let within = payload_within _ _ _ _ _ g.met.T.Choice.has_variants c.part-pos.result.bytes.now c.part-pos.result.pos _ _ g.met.T.Portable.is_one _ _ _ g.met.T.Variants.PortableVariants.laid_out c.args.i _ at c.part-pos.ensures.viewed in
    let here : c.offset.result ≡ g.T.Variants.PortableVariants.begin (slice_index c.part-pos.result.bytes.now c.part-pos.result.pos) c.args.i = omega (arith, c.offset.ensures, within) in
    rw (← c.part-pos.ensures.buffer, ← c.part-pos.ensures.position, c.at.ensures.position, here) refl

pub returns-clause-shows : goal.returns-clause-shows
returns-clause-shows g c =
    rw (returns-clause-position g c) (payload_shows _ _ _ _ _ g.met.T.Choice.has_variants c.args.self.bytes.now c.args.self.pos _ _ g.met.T.Portable.is_one _ _ _ g.met.T.Variants.PortableVariants.laid_out c.args.i _ c.requires.part _ g.met.U.Portable.is_one)
