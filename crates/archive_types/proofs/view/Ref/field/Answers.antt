use Rattle.std.proofs.Common.{◌≡◌, ◌+◌, ◌≤◌, length, arith, refl}
use Rattle.archive_types.proofs.Viewing.KnownParts.{viewed_also}
use Rattle.archive_types.proofs.Viewing.FieldsShown.{field_viewed, field_within, field_shows}
use Rattle.archive_types.proofs.view.Ref.field.Goals as goal

pub overflow_add-pos : goal.overflow_add-pos
overflow_add-pos g c =
    omega (arith, c.offset.ensures, field_within _ _ _ _ g.met.T.Record.has_parts c.part-pos.result.bytes.now c.part-pos.result.pos _ _ g.met.T.Portable.is_one _ _ _ g.met.T.Parts.PortableParts.laid_out c.args.i _ c.requires.part c.part-pos.ensures.viewed)

pub at-requires : goal.at-requires
at-requires g c =
    let within = field_within _ _ _ _ g.met.T.Record.has_parts c.part-pos.result.bytes.now c.part-pos.result.pos _ _ g.met.T.Portable.is_one _ _ _ g.met.T.Parts.PortableParts.laid_out c.args.i _ c.requires.part c.part-pos.ensures.viewed in
    let here : c.offset.result ≡ g.T.Parts.PortableParts.begin 0 c.args.i = omega (arith, c.offset.ensures, within) in
    rw (g.met.U.Portable.is_one, here) (viewed_also c.requires.definitions (field_viewed _ _ _ _ g.met.T.Record.has_parts c.part-pos.result.bytes.now c.part-pos.result.pos _ _ g.met.T.Portable.is_one _ _ _ g.met.T.Parts.PortableParts.laid_out c.args.i _ c.requires.part _ refl c.part-pos.ensures.viewed))

pub returns-clause-position : goal.returns-clause-position
returns-clause-position g c =
    let within = field_within _ _ _ _ g.met.T.Record.has_parts c.part-pos.result.bytes.now c.part-pos.result.pos _ _ g.met.T.Portable.is_one _ _ _ g.met.T.Parts.PortableParts.laid_out c.args.i _ c.requires.part c.part-pos.ensures.viewed in
    let here : c.offset.result ≡ g.T.Parts.PortableParts.begin 0 c.args.i = omega (arith, c.offset.ensures, within) in
    rw (← c.part-pos.ensures.position, c.at.ensures.position, here) refl

pub returns-clause-shows : goal.returns-clause-shows
returns-clause-shows g c =
    rw (returns-clause-position g c) (field_shows _ _ _ _ g.met.T.Record.has_parts c.args.self.bytes.now c.args.self.pos _ _ g.met.T.Portable.is_one _ _ _ g.met.T.Parts.PortableParts.laid_out c.args.i _ c.requires.part _ g.met.U.Portable.is_one)
