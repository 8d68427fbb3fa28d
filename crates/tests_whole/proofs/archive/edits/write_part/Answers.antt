use Rattle.std.proofs.Common.{refl}
use Rattle.archive_core.specs.PartsLayout.{knows_at}
use Rattle.archive_core.proofs.SealedParts.{comes_on, field_comes}
use Rattle.archive_core.proofs.SealsTogether.{sealed_still}
use Rattle.tests_whole.proofs.archive.edits.write_part.Goals as goal

pub write_string_at-requires-clause-come_to : goal.write_string_at-requires-clause-come_to
write_string_at-requires-clause-come_to g c =
    rw (c.spot-spot.ensures.position, c.spot-spot.ensures.length, c.field-part.ensures.position, c.field-part.ensures.length, c.as_ref.ensures.position)
    (comes_on (λ s k. rw c.requires.definitions at (knows_at s _ c.args.i (g.met.R.Record.has_parts.known s k))) _ _ _ _ _ _ _ (field_comes _ _ _ _ g.met.R.Record.has_parts _ _ _ _ g.met.R.Portable.is_one _ _ _ g.met.R.Parts.PortableParts.laid_out c.args.i _ c.requires.part _ refl) c.requires.come_to)

pub returns-clause-come_to : goal.returns-clause-come_to
returns-clause-come_to g c =
    let keeps = rw (c.spot-spot.ensures.position, c.spot-spot.ensures.length, c.field-part.ensures.position, c.field-part.ensures.length, c.as_ref.ensures.position) at c.write_string_at.ensures.written.seals in
    rw (c.write_string_at.ensures.position, c.write_string_at.ensures.length) (sealed_still _ _ _ _ _ _ _ _ _ (field_comes _ _ _ _ g.met.R.Record.has_parts _ _ _ _ g.met.R.Portable.is_one _ _ _ g.met.R.Parts.PortableParts.laid_out c.args.i _ c.requires.part _ refl) keeps c.requires.come_to)
