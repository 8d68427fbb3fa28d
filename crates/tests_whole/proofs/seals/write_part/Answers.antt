use Rattle.std.proofs.Common.{refl}
use Rattle.archive_core.specs.PartsLayout.{knows_at}
use Rattle.archive_core.proofs.SealedParts.{root_comes, comes_on, field_comes}
use Rattle.archive_core.proofs.SealsTogether.{sealed_still}
use Rattle.tests_whole.proofs.seals.write_part.Goals as goal

pub view-requires : goal.view-requires
view-requires g c = rw c.in-Ok.ensures.buffer at c.spot-root.ensures.viewed

pub seal-seal-requires : goal.seal-seal-requires
seal-seal-requires g c =
    rw (c.spot-root.ensures.position, c.spot-root.ensures.length, c.in-Ok.ensures.position, c.in-Ok.ensures.whole, g.met.R.Portable.is_one) (root_comes _ _ _ _ c.in-Ok.ensures.answer.accepted)

pub write_at-requires-clause-come_to : goal.write_at-requires-clause-come_to
write_at-requires-clause-come_to g c =
    let root = rw (c.seal-seal.ensures.buffer, c.seal-seal.ensures.position, c.seal-seal.ensures.length) at c.seal-seal.ensures.come_to in
    rw (c.seal-seal.ensures.buffer, c.spot-part.ensures.position, c.spot-part.ensures.length, c.field.ensures.position, c.field.ensures.length, c.view.ensures.position)
    (comes_on (λ s k. c.requires.definitions s (knows_at s _ c.args.i (g.met.R.Record.has_parts.known s k))) _ _ _ _ _ _ _ (field_comes _ _ _ _ g.met.R.Record.has_parts _ _ _ _ g.met.R.Portable.is_one _ _ _ g.met.R.Parts.PortableParts.laid_out c.args.i _ c.requires.part _ refl) root)

pub as_ref-requires : goal.as_ref-requires
as_ref-requires g c =
    let keeps = rw (c.seal-seal.ensures.buffer, c.spot-part.ensures.position, c.spot-part.ensures.length, c.field.ensures.position, c.field.ensures.length, c.view.ensures.position) at c.write_at.ensures.written.seals in
    let root = rw (c.seal-seal.ensures.buffer, c.seal-seal.ensures.position, c.seal-seal.ensures.length) at c.seal-seal.ensures.come_to in
    rw (c.write_at.ensures.position, c.write_at.ensures.length, c.seal-seal.ensures.position, c.seal-seal.ensures.length)
    (sealed_still _ _ _ _ _ _ _ _ _ (field_comes _ _ _ _ g.met.R.Record.has_parts _ _ _ _ g.met.R.Portable.is_one _ _ _ g.met.R.Parts.PortableParts.laid_out c.args.i _ c.requires.part _ refl) keeps root)
