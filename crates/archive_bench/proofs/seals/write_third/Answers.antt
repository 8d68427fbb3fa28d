use Rattle.archive_core.proofs.ComePart.{come_viewed}
use Rattle.archive_core.proofs.SealedParts.{comes_on}
use Rattle.archive_core.specs.PartsLayout.{knows_at}
use Rattle.archive_core.proofs.SealsTogether.{sealed_still}
use Rattle.archive_bench.proofs.seals.write_third.Goals as goal

pub write_leaf-requires-clause-come_to : goal.write_leaf-requires-clause-come_to
write_leaf-requires-clause-come_to g c =
    comes_on (λ s k. c.requires.definitions s (knows_at s _ 2 (g.met.R.Record.has_parts.known s k))) _ _ _ _ _ _ _ (rw (c.view.ensures.buffer, c.view.ensures.position, c.view.ensures.length) at c.in-Some.ensures) c.requires.come_to

pub view-requires : goal.view-requires
view-requires g c = come_viewed _ _ _ _ _ c.requires.come_to

pub returns : goal.returns
returns g c = record {
  come_to = sealed_still _ _ _ _ _ _ _ _ _ (rw (c.view.ensures.buffer, c.view.ensures.position, c.view.ensures.length) at c.in-Some.ensures) c.write_leaf.ensures c.requires.come_to;
}
