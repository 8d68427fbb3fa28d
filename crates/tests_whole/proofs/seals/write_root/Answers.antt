use Rattle.archive_core.proofs.SealedParts.{root_comes}
use Rattle.tests_whole.proofs.seals.write_root.Goals as goal

pub seal-requires : goal.seal-requires
seal-requires g c =
    rw (c.spot-spot.ensures.position, c.spot-spot.ensures.length, c.in-Ok.ensures.position, c.in-Ok.ensures.whole, g.met.T.Portable.is_one) (root_comes _ _ _ _ c.in-Ok.ensures.answer.accepted)
