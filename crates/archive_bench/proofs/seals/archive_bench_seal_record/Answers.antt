use Rattle.std.proofs.Common.{refl}
use Rattle.archive_core.proofs.SealedParts.{root_comes}
use Rattle.archive_bench.proofs.seals.archive_bench_seal_record.Goals as goal

pub written_over-requires-clause-come_to : goal.written_over-requires-clause-come_to
written_over-requires-clause-come_to c =
    rw (c.spot-root.ensures.position, c.spot-root.ensures.length, c.in-Ok.ensures.position, c.in-Ok.ensures.whole) (root_comes _ _ _ _ c.in-Ok.ensures.answer.accepted)
