use Rattle.std.proofs.Common.{arith}
use Rattle.archive_types.proofs.Maps.PairsLeft.{pairs_count, last_left}
use Rattle.archive_types.proofs.map.iter.IterDoubleEndedIterator.next_back.Goals as goal

pub returns-clause-steps : goal.returns-clause-steps
returns-clause-steps g c = rw (c.pair-pair.ensures) (last_left _ _ _ _ _ _ (omega (arith, c.if-self.false)))

pub returns-clause-goes : goal.returns-clause-goes
returns-clause-goes g c = record {
  on = λ _. (tt, tt, rw (pairs_count, pairs_count) (omega (arith, c.if-self.false)));
  keeps = tt;
  rests = λ _. tt;
}
