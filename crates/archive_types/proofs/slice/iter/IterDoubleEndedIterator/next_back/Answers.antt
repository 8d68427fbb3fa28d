use Rattle.std.proofs.Common.{arith}
use Rattle.archive_types.proofs.Comparing.Compared.{count}
use Rattle.archive_types.proofs.Viewing.LastElements.{last_left}
use Rattle.archive_types.proofs.slice.iter.IterDoubleEndedIterator.next_back.Goals as goal

pub returns-clause-steps : goal.returns-clause-steps
returns-clause-steps g c =
    let item = c.element-item.ensures in
    rw (item.buffer, item.position, item.length) (last_left _ _ _ _ _ (omega (arith, c.if-self.false)))

pub returns-clause-goes : goal.returns-clause-goes
returns-clause-goes g c = record {
  on = λ _. (tt, tt, rw (count, count) (omega (arith, c.if-self.false)));
  keeps = tt;
  rests = λ _. tt;
}
