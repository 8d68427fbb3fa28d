use Rattle.tests_whole.proofs.seals.a_lent_seal_writes.Goals as goal

pub write-requires-clause-come_to : goal.write-requires-clause-come_to
write-requires-clause-come_to g c = rw (c.reborrow.ensures.buffer, c.reborrow.ensures.position, c.reborrow.ensures.length) c.sealed-number.ensures.come_to
