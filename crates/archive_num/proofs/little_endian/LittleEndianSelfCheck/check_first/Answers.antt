use Rattle.archive_num.proofs.little_endian.LittleEndianSelfCheck.check_first.Goals as goal

pub returns-clause-good : goal.returns-clause-good
returns-clause-good g c = rw c.kind.ensures at c.check_first_leaves.ensures.good
