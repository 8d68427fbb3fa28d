use Rattle.archive_nonzero.proofs.non_zero.NonZeroSelfCheck.check_first.Goals as goal

pub returns-clause-good : goal.returns-clause-good
returns-clause-good g c = rw c.non_zero_kind.ensures at c.check_first_leaves.ensures.good
