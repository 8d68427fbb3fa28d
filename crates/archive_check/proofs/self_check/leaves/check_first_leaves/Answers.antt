use Rattle.archive_check.specs.Walk.{walk_leaf}
use Rattle.archive_check.proofs.SelfCheck.Ways.{goes_same}
use Rattle.archive_check.proofs.self_check.leaves.check_first_leaves.Goals as goal

pub returns-clause-good : goal.returns-clause-good
returns-clause-good c k s lt = goes_same _ _ s (λ t known pending seen. walk_leaf (c.count_legal.ensures.legal k lt))
