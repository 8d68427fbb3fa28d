use Rattle.tests_whole.proofs.archive.endless.+follow.Given as goal

abbrev pub decreases-follow : goal.decreases-follow
decreases-follow g l = l.left
