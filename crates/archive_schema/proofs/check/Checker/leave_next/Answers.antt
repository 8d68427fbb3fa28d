use Rattle.archive_schema.proofs.check.Rows.{stays, goes_on}
use Rattle.archive_schema.proofs.check.Checker.leave_next.Goals as goal

pub returns-in-Some-clause-turn : goal.returns-in-Some-clause-turn
returns-in-Some-clause-turn g c = goes_on c.in-Some.ensures.some c.requires.ready c.leave_regions.ensures.turn

pub returns-in-None-clause-turn : goal.returns-in-None-clause-turn
returns-in-None-clause-turn g c = rw c.in-None.ensures.none (stays c.requires.ready)
