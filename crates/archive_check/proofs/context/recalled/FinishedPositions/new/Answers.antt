use Rattle.archive_check.proofs.context.recalled.FinishedPositions.new.Goals as goal

pub returns : goal.returns
returns g c = λ kept key held says. absurd (c.new.ensures key held says)
