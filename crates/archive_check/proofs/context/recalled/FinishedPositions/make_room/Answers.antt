use Rattle.archive_check.proofs.context.recalled.FinishedPositions.make_room.Goals as goal

pub returns : goal.returns
returns g c = λ kept before key held says. before key held (c.make_room.ensures key held says)
