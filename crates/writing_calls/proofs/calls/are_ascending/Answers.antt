use Rattle.writing_calls.proofs.calls.are_ascending.Goals as goal

pub returns : goal.returns
returns g c = c.is_ascending.ensures
