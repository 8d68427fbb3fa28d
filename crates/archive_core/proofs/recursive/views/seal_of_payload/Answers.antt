use Rattle.archive_core.proofs.recursive.views.seal_of_payload.Goals as goal

pub payload-requires-clause-definitions : goal.payload-requires-clause-definitions
payload-requires-clause-definitions g c = rw c.requires.tag c.requires.definitions
