use Rattle.archive_schema.proofs.plan.names.gather.Goals as goal

pub returns-clause-ok : goal.returns-clause-ok
returns-clause-ok c = record { def = c.in-Some.def; taken = c.in-Some.ensures; added = c.in_ok-push.ensures.items }
