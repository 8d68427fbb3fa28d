use Rattle.archive_check.specs.Expressions.{shape_of, entries_of}
use Rattle.archive_schema.proofs.Given.{taken, holds_itself}
use Rattle.archive_schema.proofs.plan.PreparedDefinitions.{collected_complete}
use Rattle.archive_schema.proofs.shape.given.taken.Goals as goal

pub in_order-requires : goal.in_order-requires
in_order-requires c = collected_complete (entries_of c.args.definitions.items) (shape_of c.args.root.now) (entries_of c.in-Ok.found.items) c.in-Ok.ensures.ok

pub returns-in-Ok-in_order-clause-ok : goal.returns-in-Ok-in_order-clause-ok
returns-in-Ok-in_order-clause-ok c =
    taken (entries_of c.args.definitions.items) (shape_of c.args.root.now) (entries_of c.in-Ok.found.items) c.in-Ok.ensures.ok (entries_of c.in-Ok-in_order.placed.items) c.in-Ok-in_order.ensures.ok

pub returns-clause-err : goal.returns-clause-err
returns-clause-err c =
    holds_itself (entries_of c.args.definitions.items) (shape_of c.args.root.now) (entries_of c.in-Ok.found.items) c.in-Ok.ensures.ok c.in-Err-in_order.error c.in-Err-in_order.ensures.err
