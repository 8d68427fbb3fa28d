use Rattle.archive_check.specs.Expressions.{shape_of, entries_of, table_of}
use Rattle.archive_schema.proofs.plan.PreparedDefinitions.{explains_conflict, explains_lost, explains_held, prepares, collected_complete}
use Rattle.archive_schema.proofs.plan.names.definitions_of.Goals as goal

pub returns-in-Err-clause-refused : goal.returns-in-Err-clause-refused
returns-in-Err-clause-refused g c = explains_conflict g.T.ArchivePointee.definitions g.T.Portable.shape (table_of c.new-defs.result) c.in-Err.error c.new-defs.ensures g.met.T.Portable.no_others c.in-Err.ensures.refused

pub returns-in-Err-collect-clause-refused : goal.returns-in-Err-collect-clause-refused
returns-in-Err-collect-clause-refused g c =
    explains_lost g.T.ArchivePointee.definitions g.T.Portable.shape (table_of c.new-defs.result) (table_of c.define.new.defs) (entries_of c.into_items-given.result.items) (shape_of c.args.root.now)
    c.new-defs.ensures c.in_default.ensures.added c.into_items-given.ensures c.requires c.in-Err-collect.error c.in-Err-collect.ensures.err

pub in_order-requires : goal.in_order-requires
in_order-requires g c = collected_complete (entries_of c.into_items-given.result.items) (shape_of c.args.root.now) (entries_of c.in-Ok.found.items) c.in-Ok.ensures.ok

pub returns-in-Ok-in_order-clause-made : goal.returns-in-Ok-in_order-clause-made
returns-in-Ok-in_order-clause-made g c =
    prepares g.T.ArchivePointee.definitions g.T.Portable.shape (table_of c.new-defs.result) (table_of c.define.new.defs) (entries_of c.into_items-given.result.items) (shape_of c.args.root.now)
    c.new-defs.ensures c.in_default.ensures.added c.into_items-given.ensures c.requires (entries_of c.in-Ok.found.items) c.in-Ok.ensures.ok (entries_of c.in-Ok-in_order.placed.items) c.in-Ok-in_order.ensures.ok

pub returns-clause-refused : goal.returns-clause-refused
returns-clause-refused g c =
    explains_held g.T.ArchivePointee.definitions g.T.Portable.shape (table_of c.new-defs.result) (table_of c.define.new.defs) (entries_of c.into_items-given.result.items) (shape_of c.args.root.now)
    c.new-defs.ensures c.in_default.ensures.added c.into_items-given.ensures c.requires (entries_of c.in-Ok.found.items) c.in-Ok.ensures.ok c.in-Err-in_order.error c.in-Err-in_order.ensures.err
