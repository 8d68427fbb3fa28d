use Rattle.std.proofs.Common.{rules, arith, length, ap, ◌≤◌}
use Rattle.std.specs.Prelude.{is_some}
use Rattle.archive_types.specs.Members.PlannedOwners.{each_planned}
use Rattle.archive_types.proofs.Copying.BulkWritten.{long_in_bulk, none_in_bulk, refused_in_bulk}
use Rattle.archive_types.proofs.Writing.RunRegions.{long_run_refused}
use Rattle.archive_types.proofs.slice.sources.serialize_slice.Goals as goal

pub returns-then-values-clause-outcome : goal.returns-then-values-clause-outcome
returns-then-values-clause-outcome g c = record {
  serialized = search rules;
  goes_on = search rules;
  refused = long_run_refused _ _ _ _ _ _ _ (each_planned _ _ _ _ g.met.T.Archive.planned c.args.values.now) c.if-values.true;
}

pub returns-then-values-clause-in_bulk : goal.returns-then-values-clause-in_bulk
returns-then-values-clause-in_bulk g c = long_in_bulk g.T.Archived.Portable.layout c.args.values.now _ _ _ g.S.Writer.takes_memory g.T.Archive.in_bulk c.if-values.true

pub returns-in_err-copied-clause-in_bulk : goal.returns-in_err-copied-clause-in_bulk
returns-in_err-copied-clause-in_bulk g c =
    let few : length c.args.values.now ≤ 4294967295 = omega (arith, c.if-values.false) in
    refused_in_bulk g.T.Archived.Portable.layout c.args.values.now _ _ _ g.S.Writer.takes_memory few (g.met.S.Writer.position_law _) g.T.Archive.in_bulk
    c.from_residual.result c.in_err-copied.field-0.0 c.from_residual.ensures.1 c.in_err-copied.ensures.outcome.fails_on c.in_err-copied.ensures.outcome.not_in_bulk.1 c.in_err-copied.ensures.exact

pub returns-in_default-clause-in_bulk : goal.returns-in_default-clause-in_bulk
returns-in_default-clause-in_bulk g c =
    let few : length c.args.values.now ≤ 4294967295 = omega (arith, c.if-values.false) in
    none_in_bulk g.T.Archived.Portable.layout c.args.values.now _ _ _ g.S.Writer.takes_memory few g.T.Archive.in_bulk _ _ c.in_ok-copied.copied
    (ap is_some c.in_default.is) c.in_ok-copied.ensures.exact
