use Rattle.std.proofs.Common.{rules}
use Rattle.archive_types.proofs.Copying.ArrayCopies.{arrays_copied_if, arrays_stored_if, arrays_uncopied, arrays_unstored}
use Rattle.archive_types.proofs.Copying.BulkWritten.{arrays_in_bulk, uncounted_in_bulk}
use Rattle.archive_types.proofs.Planning.Causes.{err_from}
use Rattle.archive_types.proofs.array.sources.ArrayArchive.serialize_copied.Goals as goal

pub returns-clause-outcome : goal.returns-clause-outcome
returns-clause-outcome g c = record {
  serialized = arrays_stored_if _ _ _ _ g.row.N g.T.Archived.Portable.layout g.met.T.Archived.Portable.has_layout g.met.T.Archived.Portable.is_align
      c.args.values.now c.each_is_whole.ensures _ _ c.serialize_copied.result (arrays_copied_if _ _ _ _ g.row.N g.T.Archived.Portable.layout g.met.T.Archived.Portable.has_layout g.met.T.Archived.Portable.is_align
      c.args.values.now c.each_is_whole.ensures _ _ c.serialize_copied.result _ c.as_flattened.ensures.value c.serialize_copied.ensures.outcome.in_bulk);
  in_bulk = arrays_copied_if _ _ _ _ g.row.N g.T.Archived.Portable.layout g.met.T.Archived.Portable.has_layout g.met.T.Archived.Portable.is_align
      c.args.values.now c.each_is_whole.ensures _ _ c.serialize_copied.result _ c.as_flattened.ensures.value c.serialize_copied.ensures.outcome.in_bulk;
  untouched = search rules;
  goes_on = search rules;
  fails_on = search rules;
  refused = err_from c.serialize_copied.result (err_from c.serialize_copied.result c.serialize_copied.ensures.outcome.not_in_bulk
      (λ e h. arrays_uncopied _ _ _ _ g.row.N g.T.Archived.Portable.layout g.met.T.Archived.Portable.has_layout g.met.T.Archived.Portable.is_align
      c.args.values.now c.each_is_whole.ensures _ _ _ e c.as_flattened.ensures.value h))
      (λ e h. arrays_unstored _ _ _ _ g.row.N g.T.Archived.Portable.layout g.met.T.Archived.Portable.has_layout g.met.T.Archived.Portable.is_align
      c.args.values.now c.each_is_whole.ensures _ _ e h);
  not_in_bulk = err_from c.serialize_copied.result c.serialize_copied.ensures.outcome.not_in_bulk
      (λ e h. arrays_uncopied _ _ _ _ g.row.N g.T.Archived.Portable.layout g.met.T.Archived.Portable.has_layout g.met.T.Archived.Portable.is_align
      c.args.values.now c.each_is_whole.ensures _ _ _ e c.as_flattened.ensures.value h);
}

pub returns-clause-exact : goal.returns-clause-exact
returns-clause-exact g c = arrays_in_bulk g.T.Archived.Portable.layout g.row.N c.args.values.now _ _ g.S.Writer.takes_memory g.T.Archive.in_bulk c.serialize_copied.result _ c.args.together
    c.joined.result c.as_flattened.ensures.value c.each_is_whole.ensures c.joined.ensures c.serialize_copied.ensures.exact

pub returns-then-uncountable-clause-exact : goal.returns-then-uncountable-clause-exact
returns-then-uncountable-clause-exact g c = uncounted_in_bulk g.T.Archived.Portable.layout g.row.N c.args.values.now _ _ g.S.Writer.takes_memory g.T.Archive.in_bulk _ c.args.together
    (c.uncountable.ensures.0 c.if-uncountable.true)
