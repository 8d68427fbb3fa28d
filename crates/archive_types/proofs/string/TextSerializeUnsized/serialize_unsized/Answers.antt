use Rattle.std.proofs.Common.{rules}
use Rattle.archive_types.proofs.Planning.Causes.{err_by, goes_refused}
use Rattle.archive_types.proofs.Planning.Planned.{text_refused}
use Rattle.archive_types.proofs.string.TextSerializeUnsized.serialize_unsized.Goals as goal

pub returns-in_err-write_long-clause-outcome : goal.returns-in_err-write_long-clause-outcome
returns-in_err-write_long-clause-outcome g c = record {
  serialized = search rules;
  goes_on = search rules;
  refused = err_by c.from_residual.result c.in_err-write_long.field-0.0 _ c.from_residual.ensures.1
      (text_refused _ _ _ c.args.self.now.text.now _ _ (g.met.S.Writer.position_law c.args.serializer.now)
      (goes_refused _ _ c.in_err-write_long.ensures.kept c.in_err-write_long.ensures.room c.in_err-write_long.ensures.device c.in_err-write_long.ensures.keys)
      (rw c.as_bytes.ensures.value at c.in_err-write_long.ensures.refusal));
}
