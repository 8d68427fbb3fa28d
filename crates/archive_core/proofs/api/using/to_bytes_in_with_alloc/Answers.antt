use Rattle.std.proofs.Common.{rules, Ok}
use Rattle.archive_types.proofs.Planning.Causes.{err_by, err_at}
use Rattle.archive_core.proofs.OwnKeys.{goes_on, refused}
use Rattle.archive_core.proofs.Whole.{archives_of}
use Rattle.archive_core.proofs.api.using.to_bytes_in_with_alloc.Goals as goal

pub returns-in_err-serialize_one : goal.returns-in_err-serialize_one
returns-in_err-serialize_one g c = record {
  archived = search rules;
  goes_on = search rules;
  refused = err_by c.from_residual.result c.in_err-serialize_one.field-0.0 _ c.from_residual.ensures.1 (
    c.serialize_one.new.serializer.writer,
    rw (← c.new-serializer.ensures.writer) (goes_on (g.W.Keys.state c.new-serializer.result.writer) (g.W.Keys.state c.serialize_one.new.serializer.writer) _ _ c.serialize_one.ensures.goes_on),
    rw (← c.new-serializer.ensures.writer) (refused _ _ _ _ _ (g.W.Keys.state c.new-serializer.result.writer) (g.W.Keys.state c.serialize_one.new.serializer.writer) _ _ c.in_err-serialize_one.field-0.0
        (rw c.new-serializer.ensures.sharing c.new.ensures) (err_at _ c.serialize_one.result c.in_err-serialize_one.field-0.0 c.in_err-serialize_one.was c.serialize_one.ensures.refused)),
  );
}

pub returns : goal.returns
returns g c = record {
  archived = (
    c.in_ok-serialize_one.field-0,
    rw (c.into_writer.ensures, ← c.new-serializer.ensures.writer)
        (archives_of (Ok c.in_ok-serialize_one.field-0) _ _ _ _ _ _ _ (rw c.new-serializer.ensures.sharing c.new.ensures)
        (g.met.T.Archive.keyed c.args.value.now) (rw c.in_ok-serialize_one.was at c.serialize_one.ensures.serialized) (rw c.in_ok-serialize_one.was at c.serialize_one.ensures.ends)),
  );
  goes_on = rw (c.into_writer.ensures, ← c.new-serializer.ensures.writer) (goes_on (g.W.Keys.state c.new-serializer.result.writer) (g.W.Keys.state c.serialize_one.new.serializer.writer) _ _ c.serialize_one.ensures.goes_on);
  refused = tt;
}
