use Rattle.std.proofs.lemmas.Result.{IfErr-weaker}
use Rattle.archive_core.proofs.OwnKeys.{goes_on, refused}
use Rattle.archive_core.proofs.Whole.{archives_of}
use Rattle.archive_core.proofs.api.serialize_whole.Goals as goal

pub returns : goal.returns
returns g c = record {
  archived = rw (c.into_writer.ensures, ← c.new-serializer.ensures.writer)
      (archives_of c.serialize_one-root.result _ _ _ _ _ _ _ (rw c.new-serializer.ensures.sharing c.new.ensures)
      (g.met.T.Archive.keyed c.args.value.now) c.serialize_one-root.ensures.serialized c.serialize_one-root.ensures.ends);
  goes_on = rw (c.into_writer.ensures, ← c.new-serializer.ensures.writer) (goes_on (g.W.Keys.state c.new-serializer.result.writer) (g.W.Keys.state c.serialize_one-root.new.serializer.writer) _ _ c.serialize_one-root.ensures.goes_on);
  refused = rw (c.into_writer.ensures, ← c.new-serializer.ensures.writer)
      (IfErr-weaker c.serialize_one-root.result _ _ (λ e h. refused _ _ _ _ _ (g.W.Keys.state c.new-serializer.result.writer) (g.W.Keys.state c.serialize_one-root.new.serializer.writer) _ _ e (rw c.new-serializer.ensures.sharing c.new.ensures) h) c.serialize_one-root.ensures.refused);
}
