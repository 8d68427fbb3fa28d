use Rattle.std.proofs.lemmas.List.{take_rest}
use Rattle.archive_types.proofs.Copying.Copies.{left_behind, left_written, left_read, left_unwritten}
use Rattle.archive_types.proofs.slice.copying.copy_long.Goals as goal

pub returns-clause-copied : goal.returns-clause-copied
returns-clause-copied g c =
    let first = c.copy_first-done in
    left_written _ _ _ _ _ _ _ (g.W.Keys.state c.copy_by.new.writer) _ _
    (left_behind g.T.CopiedAs.ArchivePointee.definitions g.T.CopiedAs.Portable.shape g.T.CopiedAs.Portable.layout.size g.T.Copied.copied_meaning g.T.Copied.copied_bytes
    (g.W.Keys.state c.args.writer.now) (g.W.Keys.state first.new.writer) c.args.values.now first.result c.args.size _ (take_rest c.args.values.now first.result) c.requires.same
    first.ensures.read first.ensures.copied first.ensures.goes_on first.ensures.keys)
    c.copy_by.result c.copy_by.ensures.copied

pub returns-clause-read : goal.returns-clause-read
returns-clause-read g c =
    let first = c.copy_first-done in
    left_read _ _ _ _ _ _ _ (g.W.Keys.state c.copy_by.new.writer) _ _
    (left_behind g.T.CopiedAs.ArchivePointee.definitions g.T.CopiedAs.Portable.shape g.T.CopiedAs.Portable.layout.size g.T.Copied.copied_meaning g.T.Copied.copied_bytes
    (g.W.Keys.state c.args.writer.now) (g.W.Keys.state first.new.writer) c.args.values.now first.result c.args.size _ (take_rest c.args.values.now first.result) c.requires.same
    first.ensures.read first.ensures.copied first.ensures.goes_on first.ensures.keys)
    c.copy_by.result c.copy_by.ensures.read

pub returns-clause-refused : goal.returns-clause-refused
returns-clause-refused g c =
    let first = c.copy_first-done in
    left_unwritten _ _ _ _ _ _ _ (g.W.Keys.state c.copy_by.new.writer) _ _
    (left_behind g.T.CopiedAs.ArchivePointee.definitions g.T.CopiedAs.Portable.shape g.T.CopiedAs.Portable.layout.size g.T.Copied.copied_meaning g.T.Copied.copied_bytes
    (g.W.Keys.state c.args.writer.now) (g.W.Keys.state first.new.writer) c.args.values.now first.result c.args.size _ (take_rest c.args.values.now first.result) c.requires.same
    first.ensures.read first.ensures.copied first.ensures.goes_on first.ensures.keys)
    c.copy_by.result _ _ (g.met.W.Writer.position_law _) (g.met.W.Writer.position_law _) c.copy_by.ensures.goes_on c.copy_by.ensures.refused
