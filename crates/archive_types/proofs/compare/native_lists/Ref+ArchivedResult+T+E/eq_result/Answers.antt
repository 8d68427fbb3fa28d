use Rattle.archive_types.proofs.Comparing.ComparedValues.{result_equals}
use Rattle.archive_types.proofs.compare.native_lists.Ref+ArchivedResult+T+E.eq_result.Goals as goal

pub returns-clause-by_value : goal.returns-clause-by_value
returns-clause-by_value g c = result_equals g.T.ArchivePointee.definitions g.E.ArchivePointee.definitions g.T.Portable.shape g.E.Portable.shape g.T.Portable.layout g.E.Portable.layout g.met.T.Portable.is_align g.met.E.Portable.is_align g.met.T.Portable.has_layout g.met.E.Portable.has_layout g.T.ArchivePointee.pointee g.E.ArchivePointee.pointee g.met.T.Portable.is_one g.met.E.Portable.is_one g.U.Archive.meaning g.W.Archive.meaning g.T.CompareNative.native_order g.E.CompareNative.native_order g.met.T.CompareNative.native_by_value g.met.E.CompareNative.native_by_value c.args.self.bytes.now c.args.self.pos c.args.self.len c.args.outcome.now c.is_result.result c.is_result.ensures
