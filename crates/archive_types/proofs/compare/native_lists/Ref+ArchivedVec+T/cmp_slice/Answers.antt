use Rattle.archive_types.proofs.Comparing.ComparedValues.{vec_compares}
use Rattle.archive_types.proofs.compare.native_lists.Ref+ArchivedVec+T.cmp_slice.Goals as goal

pub returns-clause-by_value : goal.returns-clause-by_value
returns-clause-by_value g c = vec_compares g.T.ArchivePointee.definitions g.T.Portable.shape g.T.Portable.layout g.met.T.Portable.has_layout g.T.ArchivePointee.pointee g.met.T.Portable.is_one g.U.Archive.meaning g.T.CompareNative.native_order g.met.T.CompareNative.native_by_value c.args.self.bytes.now c.args.self.pos c.args.self.len c.args.values.now c.cmp_slice.result (rw (c.as_slice.ensures.buffer, c.as_slice.ensures.position, c.as_slice.ensures.length) at c.cmp_slice.ensures.order)
