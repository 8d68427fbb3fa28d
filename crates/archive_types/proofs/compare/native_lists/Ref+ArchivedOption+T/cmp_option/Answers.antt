use Rattle.archive_types.proofs.Comparing.ComparedValues.{option_compares}
use Rattle.archive_types.proofs.compare.native_lists.Ref+ArchivedOption+T.cmp_option.Goals as goal

pub returns-clause-by_value : goal.returns-clause-by_value
returns-clause-by_value g c = option_compares g.T.ArchivePointee.definitions g.T.Portable.shape g.T.Portable.layout g.met.T.Portable.has_layout g.T.ArchivePointee.pointee g.met.T.Portable.is_one g.U.Archive.meaning g.T.CompareNative.native_order g.met.T.CompareNative.native_by_value c.args.self.bytes.now c.args.self.pos c.args.self.len g.met.T.Portable.is_align c.args.option.now c.compare_option.result c.compare_option.ensures
