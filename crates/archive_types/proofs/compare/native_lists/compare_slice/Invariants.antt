use Rattle.std.proofs.Common.{◌≡◌, ◌≤◌, length}
use Rattle.std.specs.Cmp.Lexicographic.{slice_cmp}
use Rattle.archive_types.specs.Compared.{elements_from}
use Rattle.archive_types.proofs.Comparing.Compared.{left_order}
use Rattle.archive_types.proofs.compare.native_lists.compare_slice.Given as goal

abbrev pub invariant-loop-index : goal.invariant-loop-index
invariant-loop-index g l =
    let z = g.T.Portable.layout.size in
    (l.index ≤ length l.values)
    × (slice_cmp g.T.CompareNative.native_order (elements_from l.view.bytes.now l.view.pos z 0 l.view.len) l.values
    ≡ left_order g.T.CompareNative.native_order l.view.bytes.now l.view.pos z l.values l.index l.view.len)
