use Rattle.std.proofs.Common.{◌≡◌, ◌-◌}
use Rattle.archive_types.proofs.Comparing.Compared.{fed_from}
use Rattle.archive_types.proofs.compare.lists.ArchivedSliceOrdered.hash_part.Given as goal

abbrev pub invariant-loop-index : goal.invariant-loop-index
invariant-loop-index g l =
    let b = l.slice.bytes.now in
    fed_from g.H.Hasher.write g.T.Ordered.hash_input b l.slice.pos g.T.Portable.layout.size l.initial.state 0 l.slice.len
    ≡ fed_from g.H.Hasher.write g.T.Ordered.hash_input b l.slice.pos g.T.Portable.layout.size l.state l.index (l.slice.len - l.index)
