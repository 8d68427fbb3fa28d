use Rattle.std.proofs.Common.{◌≡◌, ◌≤◌}
use Rattle.std.specs.Cmp.Lexicographic.{slice_cmp}
use Rattle.archive_types.specs.Compared.{elements_from}
use Rattle.archive_types.proofs.Comparing.Compared.{rest}
use Rattle.archive_types.proofs.compare.lists.compare_elements.Given as goal

abbrev pub invariant-loop-index : goal.invariant-loop-index
invariant-loop-index g l =
    let z = g.T.Portable.layout.size in
    (l.index ≤ l.b.len)
    × (slice_cmp g.T.Ordered.order (elements_from l.a.bytes.now l.a.pos z 0 l.a.len) (elements_from l.b.bytes.now l.b.pos z 0 l.b.len)
    ≡ rest g.T.Ordered.order l.a.bytes.now l.a.pos z l.b.bytes.now l.b.pos l.index l.a.len l.b.len)
