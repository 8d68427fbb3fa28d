use Rattle.std.proofs.Common.{◌-◌, ◌≡◌, ◌≤◌}
use Rattle.archive_types.proofs.Comparing.Compared.{rest}
use Rattle.archive_types.proofs.compare.runs.skip.Given as goal

abbrev pub invariant-loop-at : goal.invariant-loop-at
invariant-loop-at g l =
    let z = g.T.Portable.layout.size in
    (l.at ≤ l.both)
    × (rest g.T.Ordered.order l.a.bytes.now l.a.pos z l.b.bytes.now l.b.pos l.from l.a.len l.b.len
    ≡ rest g.T.Ordered.order l.a.bytes.now l.a.pos z l.b.bytes.now l.b.pos l.at l.a.len l.b.len)

abbrev pub decreases-loop-at : goal.decreases-loop-at
decreases-loop-at g l = l.both - l.at
