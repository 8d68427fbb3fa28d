use Rattle.std.proofs.Common.{◌+◌, ◌≤◌, arith, ◌∙◌}
use Rattle.archive_types.proofs.Comparing.LevelRuns.{skipped}
use Rattle.archive_types.proofs.compare.runs.skip.Goals as goal

pub loop-at-preserved : goal.loop-at-preserved
loop-at-preserved g c =
    let z = g.T.Portable.layout.size in
    let k = c.min-count.result in
    let within : c.loop-at.at + k ≤ c.min-both.result = omega (arith, c.min-count.ensures, c.loop-at-test.true) in
    let first : c.loop-at.at + k ≤ c.args.a.len = omega (arith, within, c.min-both.ensures, c.len.ensures, c.len-2.ensures) in
    let second : c.loop-at.at + k ≤ c.args.b.len = omega (arith, within, c.min-both.ensures, c.len.ensures, c.len-2.ensures) in
    let level = rw c.requires.sized at g.met.T.Ordered.level in (
      within,
      c.loop-at.invariant.1
          ∙ skipped g.T.Ordered.order c.args.a.bytes.now c.args.a.pos z c.args.b.bytes.now c.args.b.pos c.requires.some.0 level c.loop-at.at k c.args.a.len c.args.b.len first second (c.are_same.ensures c.if-are_same.true),
    )
