use Rattle.std.proofs.Common.{◌≡◌, ◌+◌, ◌*◌, ◌<◌, ◌≤◌, fold, arith, sym, ◌∙◌}
use Rattle.std.specs.Hash.{le_bytes}
use Rattle.archive_types.specs.Compared.{standing}
use Rattle.archive_types.proofs.Comparing.Compared.{fed_start, fed_step, fed_end, fed_whole}
use Rattle.archive_types.proofs.compare.lists.ArchivedSliceOrdered.hash_part.Goals as goal

pub loop-index-init : goal.loop-index-init
loop-index-init g c = fed_start g.H.Hasher.write g.T.Ordered.hash_input c.at-slice.result.bytes.now c.at-slice.result.pos g.T.Portable.layout.size _ c.at-slice.result.len

pub loop-index-preserved : goal.loop-index-preserved
loop-index-preserved g c =
    let s = c.at-slice.result in
    let i = c.loop-index.index in
    let below : i < s.len = omega (arith, c.loop-index-test.true, c.len-index-end.ensures) in
    let fed : c.hash_part.new.state ≡ fold g.H.Hasher.write c.loop-index.state (g.T.Ordered.hash_input (standing s.bytes.now (s.pos + i * g.T.Portable.layout.size) 0)) =
    rw (c.part.ensures.buffer, c.part.ensures.position, c.part.ensures.length, c.index.ensures.buffer, c.index.ensures.position, c.index.ensures.length) at c.hash_part.ensures in
    c.loop-index.invariant ∙ fed_step g.H.Hasher.write g.T.Ordered.hash_input s.bytes.now s.pos g.T.Portable.layout.size c.loop-index.state c.hash_part.new.state i s.len below fed

pub returns : goal.returns
returns g c =
    let s = c.at-slice.result in
    let end : s.len ≤ c.loop-index.index = omega (arith, c.loop-index-test.false, c.len-index-end.ensures) in
    let started : c.write_usize.new.self ≡ g.H.Hasher.write c.args.state.now (le_bytes 8 s.len) = rw c.len.ensures at c.write_usize.ensures in
    let rest = c.loop-index.invariant ∙ fed_end g.H.Hasher.write g.T.Ordered.hash_input s.bytes.now s.pos g.T.Portable.layout.size c.loop-index.state c.loop-index.index s.len end in
    let whole = fed_whole g.H.Hasher.write g.T.Ordered.hash_input s.bytes.now s.pos g.T.Portable.layout.size c.args.state.now c.write_usize.new.self c.loop-index.state s.len started (sym rest) in
    rw (c.at-slice.ensures.buffer, c.at-slice.ensures.position, c.at-slice.ensures.length) at whole
