use Rattle.std.proofs.Common.{◌≡◌, ◌+◌, ◌*◌, ◌≤◌, length, arith, ap, refl, ◌∙◌}
use Rattle.archive_types.proofs.Viewing.PartsShown.{run_within}
use Rattle.archive_types.proofs.Comparing.LevelRuns.{ends_within, bytes_between}
use Rattle.archive_types.proofs.compare.runs.bytes_of.Goals as goal

pub overflow_mul-first : goal.overflow_mul-first
overflow_mul-first g c =
    let L = g.T.Portable.layout in
    let p = c.part-pos.result.pos in
    let n = c.part-pos.result.len in
    let size : c.settling_bytes-size.result ≡ L.size = c.settling_bytes-size.ensures ∙ c.requires.sized in
    let some : c.args.from + c.args.count ≤ n = rw c.part-pos.ensures.length c.requires.within in
    let fits = run_within g.T.ArchivePointee.definitions c.part-pos.result.bytes.now p n g.T.Portable.shape L g.met.T.Portable.has_layout c.part-pos.ensures.viewed in
    let ends = ends_within p n L.size (length c.part-pos.result.bytes.now) c.args.from c.args.count fits some in
    let same = ap length c.part-pos.ensures.buffer in
    let buffer = c.ranges.view.0 in
    rw size (omega arith)

pub overflow_add-first : goal.overflow_add-first
overflow_add-first g c =
    let L = g.T.Portable.layout in
    let p = c.part-pos.result.pos in
    let n = c.part-pos.result.len in
    let size : c.settling_bytes-size.result ≡ L.size = c.settling_bytes-size.ensures ∙ c.requires.sized in
    let some : c.args.from + c.args.count ≤ n = rw c.part-pos.ensures.length c.requires.within in
    let fits = run_within g.T.ArchivePointee.definitions c.part-pos.result.bytes.now p n g.T.Portable.shape L g.met.T.Portable.has_layout c.part-pos.ensures.viewed in
    let ends = ends_within p n L.size (length c.part-pos.result.bytes.now) c.args.from c.args.count fits some in
    let same = ap length c.part-pos.ensures.buffer in
    let buffer = c.ranges.view.0 in
    rw size (omega arith)

pub overflow_mul-result : goal.overflow_mul-result
overflow_mul-result g c =
    let L = g.T.Portable.layout in
    let p = c.part-pos.result.pos in
    let n = c.part-pos.result.len in
    let size : c.settling_bytes-size.result ≡ L.size = c.settling_bytes-size.ensures ∙ c.requires.sized in
    let some : c.args.from + c.args.count ≤ n = rw c.part-pos.ensures.length c.requires.within in
    let fits = run_within g.T.ArchivePointee.definitions c.part-pos.result.bytes.now p n g.T.Portable.shape L g.met.T.Portable.has_layout c.part-pos.ensures.viewed in
    let ends = ends_within p n L.size (length c.part-pos.result.bytes.now) c.args.from c.args.count fits some in
    let same = ap length c.part-pos.ensures.buffer in
    let buffer = c.ranges.view.0 in
    rw size (omega arith)

pub overflow_add-result : goal.overflow_add-result
overflow_add-result g c =
    let L = g.T.Portable.layout in
    let p = c.part-pos.result.pos in
    let n = c.part-pos.result.len in
    let size : c.settling_bytes-size.result ≡ L.size = c.settling_bytes-size.ensures ∙ c.requires.sized in
    let some : c.args.from + c.args.count ≤ n = rw c.part-pos.ensures.length c.requires.within in
    let fits = run_within g.T.ArchivePointee.definitions c.part-pos.result.bytes.now p n g.T.Portable.shape L g.met.T.Portable.has_layout c.part-pos.ensures.viewed in
    let ends = ends_within p n L.size (length c.part-pos.result.bytes.now) c.args.from c.args.count fits some in
    let same = ap length c.part-pos.ensures.buffer in
    let buffer = c.ranges.view.0 in
    rw size (omega arith)

pub slice_bounds-result-end : goal.slice_bounds-result-end
slice_bounds-result-end g c =
    let L = g.T.Portable.layout in
    let p = c.part-pos.result.pos in
    let n = c.part-pos.result.len in
    let size : c.settling_bytes-size.result ≡ L.size = c.settling_bytes-size.ensures ∙ c.requires.sized in
    let some : c.args.from + c.args.count ≤ n = rw c.part-pos.ensures.length c.requires.within in
    let fits = run_within g.T.ArchivePointee.definitions c.part-pos.result.bytes.now p n g.T.Portable.shape L g.met.T.Portable.has_layout c.part-pos.ensures.viewed in
    let ends = ends_within p n L.size (length c.part-pos.result.bytes.now) c.args.from c.args.count fits some in
    let same = ap length c.part-pos.ensures.buffer in
    let buffer = c.ranges.view.0 in
    rw size (omega arith)

pub returns : goal.returns
returns g c =
    let size : c.settling_bytes-size.result ≡ g.T.Portable.layout.size = c.settling_bytes-size.ensures ∙ c.requires.sized in
    rw (size, c.part-pos.ensures.buffer, c.part-pos.ensures.position) (bytes_between c.args.view.bytes.now (c.args.view.pos + c.args.from * g.T.Portable.layout.size) (c.args.count * g.T.Portable.layout.size) _ refl)
