use Rattle.std.proofs.Common.{length, arith, sym, ◌∙◌}
use Rattle.archive_types.proofs.Viewing.PartsShown.{run_within}
use Rattle.archive_types.proofs.Comparing.LevelRuns.{some_element, their_size}
use Rattle.archive_types.proofs.compare.runs.skip_level.Goals as goal

pub skip-far-requires-clause-sized : goal.skip-far-requires-clause-sized
skip-far-requires-clause-sized g c =
    let L = g.T.Portable.layout in
    let fits = run_within g.T.ArchivePointee.definitions c.args.a.bytes.now c.args.a.pos c.args.a.len g.T.Portable.shape L g.met.T.Portable.has_layout c.args.a.valid in
    let some = some_element c.args.a.len c.is_empty.result c.is_empty.ensures.1 c.if-is_empty.false in
    let buffer = c.ranges.a.0 in
    let size = their_size c.args.a.pos c.args.a.len L.size c.size.result (length c.args.a.bytes.now) fits (omega arith) c.size.ensures some in
    sym c.settling_bytes-size.ensures ∙ c.if-size.false ∙ size

pub skip-requires-clause-sized : goal.skip-requires-clause-sized
skip-requires-clause-sized g c =
    let L = g.T.Portable.layout in
    let fits = run_within g.T.ArchivePointee.definitions c.args.a.bytes.now c.args.a.pos c.args.a.len g.T.Portable.shape L g.met.T.Portable.has_layout c.args.a.valid in
    let some = some_element c.args.a.len c.is_empty.result c.is_empty.ensures.1 c.if-is_empty.false in
    let buffer = c.ranges.a.0 in
    let size = their_size c.args.a.pos c.args.a.len L.size c.size.result (length c.args.a.bytes.now) fits (omega arith) c.size.ensures some in
    sym c.settling_bytes-size.ensures ∙ c.if-size.false ∙ size
