use Rattle.std.proofs.Common.{arith}
use Rattle.archive_types.proofs.Writing.Regions.{fresh_front, sum_fits}
use Rattle.archive_types.proofs.ser.resolve_next.Goals as goal

pub resolve_large-requires-clause-ends : goal.resolve_large-requires-clause-ends
resolve_large-requires-clause-ends g c =
    let sum = sum_fits c.checked_add.result _ _ c.checked_add.ensures c.if-is_none.ensures in
    let here = g.met.W.Writer.position_law c.args.writer.now in
    let there = c.pos.ensures in
    omega arith

pub resolve_region-requires-clause-zeroed : goal.resolve_region-requires-clause-zeroed
resolve_region-requires-clause-zeroed g c =
    let sum = sum_fits c.checked_add.result _ _ c.checked_add.ensures c.if-is_none.ensures in
    let here = g.met.W.Writer.position_law c.args.writer.now in
    let there = c.pos.ensures in
    let size = c.size-size.ensures in
    let few = c.if-size-gt-LOCAL_SIZE.false in
    fresh_front _ _ c.size-size.result (omega arith) (omega (arith, few)) (omega arith)
