use Rattle.std.proofs.Common.{rules, ◌≡◌, ◌<◌, ◌≤◌, length, arith}
use Rattle.archive_check.specs.Expressions.{shape_of}
use Rattle.archive_schema.specs.plan.CompileQueue.{Wait}
use Rattle.archive_schema.proofs.plan.Restated.{as_done}
use Rattle.archive_schema.proofs.plan.CompiledChain.{waits_at, waits_count, waits_fall, finishes_next, finishes_end, finishes_can}
use Rattle.archive_schema.proofs.plan.assembly.compile_waiting.Goals as goal

pub loop-i-smaller : goal.loop-i-smaller
loop-i-smaller c =
    let below : c.loop-i.i < length c.loop-i.queue.items.items = search rules in
    let at = waits_at c.loop-i.queue.items.items c.loop-i.i c.index-waiting.result.now (record { below = below; is = c.index-waiting.ensures }) in
    waits_fall at c.in_ok-compile.ensures

pub loop-i-preserved : goal.loop-i-preserved
loop-i-preserved c =
    let below : c.loop-i.i < length c.loop-i.queue.items.items = search rules in
    let done : c.len-done.result ≡ length c.loop-i.plan.nodes.items = search rules in
    let x : Wait = record { shape = shape_of c.index-waiting.result.now.expr.now; node = c.index-waiting.result.now.node } in
    let at = waits_at c.loop-i.queue.items.items c.loop-i.i c.index-waiting.result.now (record { below = below; is = c.index-waiting.ensures }) in
    finishes_next c.loop-i.i x c.loop-i.invariant at (as_done done c.in_ok-compile.ensures)

pub returns : goal.returns
returns c =
    let over : length c.loop-i.queue.items.items ≤ c.loop-i.i = search rules in
    finishes_end c.loop-i.i c.loop-i.invariant (omega (arith, over, waits_count c.loop-i.queue.items.items))

pub compile-requires : goal.compile-requires
compile-requires c =
    let below : c.loop-i.i < length c.loop-i.queue.items.items = search rules in
    let done : c.len-done.result ≡ length c.loop-i.plan.nodes.items = search rules in
    let x : Wait = record { shape = shape_of c.index-waiting.result.now.expr.now; node = c.index-waiting.result.now.node } in
    let at = waits_at c.loop-i.queue.items.items c.loop-i.i c.index-waiting.result.now (record { below = below; is = c.index-waiting.ensures }) in
    record { done = omega (arith, done); can = finishes_can x c.loop-i.invariant c.requires at done }
