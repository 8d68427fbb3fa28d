use Rattle.std.proofs.Common.{refl, ap, arith, ◌∙◌}
use Rattle.archive_check.specs.context.Ranges.{RangeState}
use Rattle.archive_schema.proofs.check.TurnExits.{leaving_begins, leaving_next, leaving_stops, leaving_ends}
use Rattle.archive_schema.proofs.check.Checker.leave_regions.Goals as goal

pub loop-given-init : goal.loop-given-init
loop-given-init g c = (leaving_begins (omega arith) c.requires.ready, refl, omega arith)

pub loop-given-preserved : goal.loop-given-preserved
loop-given-preserved g c =
    let left = c.in_ok-leave_region.ensures.leaves in
    let start = ap (λ (q : RangeState). q.start) left.range in
    let end = ap (λ (q : RangeState). q.end) left.range in
    let pushes = ap (λ (q : RangeState). q.pushes) left.range in
    (leaving_next c.loop-given-test.true c.loop-given.invariant.0 left, left.list ∙ c.loop-given.invariant.1, omega (arith, start, end, pushes, c.loop-given.invariant.2))

pub returns-in_err-leave_region-clause-turn : goal.returns-in_err-leave_region-clause-turn
returns-in_err-leave_region-clause-turn g c = rw c.from_residual.ensures (leaving_stops c.loop-given.invariant.0 c.in_err-leave_region.ensures.leaves)

pub returns-clause-turn : goal.returns-clause-turn
returns-clause-turn g c =
    let same = c.loop-given.invariant.1 in
    let fits = c.requires.ready.fits in
    leaving_ends (omega (arith, c.loop-given-test.false)) c.loop-given.invariant.0 fits.2 (rw same fits.3) (rw same (omega arith)) c.leave_region-2.ensures.leaves
