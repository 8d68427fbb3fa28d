use Rattle.std.proofs.Common.{rules, ◌+◌, ◌-◌, ◌<◌, ◌≤◌, arith, length}
use Rattle.archive_schema.specs.declared.plan.PointeeKind.TheVariants.{Run}
use Rattle.archive_schema.specs.declared.check.worklist.Work.TheVariants.{Elements}
use Rattle.archive_schema.specs.check.Lists.{list_of}
use Rattle.archive_schema.specs.check.Paid.{bytes_of_elements, PaysFrom}
use Rattle.archive_schema.proofs.check.AtOnce.{once_turns}
use Rattle.archive_schema.proofs.check.Entries.{read_at}
use Rattle.archive_schema.proofs.check.HollowRecords.{front_fit, hollow_bytes, hollow_refused, last_fits}
use Rattle.archive_schema.proofs.check.HollowTurns.{behind_ready, first_ready, opens_behind, opens_first}
use Rattle.archive_schema.proofs.check.Paid.{elements_first_is, pays_more, pointer_few, record_few}
use Rattle.archive_schema.proofs.check.TurnExits.{opens_no_element, opens_pointer}
use Rattle.archive_schema.proofs.check.TurnInvariants.{node_fits}
use Rattle.archive_schema.proofs.check.Checker.enter_first.Goals as goal

pub returns-then-left-eq0-clause-turn : goal.returns-then-left-eq0-clause-turn
returns-then-left-eq0-clause-turn g c = opens_no_element {c = 0} c.requires.ready c.requires.size (λ k lt. absurd (omega (arith, lt))) (omega arith) (omega (arith, c.if-left-eq0.true))

-- the parts in front

pub check_front-requires : goal.check_front-requires
check_front-requires g c =
    let lt : 0 < c.args.left = omega (arith, c.if-left-eq0.false) in
    let next = first_ready c.requires.ready c.requires.size lt c.in_ok-more_elements.ensures.some in
    record { plan = c.requires.plan; shallow = c.requires.hollow.shallow; free = c.requires.hollow.free; fits = front_fit c.requires.plan.sound c.requires.hollow next.fits.0; below = next.below }

pub returns-in_err-check_front-clause-turn : goal.returns-in_err-check_front-clause-turn
returns-in_err-check_front-clause-turn g c =
    let lt : 0 < c.args.left = omega (arith, c.if-left-eq0.false) in
    let next = first_ready c.requires.ready c.requires.size lt c.in_ok-more_elements.ensures.some in
    rw c.from_residual-in_err-check_front.ensures (opens_first c.requires.ready c.requires.size lt c.in_ok-more_elements.ensures.some (once_turns (hollow_refused c.requires.hollow c.in_err-check_front.ensures.passes) next))

pub returns-in_err-check_front-clause-pays : goal.returns-in_err-check_front-clause-pays
returns-in_err-check_front-clause-pays g c =
    let m = c.args.self.now in
    let s = g.C.Context.state c.args.context.now in
    let old = list_of c.args.work.now in
    let rest = list_of c.more_elements.new.self in
    let lt : 0 < c.args.left = omega (arith, c.if-left-eq0.false) in
    let f = (first_ready c.requires.ready c.requires.size lt c.in_ok-more_elements.ensures.some).fits.0 in
    let whole = record_few f c.requires.plan.packed c.requires.hollow.record_is in
    let more : PaysFrom m (bytes_of_elements m c.args.node (c.args.left - 1)) s old s rest = pays_more m s old rest (Elements c.args.node (c.args.left - 1) (c.args.at + c.args.size)) c.in_ok-more_elements.ensures.some in
    rw c.from_residual-in_err-check_front.ensures (omega (arith, c.in_err-check_front.ensures.pays, more, whole, hollow_bytes c.requires.plan.sound c.requires.hollow f, elements_first_is m c.args.node c.args.left lt))

-- the pointer lies in the bytes

pub overflow_add-place : goal.overflow_add-place
overflow_add-place g c =
    let lt : 0 < c.args.left = omega (arith, c.if-left-eq0.false) in
    let next = first_ready c.requires.ready c.requires.size lt c.in_ok-more_elements.ensures.some in
    let f = last_fits c.requires.plan.sound c.requires.hollow next.fits.0 in
    let h : c.args.at + c.args.parts.offset ≤ length c.args.self.now.bytes.now = omega (arith, f.fits) in search rules

pub count-count-requires : goal.count-count-requires
count-count-requires g c =
    let lt : 0 < c.args.left = omega (arith, c.if-left-eq0.false) in
    let next = first_ready c.requires.ready c.requires.size lt c.in_ok-more_elements.ensures.some in
    let f = last_fits c.requires.plan.sound c.requires.hollow next.fits.0 in
    omega (arith, f.fits, (node_fits c.requires.plan.sound c.requires.hollow.pointer_is f).0)

pub read_position-position-requires : goal.read_position-position-requires
read_position-position-requires g c =
    let lt : 0 < c.args.left = omega (arith, c.if-left-eq0.false) in
    let next = first_ready c.requires.ready c.requires.size lt c.in_ok-more_elements.ensures.some in
    let f = last_fits c.requires.plan.sound c.requires.hollow next.fits.0 in
    omega (arith, f.fits, (node_fits c.requires.plan.sound c.requires.hollow.pointer_is f).0)

-- and what comes of its run comes of the records

pub enter_row-requires-clause-ready : goal.enter_row-requires-clause-ready
enter_row-requires-clause-ready g c =
    let lt : 0 < c.args.left = omega (arith, c.if-left-eq0.false) in
    let next = first_ready c.requires.ready c.requires.size lt c.in_ok-more_elements.ensures.some in
    let behind = behind_ready c.requires.plan.sound next c.requires.hollow c.in_ok-check_front.ensures.passes.some in
    record { below = behind.below; fits = behind.fits.1 }

pub returns-clause-turn : goal.returns-clause-turn
returns-clause-turn g c =
    let lt : 0 < c.args.left = omega (arith, c.if-left-eq0.false) in
    let more = c.in_ok-more_elements.ensures.some in
    let next = first_ready c.requires.ready c.requires.size lt more in
    let is = rw c.requires.same at c.requires.hollow.pointer_is in
    let position = read_at (record { sfits = c.read_position-position.type_inv }) c.read_position-position.ensures in
    opens_first c.requires.ready c.requires.size lt more
    (opens_behind c.requires.plan.sound next c.requires.hollow c.in_ok-check_front.ensures.passes.some (opens_pointer is c.count-count.ensures position c.enter_row.ensures.enters))

pub returns-clause-pays : goal.returns-clause-pays
returns-clause-pays g c =
    let m = c.args.self.now in
    let s = g.C.Context.state c.args.context.now in
    let old = list_of c.args.work.now in
    let rest = list_of c.more_elements.new.self in
    let lt : 0 < c.args.left = omega (arith, c.if-left-eq0.false) in
    let next = first_ready c.requires.ready c.requires.size lt c.in_ok-more_elements.ensures.some in
    let f = next.fits.0 in
    let last = last_fits c.requires.plan.sound c.requires.hollow f in
    let four = pointer_few last Run (node_fits c.requires.plan.sound c.requires.hollow.pointer_is last).0 in
    let whole = record_few f c.requires.plan.packed c.requires.hollow.record_is in
    let more : PaysFrom m (bytes_of_elements m c.args.node (c.args.left - 1)) s old s rest = pays_more m s old rest (Elements c.args.node (c.args.left - 1) (c.args.at + c.args.size)) c.in_ok-more_elements.ensures.some in
    omega (arith, c.enter_row.ensures.pays, c.in_ok-check_front.ensures.pays, more, four, whole, hollow_bytes c.requires.plan.sound c.requires.hollow f, elements_first_is m c.args.node c.args.left lt)
