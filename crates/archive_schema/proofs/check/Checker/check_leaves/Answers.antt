use Rattle.std.proofs.Common.{rules, ◌+◌, ◌*◌, ◌≤◌, arith, length}
use Rattle.archive_schema.specs.declared.plan.PointeeKind.TheVariants.{Run}
use Rattle.archive_schema.specs.check.Hollow.{IsEmptyAt}
use Rattle.archive_schema.proofs.check.AtOnce.{passes_by, towards_element, element_stops}
use Rattle.archive_schema.proofs.check.Entries.{read_at}
use Rattle.archive_schema.proofs.check.HollowRecords.{empty_run, free_passes, front_stops, hollow_bytes, last_fits}
use Rattle.archive_schema.proofs.check.LegalElements.{element_fits}
use Rattle.archive_schema.proofs.check.Paid.{elements_next_is, pointer_few, record_few}
use Rattle.archive_schema.proofs.check.TurnInvariants.{node_fits}
use Rattle.archive_schema.proofs.check.Checker.check_leaves.Goals as goal

-- the pointer lies in the bytes

pub overflow_add-place-in-loop-index : goal.overflow_add-place-in-loop-index
overflow_add-place-in-loop-index g c =
    let m = c.args.self.now in
    let f = element_fits m c.args.node c.args.size c.requires.size c.args.count c.args.at c.loop-index.index c.requires.fits c.loop-index-test.true in
    let last = last_fits c.requires.plan.sound c.requires.hollow f in
    let h : c.args.at + c.loop-index.index * c.args.size + c.args.parts.offset ≤ length m.bytes.now = omega (arith, last.fits) in search rules

pub overflow_add-place-in-loop-index-2 : goal.overflow_add-place-in-loop-index-2
overflow_add-place-in-loop-index-2 g c =
    let m = c.args.self.now in
    let f = element_fits m c.args.node c.args.size c.requires.size c.args.count c.args.at c.loop-index.index c.requires.fits c.loop-index-test.true in
    let last = last_fits c.requires.plan.sound c.requires.hollow f in
    let eight = (node_fits c.requires.plan.sound c.requires.hollow.pointer_is last).0 in
    let h : c.args.at + c.loop-index.index * c.args.size + c.args.parts.offset + 4 ≤ length m.bytes.now = omega (arith, last.fits, eight) in search rules

pub read_u32-requires : goal.read_u32-requires
read_u32-requires g c =
    let m = c.args.self.now in
    let f = element_fits m c.args.node c.args.size c.requires.size c.args.count c.args.at c.loop-index.index c.requires.fits c.loop-index-test.true in
    let last = last_fits c.requires.plan.sound c.requires.hollow f in
    omega (arith, last.fits, (node_fits c.requires.plan.sound c.requires.hollow.pointer_is last).0)

pub read_position-position-requires : goal.read_position-position-requires
read_position-position-requires g c =
    let m = c.args.self.now in
    let f = element_fits m c.args.node c.args.size c.requires.size c.args.count c.args.at c.loop-index.index c.requires.fits c.loop-index-test.true in
    let last = last_fits c.requires.plan.sound c.requires.hollow f in
    omega (arith, last.fits, (node_fits c.requires.plan.sound c.requires.hollow.pointer_is last).0)

-- the record is gone through with its region

pub returns-in_err-check_empty_region-clause-passes : goal.returns-in_err-check_empty_region-clause-passes
returns-in_err-check_empty_region-clause-passes g c =
    let m = c.args.self.now in
    let f = element_fits m c.args.node c.args.size c.requires.size c.args.count c.args.at c.loop-index.index c.requires.fits c.loop-index-test.true in
    let position = read_at (record { sfits = c.read_position-position.type_inv }) c.read_position-position.ensures in
    let empty : IsEmptyAt m (c.args.at + c.loop-index.index * c.args.size + c.args.parts.offset) = omega (arith, c.read_u32.ensures, c.if-read_u32-ne0.false) in
    let run = passes_by (rw position at c.in_err-check_empty_region.ensures.passes) (λ pending seen o r. empty_run c.requires.hollow.pointer_is empty r) in
    front_stops c.from_residual.ensures (element_stops c.args.size c.loop-index-test.true c.loop-index.invariant.0 (free_passes c.requires.plan.sound c.requires.hollow c.requires.free f run))

pub returns-in_err-check_empty_region-clause-pays : goal.returns-in_err-check_empty_region-clause-pays
returns-in_err-check_empty_region-clause-pays g c =
    let m = c.args.self.now in
    let f = element_fits m c.args.node c.args.size c.requires.size c.args.count c.args.at c.loop-index.index c.requires.fits c.loop-index-test.true in
    let last = last_fits c.requires.plan.sound c.requires.hollow f in
    let four = pointer_few last Run (node_fits c.requires.plan.sound c.requires.hollow.pointer_is last).0 in
    let whole = record_few f c.requires.plan.packed c.requires.hollow.record_is in
    let next = elements_next_is m c.args.node c.args.count c.loop-index.index c.loop-index-test.true in
    rw c.from_residual.ensures (omega (arith, c.loop-index.invariant.1, c.in_err-check_empty_region.ensures.pays, four, whole, hollow_bytes c.requires.plan.sound c.requires.hollow f, next))

pub loop-index-preserved : goal.loop-index-preserved
loop-index-preserved g c =
    let m = c.args.self.now in
    let f = element_fits m c.args.node c.args.size c.requires.size c.args.count c.args.at c.loop-index.index c.requires.fits c.loop-index-test.true in
    let last = last_fits c.requires.plan.sound c.requires.hollow f in
    let four = pointer_few last Run (node_fits c.requires.plan.sound c.requires.hollow.pointer_is last).0 in
    let whole = record_few f c.requires.plan.packed c.requires.hollow.record_is in
    let next = elements_next_is m c.args.node c.args.count c.loop-index.index c.loop-index-test.true in
    let position = read_at (record { sfits = c.read_position-position.type_inv }) c.read_position-position.ensures in
    let empty : IsEmptyAt m (c.args.at + c.loop-index.index * c.args.size + c.args.parts.offset) = omega (arith, c.read_u32.ensures, c.if-read_u32-ne0.false) in
    let run = passes_by (rw position at c.in_ok-check_empty_region.ensures.passes) (λ pending seen o r. empty_run c.requires.hollow.pointer_is empty r) in
    let passed = free_passes c.requires.plan.sound c.requires.hollow c.requires.free f run in (
      towards_element m c.args.node c.args.size c.requires.size c.loop-index-test.true c.loop-index.invariant.0 passed.some,
      omega (arith, c.loop-index.invariant.1, c.in_ok-check_empty_region.ensures.pays, four, whole, hollow_bytes c.requires.plan.sound c.requires.hollow f, next),
      omega (arith, c.loop-index-test.true),
    )
