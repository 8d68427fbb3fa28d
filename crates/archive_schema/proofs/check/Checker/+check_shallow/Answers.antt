use Rattle.std.proofs.Common.{rules, ◌+◌, ◌*◌, ◌<◌, ◌≤◌, ◌-◌, arith, refl, ap, slice_index_or, length}
use Rattle.archive_schema.specs.check.Runs.{run_free, run_record, run_array}
use Rattle.archive_check.specs.Words.Elements.{span}
use Rattle.archive_schema.specs.check.LoopInvariant.{rank}
use Rattle.archive_check.proofs.Elements.{at_default}
use Rattle.archive_schema.proofs.check.TurnInvariants.{node_is, node_fits, record_fits, variant_fits, rank_less, less_by}
use Rattle.archive_schema.proofs.check.LegalElements.{node_takes, element_fits}
use Rattle.archive_schema.proofs.check.LegalParts.{part_fits}
use Rattle.archive_schema.proofs.check.AtOnce.{pointer_shallow, record_shallow, choice_shallow, array_shallow, part_marked, part_below, parts_here, elements_here, passes_by, passes_same, passes_from, passes_behind, passes_stopped, passes_known, no_variant, variant_passed, towards_passed, towards_same, towards_element, element_stops, elements_over, towards_part, part_stops, parts_over}
use Rattle.archive_check.specs.context.Pushes.{worth}
use Rattle.archive_schema.specs.check.Paid.{bytes_in}
use Rattle.archive_schema.proofs.check.Paid.{record_few, variant_few, array_few, parts_next_is, elements_next_is, elements_few}
use Rattle.archive_schema.proofs.check.Checker.+check_shallow.Goals as goal

-- a leaf, or any bytes

pub check_shallow-check_leaf-requires-clause-kind : goal.check_shallow-check_leaf-requires-clause-kind
check_shallow-check_leaf-requires-clause-kind g t c = node_is c.requires.fits c.index-self-node.is c.in-Leaf.is

pub check_shallow-returns-in-Free-clause-passes : goal.check_shallow-returns-in-Free-clause-passes
check_shallow-returns-in-Free-clause-passes g t c =
    let is = node_is c.requires.fits c.index-self-node.is c.in-Free.is in
    passes_same (λ pending seen. run_free is c.requires.fits.takes c.requires.fits.fits)

-- a record

pub check_shallow-check_shallow_parts-requires : goal.check_shallow-check_shallow_parts-requires
check_shallow-check_shallow_parts-requires g t c =
    let is = node_is c.requires.fits c.index-self-node.is c.in-Record.is in
    let fits = record_fits c.requires.plan.sound is c.requires.fits in
    λ κs lives. (less_by c.decreases (rank_less fits), (lives, (c.requires.plan, (record_shallow c.requires.shallow is, (parts_here fits c.requires.fits.fits, c.requires.below)))))

pub check_shallow-returns-in-Record-clause-passes : goal.check_shallow-returns-in-Record-clause-passes
check_shallow-returns-in-Record-clause-passes g t c =
    let is = node_is c.requires.fits c.index-self-node.is c.in-Record.is in
    passes_by c.check_shallow_parts.ensures.passes (λ pending seen o r. run_record is r)

-- a choice

pub check_shallow-returns-in_err-variant-in-Choice-clause-passes : goal.check_shallow-returns-in_err-variant-in-Choice-clause-passes
check_shallow-returns-in_err-variant-in-Choice-clause-passes g t c =
    rw c.from_residual.ensures (no_variant (node_is c.requires.fits c.index-self-node.is c.in-Choice.is) c.in_err-variant-in-Choice.ensures.none)

pub check_shallow-check_alone-requires : goal.check_shallow-check_alone-requires
check_shallow-check_alone-requires g t c =
    let is = node_is c.requires.fits c.index-self-node.is c.in-Choice.is in
    let variant = c.in_ok-variant-in-Choice.ensures.some in
    record {
      plan = c.requires.plan;
      shallow = choice_shallow c.requires.plan.sound c.requires.fits c.requires.shallow is variant;
      fits = parts_here (variant_fits c.requires.plan.sound is variant c.requires.fits) c.requires.fits.fits;
      below = c.requires.below;
    }

pub check_shallow-returns-in_err-check_alone-in-Choice-clause-passes : goal.check_shallow-returns-in_err-check_alone-in-Choice-clause-passes
check_shallow-returns-in_err-check_alone-in-Choice-clause-passes g t c =
    let is = node_is c.requires.fits c.index-self-node.is c.in-Choice.is in
    let chosen = c.in_ok-variant-in-Choice.ensures in
    rw c.from_residual-in_err-check_alone-in-Choice.ensures (passes_behind chosen.list (variant_passed is chosen.some (passes_stopped refl c.in_err-check_alone-in-Choice.ensures.passes.none)))

pub check_shallow-returns-then-branch-clause-passes : goal.check_shallow-returns-then-branch-clause-passes
check_shallow-returns-then-branch-clause-passes g t c =
    let is = node_is c.requires.fits c.index-self-node.is c.in-Choice.is in
    let chosen = c.in_ok-variant-in-Choice.ensures in
    passes_behind chosen.list (variant_passed is chosen.some (passes_known (c.in_ok-check_alone-in-Choice.ensures.passes.known c.if-branch.true)))

pub check_shallow-check_shallow_parts-requires-in-Choice : goal.check_shallow-check_shallow_parts-requires-in-Choice
check_shallow-check_shallow_parts-requires-in-Choice g t c =
    let is = node_is c.requires.fits c.index-self-node.is c.in-Choice.is in
    let variant = c.in_ok-variant-in-Choice.ensures.some in
    let fits = variant_fits c.requires.plan.sound is variant c.requires.fits in
    let same = ap (λ q. q.range.end) (c.in_ok-check_alone-in-Choice.ensures.passes.other c.if-branch.false).1 in
    λ κs lives. (less_by c.decreases (rank_less fits), (lives, (c.requires.plan, (choice_shallow c.requires.plan.sound c.requires.fits c.requires.shallow is variant, (parts_here fits c.requires.fits.fits, rw same c.requires.below)))))

pub check_shallow-returns-else-branch-clause-passes : goal.check_shallow-returns-else-branch-clause-passes
check_shallow-returns-else-branch-clause-passes g t c =
    let is = node_is c.requires.fits c.index-self-node.is c.in-Choice.is in
    let chosen = c.in_ok-variant-in-Choice.ensures in
    let same = (c.in_ok-check_alone-in-Choice.ensures.passes.other c.if-branch.false).1 in
    passes_behind chosen.list (passes_from same (variant_passed is chosen.some c.check_shallow_parts-in-Choice.ensures.passes))

-- an array, a pointer, a string

pub check_shallow-check_shallow_elements-requires : goal.check_shallow-check_shallow_elements-requires
check_shallow-check_shallow_elements-requires g t c =
    let is = node_is c.requires.fits c.index-self-node.is c.in-Array.is in
    let fits = (node_fits c.requires.plan.sound is c.requires.fits).1 in
    let falls : c.in-Array.element * 2 + 2 < c.args.node * 2 + 1 = omega (arith, fits.earlier) in
    λ κs lives. (less_by c.decreases falls, (lives, (c.requires.plan, (array_shallow c.requires.shallow is, (elements_here fits c.requires.fits.fits, c.requires.below)))))

pub check_shallow-returns-in-Array-clause-passes : goal.check_shallow-returns-in-Array-clause-passes
check_shallow-returns-in-Array-clause-passes g t c =
    let is = node_is c.requires.fits c.index-self-node.is c.in-Array.is in
    passes_by c.check_shallow_elements.ensures.passes (λ pending seen o r. run_array is r)

pub check_shallow-check_pointer-requires-clause-kind : goal.check_shallow-check_pointer-requires-clause-kind
check_shallow-check_pointer-requires-clause-kind g t c = node_is c.requires.fits c.index-self-node.is c.in-Pointer.is

pub check_shallow-check_pointer-requires-clause-shallow : goal.check_shallow-check_pointer-requires-clause-shallow
check_shallow-check_pointer-requires-clause-shallow g t c = pointer_shallow c.requires.shallow (node_is c.requires.fits c.index-self-node.is c.in-Pointer.is)

pub check_shallow-check_text-requires-clause-kind : goal.check_shallow-check_text-requires-clause-kind
check_shallow-check_text-requires-clause-kind g t c = node_is c.requires.fits c.index-self-node.is c.in-Str.is

-- parts

pub check_shallow_parts-overflow_add-at : goal.check_shallow_parts-overflow_add-at
check_shallow_parts-overflow_add-at g t c =
    let m = c.args.self.now in
    let k = c.loop-index.index in
    let x = slice_index_or m.parts.now k (record { offset = 0; node = 0 }) in
    let at = at_default m.parts.now k (record { offset = 0; node = 0 }) (omega (arith, c.requires.fits.last)) in
    let f = part_fits m c.args.base c.args.first c.args.last k x c.requires.fits c.loop-index.auto.index c.loop-index-test.true at in
    let h : c.args.base + x.offset ≤ length m.bytes.now = omega (arith, f.fits) in search rules

pub check_shallow_parts-check_shallow-requires : goal.check_shallow_parts-check_shallow-requires
check_shallow_parts-check_shallow-requires g t c =
    let m = c.args.self.now in
    let k = c.loop-index.index in
    let x = slice_index_or m.parts.now k (record { offset = 0; node = 0 }) in
    let at = at_default m.parts.now k (record { offset = 0; node = 0 }) (omega (arith, c.requires.fits.last)) in
    let f = part_fits m c.args.base c.args.first c.args.last k x c.requires.fits c.loop-index.auto.index c.loop-index-test.true at in
    let below = part_below m.parts.now c.args.last (k - c.args.first) c.args.first k x (omega arith) c.loop-index-test.true c.requires.fits.last at in
    let falls : x.node * 2 + 1 < rank (span m.parts.now c.args.first c.args.last) * 2 = omega (arith, below) in
    let marked = part_marked m.shallow.now m.parts.now c.args.last (k - c.args.first) c.args.first k x (omega arith) c.loop-index-test.true c.requires.fits.last c.requires.shallow at in
    λ κs lives. (less_by c.decreases falls, (lives, (c.requires.plan, (λ y here. c.requires.plan.marked.shallow x.node y here marked, (f, rw c.loop-index.invariant.0.end c.requires.below)))))

pub check_shallow_parts-loop-index-init : goal.check_shallow_parts-loop-index-init
check_shallow_parts-loop-index-init g t c = (towards_same, omega arith)

pub check_shallow_parts-returns-in_err-check_shallow-clause-passes : goal.check_shallow_parts-returns-in_err-check_shallow-clause-passes
check_shallow_parts-returns-in_err-check_shallow-clause-passes g t c =
    let at = at_default c.args.self.now.parts.now c.loop-index.index (record { offset = 0; node = 0 }) (omega (arith, c.requires.fits.last)) in
    rw c.from_residual.ensures (part_stops c.loop-index-test.true at c.loop-index.invariant.0 c.in_err-check_shallow.ensures.passes)

pub check_shallow_parts-loop-index-preserved : goal.check_shallow_parts-loop-index-preserved
check_shallow_parts-loop-index-preserved g t c =
    let at = at_default c.args.self.now.parts.now c.loop-index.index (record { offset = 0; node = 0 }) (omega (arith, c.requires.fits.last)) in (
      towards_part c.loop-index-test.true at c.loop-index.invariant.0 c.in_ok-check_shallow.ensures.passes.some,
      omega (arith, c.loop-index.invariant.1, c.in_ok-check_shallow.ensures.pays, parts_next_is c.args.self.now c.loop-index.index c.args.last _ c.loop-index-test.true c.requires.fits.last at),
    )

pub check_shallow_parts-returns-clause-passes : goal.check_shallow_parts-returns-clause-passes
check_shallow_parts-returns-clause-passes g t c = parts_over (omega arith) c.loop-index.invariant.0

-- elements

pub check_shallow_elements-count_legal-passed-requires-clause-size : goal.check_shallow_elements-count_legal-passed-requires-clause-size
check_shallow_elements-count_legal-passed-requires-clause-size g t c = node_takes c.requires.fits c.index-self-node.is c.unwrap_or-size.ensures

pub check_shallow_elements-loop-index-init : goal.check_shallow_elements-loop-index-init
check_shallow_elements-loop-index-init g t c =
    let takes = node_takes c.requires.fits c.index-self-node.is c.unwrap_or-size.ensures in (
      towards_passed c.args.self.now c.args.node c.unwrap_or-size.result takes c.count_legal-passed.ensures.below c.count_legal-passed.ensures.passed,
      omega (arith, elements_few c.args.self.now c.args.node c.args.count c.count_legal-passed.result),
    )

pub check_shallow_elements-check_shallow-requires : goal.check_shallow_elements-check_shallow-requires
check_shallow_elements-check_shallow-requires g t c =
    let takes = node_takes c.requires.fits c.index-self-node.is c.unwrap_or-size.ensures in
    let falls : c.args.node * 2 + 1 < c.args.node * 2 + 2 = omega arith in
    let fits = element_fits c.args.self.now c.args.node c.unwrap_or-size.result takes c.args.count c.args.at c.loop-index.index c.requires.fits c.loop-index-test.true in
    λ κs lives. (less_by c.decreases falls, (lives, (c.requires.plan, (λ y here. c.requires.plan.marked.shallow c.args.node y here c.requires.shallow, (fits, rw c.loop-index.invariant.0.end c.requires.below)))))

pub check_shallow_elements-returns-in_err-check_shallow-clause-passes : goal.check_shallow_elements-returns-in_err-check_shallow-clause-passes
check_shallow_elements-returns-in_err-check_shallow-clause-passes g t c =
    rw c.from_residual.ensures (element_stops c.unwrap_or-size.result c.loop-index-test.true c.loop-index.invariant.0 c.in_err-check_shallow.ensures.passes)

pub check_shallow_elements-loop-index-preserved : goal.check_shallow_elements-loop-index-preserved
check_shallow_elements-loop-index-preserved g t c =
    let takes = node_takes c.requires.fits c.index-self-node.is c.unwrap_or-size.ensures in (
      towards_element c.args.self.now c.args.node c.unwrap_or-size.result takes c.loop-index-test.true c.loop-index.invariant.0 c.in_ok-check_shallow.ensures.passes.some,
      omega (arith, c.loop-index.invariant.1, c.in_ok-check_shallow.ensures.pays, elements_next_is c.args.self.now c.args.node c.args.count c.loop-index.index c.loop-index-test.true),
    )

pub check_shallow_elements-returns-clause-passes : goal.check_shallow_elements-returns-clause-passes
check_shallow_elements-returns-clause-passes g t c = elements_over c.unwrap_or-size.result (omega arith) c.loop-index.invariant.0

-- what is paid for regions

pub check_shallow-returns-in_err-check_alone-in-Choice-clause-pays : goal.check_shallow-returns-in_err-check_alone-in-Choice-clause-pays
check_shallow-returns-in_err-check_alone-in-Choice-clause-pays g t c =
    let is = node_is c.requires.fits c.index-self-node.is c.in-Choice.is in
    let chosen = c.in_ok-variant-in-Choice.ensures in
    omega (arith, c.in_err-check_alone-in-Choice.ensures.pays, ap (bytes_in c.args.self.now) chosen.list, variant_few c.requires.fits c.requires.plan.packed is chosen.some)

pub check_shallow-returns-then-branch-clause-pays : goal.check_shallow-returns-then-branch-clause-pays
check_shallow-returns-then-branch-clause-pays g t c =
    let is = node_is c.requires.fits c.index-self-node.is c.in-Choice.is in
    let chosen = c.in_ok-variant-in-Choice.ensures in
    omega (arith, c.in_ok-check_alone-in-Choice.ensures.pays, ap (bytes_in c.args.self.now) chosen.list, variant_few c.requires.fits c.requires.plan.packed is chosen.some)

pub check_shallow-returns-else-branch-clause-pays : goal.check_shallow-returns-else-branch-clause-pays
check_shallow-returns-else-branch-clause-pays g t c =
    let m = c.args.self.now in
    let is = node_is c.requires.fits c.index-self-node.is c.in-Choice.is in
    let chosen = c.in_ok-variant-in-Choice.ensures in
    let same = (c.in_ok-check_alone-in-Choice.ensures.passes.other c.if-branch.false).1 in
    omega (arith, c.check_shallow_parts-in-Choice.ensures.pays, ap (λ q. worth q.range) same, ap (λ q. bytes_in m q.work) same, ap (bytes_in m) chosen.list, variant_few c.requires.fits c.requires.plan.packed is chosen.some)

pub check_shallow-returns-in-Record-clause-pays : goal.check_shallow-returns-in-Record-clause-pays
check_shallow-returns-in-Record-clause-pays g t c =
    let is = node_is c.requires.fits c.index-self-node.is c.in-Record.is in
    omega (arith, c.check_shallow_parts.ensures.pays, record_few c.requires.fits c.requires.plan.packed is)

pub check_shallow-returns-in-Array-clause-pays : goal.check_shallow-returns-in-Array-clause-pays
check_shallow-returns-in-Array-clause-pays g t c =
    let is = node_is c.requires.fits c.index-self-node.is c.in-Array.is in
    omega (arith, c.check_shallow_elements.ensures.pays, array_few c.requires.fits c.requires.plan.sound is)

pub check_shallow_parts-returns-in_err-check_shallow-clause-pays : goal.check_shallow_parts-returns-in_err-check_shallow-clause-pays
check_shallow_parts-returns-in_err-check_shallow-clause-pays g t c =
    let m = c.args.self.now in
    let at = at_default m.parts.now c.loop-index.index (record { offset = 0; node = 0 }) (omega (arith, c.requires.fits.last)) in
    omega (arith, c.loop-index.invariant.1, c.in_err-check_shallow.ensures.pays, parts_next_is m c.loop-index.index c.args.last _ c.loop-index-test.true c.requires.fits.last at)

pub check_shallow_parts-returns-clause-pays : goal.check_shallow_parts-returns-clause-pays
check_shallow_parts-returns-clause-pays g t c = omega (arith, c.loop-index.invariant.1)

pub check_shallow_elements-returns-in_err-check_shallow-clause-pays : goal.check_shallow_elements-returns-in_err-check_shallow-clause-pays
check_shallow_elements-returns-in_err-check_shallow-clause-pays g t c =
    omega (arith, c.loop-index.invariant.1, c.in_err-check_shallow.ensures.pays, elements_next_is c.args.self.now c.args.node c.args.count c.loop-index.index c.loop-index-test.true)

pub check_shallow_elements-returns-clause-pays : goal.check_shallow_elements-returns-clause-pays
check_shallow_elements-returns-clause-pays g t c = omega (arith, c.loop-index.invariant.1)
