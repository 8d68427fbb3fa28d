use Rattle.std.proofs.Common.{arith, refl, ◌<◌, length}
use Rattle.archive_check.specs.Trail.{unsorted}
use Rattle.archive_schema.specs.check.Runs.{contents_entries, contents_lone, contents_equal}
use Rattle.archive_schema.proofs.check.AtOnce.{region_entries, mark_is, passed_by, passed_same, test_known, test_other, test_refused, test_fails}
use Rattle.archive_schema.proofs.check.Paid.{region_entries_few}
use Rattle.archive_schema.proofs.check.Checker.entries_held.Goals as goal

pub returns-then-count-gt1-clause-passes : goal.returns-then-count-gt1-clause-passes
returns-then-count-gt1-clause-passes g c =
    test_refused c.refuse.ensures.none c.refuse.ensures.fault (λ some. (unsorted, refl, λ pending seen. contents_equal (omega (arith, c.if-size-eq0.true)) (omega (arith, c.if-count-gt1.true))))

pub returns-then-size-eq0-clause-passes : goal.returns-then-size-eq0-clause-passes
returns-then-size-eq0-clause-passes g c =
    test_known (passed_same (λ pending seen. contents_lone (omega (arith, c.if-size-eq0.true)) (omega (arith, c.if-count-gt1.false))))

pub check_shallow_entries-requires : goal.check_shallow_entries-requires
check_shallow_entries-requires g c =
    let m = c.args.self.now in
    let below : c.args.value < length m.shallow.now = rw (← c.requires.plan.marked.all) at c.requires.value.known in
    record {
      plan = c.requires.plan;
      shallow = mark_is m.shallow.now c.args.value _ below c.if-not-self-value.false;
      fits = region_entries m c.args.value c.args.count c.args.size c.args.begin c.requires.region.0 c.requires.region.1 (omega (arith, c.if-size-eq0.false)) c.requires.within c.requires.value.few;
      below = omega (arith, c.requires.ends, c.requires.within);
    }

pub returns-in_err-check_shallow_entries-clause-passes : goal.returns-in_err-check_shallow_entries-clause-passes
returns-in_err-check_shallow_entries-clause-passes g c =
    let lt : 0 < c.args.size = omega (arith, c.if-size-eq0.false) in
    rw c.from_residual.ensures (test_fails c.in_err-check_shallow_entries.ensures.passes (λ pending seen o r. contents_entries lt (rw c.requires.ends at r)))

pub returns-clause-passes : goal.returns-clause-passes
returns-clause-passes g c =
    let lt : 0 < c.args.size = omega (arith, c.if-size-eq0.false) in
    test_known (passed_by c.in_ok-check_shallow_entries.ensures.passes.some (λ pending seen o r. contents_entries lt (rw c.requires.ends at r)))

pub returns-in_err-check_shallow_entries-clause-pays : goal.returns-in_err-check_shallow_entries-clause-pays
returns-in_err-check_shallow_entries-clause-pays g c =
    omega (arith, c.in_err-check_shallow_entries.ensures.pays, region_entries_few c.requires.region.1 (omega (arith, c.if-size-eq0.false)))

pub returns-clause-pays : goal.returns-clause-pays
returns-clause-pays g c =
    omega (arith, c.in_ok-check_shallow_entries.ensures.pays, region_entries_few c.requires.region.1 (omega (arith, c.if-size-eq0.false)))

pub returns-then-not-self-value-clause-passes : goal.returns-then-not-self-value-clause-passes
returns-then-not-self-value-clause-passes g c = test_other (omega (arith, c.if-size-eq0.false), λ e. cc) refl
