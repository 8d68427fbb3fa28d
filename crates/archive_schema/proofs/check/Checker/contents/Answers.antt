use Rattle.std.proofs.Common.{arith, refl, ap, ◌<◌, length}
use Rattle.archive_check.specs.Trail.{no_text}
use Rattle.archive_schema.specs.check.Runs.{contents_one, contents_run, contents_no_text}
use Rattle.archive_check.proofs.Checks.TestedAnswers.{not_true, is_true}
use Rattle.archive_schema.proofs.check.EnteredRegions.{is_node_itself, run_left, passes_text, passes_empty}
use Rattle.archive_schema.proofs.check.Entries.{free_region}
use Rattle.archive_schema.proofs.check.AtOnce.{region_part, region_elements, mark_is, passed_by, passed_same, test_known, test_other, test_refused, test_fails}
use Rattle.archive_schema.proofs.check.Paid.{region_few, region_one_few}
use Rattle.archive_schema.proofs.check.Checker.contents.Goals as goal

pub returns-then-not-is_text-clause-passes : goal.returns-then-not-is_text-clause-passes
returns-then-not-is_text-clause-passes g c =
    test_refused c.refuse.ensures.none c.refuse.ensures.fault (rw c.in-Text.is (λ some. (no_text, refl, λ pending seen. contents_no_text (λ u. not_true c.is_text.result c.if-not-is_text.true (c.is_text.ensures.1 u)))))

pub returns-in-Text-clause-passes : goal.returns-in-Text-clause-passes
returns-in-Text-clause-passes g c =
    let text = is_true c.is_text.result c.if-not-is_text.false in
    rw c.in-Text.is (test_known (passed_same (λ pending seen. passes_text c.args.self.now c.args.pointee c.args.count c.args.size c.args.begin (c.is_text.ensures.0 text) pending _ _ seen)))

pub returns-in-Free-clause-passes : goal.returns-in-Free-clause-passes
returns-in-Free-clause-passes g c =
    let legal = free_region c.requires.pointee c.index-self-pointee.is c.in-Free.is c.in_default.not-Text c.in_default-target.not-Entries c.requires.region.1 c.requires.within in
    test_known (passed_same (λ pending seen. legal pending _ _ seen))

pub returns-then-size-eq0-clause-passes : goal.returns-then-size-eq0-clause-passes
returns-then-size-eq0-clause-passes g c =
    test_known (passed_same (λ pending seen. passes_empty c.args.self.now c.args.pointee c.args.count c.args.size c.args.begin c.args.target (omega (arith, c.if-size-eq0.true)) c.in_default-target.not-Entries pending _ _ seen))

pub check_shallow-requires : goal.check_shallow-requires
check_shallow-requires g c =
    let m = c.args.self.now in
    let below : c.args.pointee < length m.shallow.now = rw (← c.requires.plan.marked.all) at c.requires.pointee.known in
    let mark = mark_is m.shallow.now c.args.pointee _ below c.if-not-self-pointee.false in
    record {
      plan = c.requires.plan;
      shallow = λ y here. c.requires.plan.marked.shallow c.args.pointee y here mark;
      fits = region_part m c.args.pointee c.args.count c.args.size c.args.begin c.requires.region.0 (ap is_node_itself c.in-One.is) c.requires.region.1 (omega (arith, c.if-size-eq0.false)) c.requires.within (c.requires.pointee.one c.in-One.is);
      below = omega (arith, c.requires.ends, c.requires.within);
    }

pub check_shallow_elements-requires : goal.check_shallow_elements-requires
check_shallow_elements-requires g c =
    let m = c.args.self.now in
    let below : c.args.pointee < length m.shallow.now = rw (← c.requires.plan.marked.all) at c.requires.pointee.known in
    record {
      plan = c.requires.plan;
      shallow = mark_is m.shallow.now c.args.pointee _ below c.if-not-self-pointee.false;
      fits = region_elements m c.args.pointee c.args.count c.args.size c.args.begin c.requires.region.0 (ap is_node_itself (run_left c.args.target c.in_default-target-2.not-One c.in_default.not-Text c.in_default-target.not-Entries)) c.requires.region.1 (omega (arith, c.if-size-eq0.false)) c.requires.within c.requires.pointee.few;
      below = omega (arith, c.requires.ends, c.requires.within);
    }

-- entries

pub entries_held-requires : goal.entries_held-requires
entries_held-requires g c = record {
  plan = c.requires.plan;
  region = rw c.in-Entries.is at c.requires.region;
  value = rw c.in-Entries.is at c.requires.pointee;
  within = c.requires.within;
  ends = c.requires.ends;
}

pub returns-in-Entries-clause-passes : goal.returns-in-Entries-clause-passes
returns-in-Entries-clause-passes g c = rw c.in-Entries.is c.entries_held.ensures.passes

pub returns-in_err-check_shallow-in-One-clause-passes : goal.returns-in_err-check_shallow-in-One-clause-passes
returns-in_err-check_shallow-in-One-clause-passes g c =
    let lt : 0 < c.args.size = omega (arith, c.if-size-eq0.false) in
    rw (c.in-One.is, c.from_residual.ensures) (test_fails c.in_err-check_shallow-in-One.ensures.passes (λ pending seen o r. contents_one lt (rw c.requires.ends at r)))

pub returns-in_err-check_shallow_elements-in_default-target-2-clause-passes : goal.returns-in_err-check_shallow_elements-in_default-target-2-clause-passes
returns-in_err-check_shallow_elements-in_default-target-2-clause-passes g c =
    let lt : 0 < c.args.size = omega (arith, c.if-size-eq0.false) in
    rw (run_left c.args.target c.in_default-target-2.not-One c.in_default.not-Text c.in_default-target.not-Entries, c.from_residual-in_err-check_shallow_elements-in_default-target-2.ensures)
    (test_fails c.in_err-check_shallow_elements-in_default-target-2.ensures.passes (λ pending seen o r. contents_run lt (rw c.requires.ends at r)))

pub returns-in_ok-check_shallow-in-One-clause-passes : goal.returns-in_ok-check_shallow-in-One-clause-passes
returns-in_ok-check_shallow-in-One-clause-passes g c =
    let lt : 0 < c.args.size = omega (arith, c.if-size-eq0.false) in
    rw c.in-One.is (test_known (passed_by c.in_ok-check_shallow-in-One.ensures.passes.some (λ pending seen o r. contents_one lt (rw c.requires.ends at r))))

pub returns-in_ok-check_shallow_elements-in_default-target-2-clause-passes : goal.returns-in_ok-check_shallow_elements-in_default-target-2-clause-passes
returns-in_ok-check_shallow_elements-in_default-target-2-clause-passes g c =
    let lt : 0 < c.args.size = omega (arith, c.if-size-eq0.false) in
    rw (run_left c.args.target c.in_default-target-2.not-One c.in_default.not-Text c.in_default-target.not-Entries) (test_known (passed_by c.in_ok-check_shallow_elements-in_default-target-2.ensures.passes.some (λ pending seen o r. contents_run lt (rw c.requires.ends at r))))

pub returns-then-not-self-pointee-clause-passes : goal.returns-then-not-self-pointee-clause-passes
returns-then-not-self-pointee-clause-passes g c = test_other (omega (arith, c.if-size-eq0.false), c.in_default.not-Text) refl

-- what is paid for regions

pub returns-in_err-check_shallow-in-One-clause-pays : goal.returns-in_err-check_shallow-in-One-clause-pays
returns-in_err-check_shallow-in-One-clause-pays g c =
    omega (arith, c.in_err-check_shallow-in-One.ensures.pays, region_one_few (ap is_node_itself c.in-One.is) c.requires.region.1 (omega (arith, c.if-size-eq0.false)) (c.requires.pointee.one c.in-One.is))

pub returns-in_err-check_shallow_elements-in_default-target-2-clause-pays : goal.returns-in_err-check_shallow_elements-in_default-target-2-clause-pays
returns-in_err-check_shallow_elements-in_default-target-2-clause-pays g c =
    omega (arith, c.in_err-check_shallow_elements-in_default-target-2.ensures.pays, region_few (ap is_node_itself (run_left c.args.target c.in_default-target-2.not-One c.in_default.not-Text c.in_default-target.not-Entries)) c.requires.region.1 (omega (arith, c.if-size-eq0.false)))

pub returns-in_ok-check_shallow-in-One-clause-pays : goal.returns-in_ok-check_shallow-in-One-clause-pays
returns-in_ok-check_shallow-in-One-clause-pays g c =
    omega (arith, c.in_ok-check_shallow-in-One.ensures.pays, region_one_few (ap is_node_itself c.in-One.is) c.requires.region.1 (omega (arith, c.if-size-eq0.false)) (c.requires.pointee.one c.in-One.is))

pub returns-in_ok-check_shallow_elements-in_default-target-2-clause-pays : goal.returns-in_ok-check_shallow_elements-in_default-target-2-clause-pays
returns-in_ok-check_shallow_elements-in_default-target-2-clause-pays g c =
    omega (arith, c.in_ok-check_shallow_elements-in_default-target-2.ensures.pays, region_few (ap is_node_itself (run_left c.args.target c.in_default-target-2.not-One c.in_default.not-Text c.in_default-target.not-Entries)) c.requires.region.1 (omega (arith, c.if-size-eq0.false)))
