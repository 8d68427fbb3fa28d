use Rattle.std.proofs.Common.{arith, refl}
use Rattle.std.proofs.lemmas.Int.{to_z-of_z}
use mir.Syntax.{w128}
use Rattle.archive_check.specs.Trail.{no_text}
use Rattle.archive_schema.specs.check.Runs.{contents_no_text}
use Rattle.archive_schema.specs.check.LoopInvariant.{RegionIsLegalHere}
use Rattle.archive_check.proofs.Checks.TestedAnswers.{not_true, is_true}
use Rattle.archive_schema.proofs.check.EnteredRegions.{passes_text, passes_free}
use Rattle.archive_schema.proofs.check.AtOnce.{free_is, target_free, target_plain, passed_same}
use Rattle.archive_schema.proofs.check.Entries.{region_shut, region_refused, region_passes}
use Rattle.archive_schema.proofs.check.Checker.check_shallow_region.Goals as goal
use Rattle.archive_schema.proofs.check.Checker.check_shallow_region.Goals.{in-Text+else-not-is_text, in_default}

pub returns-in_err-region-clause-passes : goal.returns-in_err-region-clause-passes
returns-in_err-region-clause-passes g c =
    let z = to_z-of_z w128 c.args.position c.ranges.position in
    rw c.from_residual.ensures (region_shut (rw z at c.in_err-region.ensures.enters))

pub returns-then-not-is_text-clause-passes : goal.returns-then-not-is_text-clause-passes
returns-then-not-is_text-clause-passes g c =
    let z = to_z-of_z w128 c.args.position c.ranges.position in
    rw c.in-Text.is (region_refused (rw (z, c.in-Text.is) at c.in_ok-region.ensures.enters) c.refuse.ensures.none c.refuse.ensures.fault (λ some. (no_text, refl, λ pending seen. contents_no_text (λ u. not_true c.is_text.result c.if-not-is_text.true (c.is_text.ensures.1 u)))))

pub returns-clause-passes : goal.returns-clause-passes
returns-clause-passes g c =
    let m = c.args.self.now in
    let z = to_z-of_z w128 c.args.position c.ranges.position in
    let h = rw z at c.in_ok-region.ensures.enters in
    let r = c.in_ok-region.region in
    let legal : RegionIsLegalHere m c.args.target c.args.pointee c.args.count r.size r.begin = elim c.match-target.branch [
      | in-Text+else-not-is_text w ↦ rw w.in-Text.is (passes_text m c.args.pointee c.args.count r.size r.begin (w.is_text.ensures.0 (is_true w.is_text.result w.if-not-is_text.false)))
      | in_default w ↦ passes_free m c.args.pointee c.args.count r.size r.begin c.args.target h.entered.align w.in_default.not-Text c.requires.pointee.one (target_plain m.nodes.now c.args.pointee c.args.target c.requires.shallow) h.entered.region (free_is m c.args.pointee (target_free m.nodes.now c.args.pointee c.args.target c.requires.shallow w.in_default.not-Text)) (omega (arith, h.entered.lands.below, c.requires.below))
    ] in
    region_passes h (passed_same (λ pending seen. legal pending _ _ seen)) c.leave_region.ensures.leaves
