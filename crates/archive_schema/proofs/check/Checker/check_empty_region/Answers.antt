use Rattle.std.proofs.Common.{refl, Some, None}
use Rattle.std.proofs.lemmas.Int.{to_z-of_z}
use mir.Syntax.{w128}
use Rattle.archive_schema.specs.declared.plan.PointeeKind.TheVariants.{Run}
use Rattle.archive_schema.proofs.check.AtOnce.{passed_same}
use Rattle.archive_schema.proofs.check.EnteredRegions.{passes_empty}
use Rattle.archive_schema.proofs.check.Entries.{enters_so, region_shut, region_passes}
use Rattle.archive_schema.proofs.check.HollowRecords.{empty_region, region_none, no_entries}
use Rattle.archive_schema.proofs.check.Checker.check_empty_region.Goals as goal

pub returns-in_err-region-clause-passes : goal.returns-in_err-region-clause-passes
returns-in_err-region-clause-passes g c =
    let z = to_z-of_z w128 c.args.position c.ranges.position in
    rw c.from_residual.ensures (region_shut (enters_so None (empty_region c.requires.align) tt (rw z at c.in_err-region.ensures.stops) tt refl))

pub returns-clause-passes : goal.returns-clause-passes
returns-clause-passes g c =
    let z = to_z-of_z w128 c.args.position c.ranges.position in
    let r = c.in_ok-region.region in
    let h = enters_so (Some r) {fault = c.enter.new.refusal} (empty_region c.requires.align) (rw z at c.in_ok-region.ensures.entered) tt c.in_ok-region.ensures.positions refl in
    let empty = passes_empty c.args.self.now c.args.pointee 0 r.size r.begin Run (region_none h.entered.region) no_entries in
    region_passes h (passed_same (λ pending seen. empty pending _ _ seen)) c.leave_region.ensures.leaves
