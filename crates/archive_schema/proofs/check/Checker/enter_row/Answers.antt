use Rattle.std.proofs.Common.{rules, refl, ap, ◌∙◌, ◌∷◌, arith}
use Rattle.std.proofs.lemmas.Int.{to_z-of_z}
use mir.Syntax.{w128}
use Rattle.archive_schema.specs.declared.plan.PointeeKind.TheVariants.{Run}
use Rattle.archive_schema.specs.declared.check.worklist.Work.TheVariants.{Elements}
use Rattle.archive_schema.specs.check.Lists.{list_of, left_first}
use Rattle.archive_schema.proofs.check.AtOnce.{passed_same}
use Rattle.archive_schema.proofs.check.EnteredRegions.{passes_empty}
use Rattle.archive_schema.proofs.check.Entries.{passed_at_once, comes_into_run}
use Rattle.archive_schema.proofs.check.HollowRecords.{no_entries}
use Rattle.archive_schema.proofs.check.Paid.{region_few, listed_pays}
use Rattle.archive_schema.proofs.check.Checker.enter_row.Goals as goal

pub returns-then-size-eq0-clause-enters : goal.returns-then-size-eq0-clause-enters
returns-then-size-eq0-clause-enters g c =
    let z = to_z-of_z w128 c.args.position c.ranges.position in
    let r = c.in_ok-region.region in
    let empty = passes_empty c.args.self.now c.args.pointee c.args.count r.size r.begin Run (omega (arith, c.if-size-eq0.true)) no_entries in
    passed_at_once (rw z at c.in_ok-region.ensures.enters) c.requires.ready (search rules) (passed_same (λ pending seen. empty pending _ _ seen)) c.in_ok-leave_region.ensures.leaves

pub returns-clause-enters : goal.returns-clause-enters
returns-clause-enters g c =
    let z = to_z-of_z w128 c.args.position c.ranges.position in
    comes_into_run (rw z at c.in_ok-region.ensures.enters) c.requires.ready (search rules) refl (omega (arith, c.if-size-eq0.false)) _ _ c.in_ok-leave.ensures.some refl c.requires.pointee refl tt

-- what is paid for the region

pub returns-clause-pays : goal.returns-clause-pays
returns-clause-pays g c =
    let m = c.args.self.now in
    let r = c.in_ok-region.region in
    let s = g.C.Context.state c.enter_region.new.context in
    let h = c.in_ok-region.ensures.enters.entered in
    let list = c.in_ok-leave.ensures.some ∙ ap (left_first r.outer_start r.outer_end) c.in_ok-region.ensures.list in
    let mid = list_of c.leave.new.self in
    let entry = Elements c.args.pointee c.args.count r.begin in
    listed_pays m s (list_of c.args.work.now) mid (entry ∷ mid) entry h c.in_ok-region.ensures.pushes refl (region_few refl h.region (omega (arith, c.if-size-eq0.false))) list (omega arith)
