use Rattle.std.proofs.Common.{rules, refl, ap, false, ◌∙◌}
use Rattle.std.proofs.lemmas.Int.{to_z-of_z}
use mir.Syntax.{w128}
use Rattle.archive_schema.proofs.check.EnteredRegions.{is_node_itself, run_left, can_leave_more}
use Rattle.archive_schema.proofs.check.Entries.{kept_out, contents_refused, passed_at_once, no_room_there, comes_into_one, comes_into_run, comes_into_entries}
use Rattle.archive_schema.specs.declared.check.worklist.Work.TheVariants.{Part, Elements, Entries}
use Rattle.archive_schema.specs.check.Lists.{list_of, left_first}
use Rattle.archive_schema.proofs.check.Paid.{region_few, region_one_few, region_entries_few, pays_entry, listed_pays}
use Rattle.archive_schema.proofs.check.Checker.enter_here.Goals as goal

pub returns-in_err-region-clause-enters : goal.returns-in_err-region-clause-enters
returns-in_err-region-clause-enters g c =
    let z = to_z-of_z w128 c.args.position c.ranges.position in
    rw c.from_residual.ensures (kept_out (rw z at c.in_err-region.ensures.enters))

pub returns-in_err-contents-clause-enters : goal.returns-in_err-contents-clause-enters
returns-in_err-contents-clause-enters g c =
    let z = to_z-of_z w128 c.args.position c.ranges.position in
    rw c.from_residual-in_err-contents.ensures (contents_refused (rw z at c.in_ok-region.ensures.enters) c.in_err-contents.ensures.passes)

pub returns-then-branch-clause-enters : goal.returns-then-branch-clause-enters
returns-then-branch-clause-enters g c =
    let z = to_z-of_z w128 c.args.position c.ranges.position in
    passed_at_once (rw z at c.in_ok-region.ensures.enters) c.requires.ready (search rules) (c.in_ok-contents.ensures.passes.known c.if-branch.true) c.leave_region.ensures.leaves

pub leave-requires : goal.leave-requires
leave-requires g c =
    let m = c.args.self.now in
    let listed = c.in_ok-contents.ensures.passes.other c.if-branch.false in
    rw (ap (λ q. q.work) listed.1 ∙ c.in_ok-region.ensures.list) (can_leave_more m (g.C.Context.state c.args.context.now).end (list_of c.args.work.now) (search rules) c.requires.ready.fits)

pub returns-in_err-leave-clause-enters : goal.returns-in_err-leave-clause-enters
returns-in_err-leave-clause-enters g c = rw c.from_residual-in_err-leave.ensures (no_room_there c.in_err-leave.ensures.none)

pub returns-in-One-clause-enters : goal.returns-in-One-clause-enters
returns-in-One-clause-enters g c =
    let z = to_z-of_z w128 c.args.position c.ranges.position in
    let listed = c.in_ok-contents.ensures.passes.other c.if-branch.false in
    rw c.in-One.is (comes_into_one (rw (z, c.in-One.is) at c.in_ok-region.ensures.enters) c.requires.ready (search rules) listed.1 listed.0.0 _ _ c.in_ok-leave.ensures.some refl (rw c.in-One.is at c.requires.pointee) c.part.ensures.some c.part.ensures.none)

pub returns-in-Entries-clause-enters : goal.returns-in-Entries-clause-enters
returns-in-Entries-clause-enters g c =
    let z = to_z-of_z w128 c.args.position c.ranges.position in
    let listed = c.in_ok-contents.ensures.passes.other c.if-branch.false in
    rw c.in-Entries.is (comes_into_entries (rw (z, c.in-Entries.is) at c.in_ok-region.ensures.enters) c.requires.ready (search rules) listed.1 listed.0.0 _ _ c.in_ok-leave.ensures.some refl (rw c.in-Entries.is at c.requires.pointee) c.entries.ensures.some c.entries.ensures.none)

pub returns-in_default-clause-enters : goal.returns-in_default-clause-enters
returns-in_default-clause-enters g c =
    let z = to_z-of_z w128 c.args.position c.ranges.position in
    let listed = c.in_ok-contents.ensures.passes.other c.if-branch.false in
    let run = run_left c.args.target c.in_default.not-One listed.0.1 c.in_default.not-Entries in
    rw run (comes_into_run (rw (z, run) at c.in_ok-region.ensures.enters) c.requires.ready (search rules) listed.1 listed.0.0 _ _ c.in_ok-leave.ensures.some refl (rw run at c.requires.pointee) c.elements.ensures.some c.elements.ensures.none)

-- what is paid for the region

pub returns-in-One-clause-pays : goal.returns-in-One-clause-pays
returns-in-One-clause-pays g c =
    let m = c.args.self.now in
    let r = c.in_ok-region.region in
    let s = g.C.Context.state c.contents.new.context in
    let h = c.in_ok-region.ensures.enters.entered in
    let listed = c.in_ok-contents.ensures.passes.other c.if-branch.false in
    let list = c.in_ok-leave.ensures.some ∙ ap (left_first r.outer_start r.outer_end) (ap (λ q. q.work) listed.1 ∙ c.in_ok-region.ensures.list) in
    let mid = list_of c.leave.new.self in
    let entry = Part c.args.pointee r.begin in
    listed_pays m s (list_of c.args.work.now) mid (list_of c.part.new.self) entry h c.in_ok-region.ensures.pushes (ap (λ q. q.range) listed.1) (region_one_few (ap is_node_itself c.in-One.is) h.region listed.0.0 (c.requires.pointee.one c.in-One.is))
    list (pays_entry m s mid (list_of c.part.new.self) entry c.part.result c.part.ensures.some c.part.ensures.kept)

pub returns-in-Entries-clause-pays : goal.returns-in-Entries-clause-pays
returns-in-Entries-clause-pays g c =
    let m = c.args.self.now in
    let r = c.in_ok-region.region in
    let s = g.C.Context.state c.contents.new.context in
    let h = c.in_ok-region.ensures.enters.entered in
    let listed = c.in_ok-contents.ensures.passes.other c.if-branch.false in
    let list = c.in_ok-leave.ensures.some ∙ ap (left_first r.outer_start r.outer_end) (ap (λ q. q.work) listed.1 ∙ c.in_ok-region.ensures.list) in
    let mid = list_of c.leave.new.self in
    let entry = Entries c.in-Entries.key c.args.pointee c.args.count r.begin false in
    listed_pays m s (list_of c.args.work.now) mid (list_of c.entries.new.self) entry h c.in_ok-region.ensures.pushes (ap (λ q. q.range) listed.1) (region_entries_few (rw c.in-Entries.is at h.region) listed.0.0)
    list (pays_entry m s mid (list_of c.entries.new.self) entry c.entries.result c.entries.ensures.some c.entries.ensures.kept)

pub returns-in_default-clause-pays : goal.returns-in_default-clause-pays
returns-in_default-clause-pays g c =
    let m = c.args.self.now in
    let r = c.in_ok-region.region in
    let s = g.C.Context.state c.contents.new.context in
    let h = c.in_ok-region.ensures.enters.entered in
    let listed = c.in_ok-contents.ensures.passes.other c.if-branch.false in
    let run = run_left c.args.target c.in_default.not-One listed.0.1 c.in_default.not-Entries in
    let list = c.in_ok-leave.ensures.some ∙ ap (left_first r.outer_start r.outer_end) (ap (λ q. q.work) listed.1 ∙ c.in_ok-region.ensures.list) in
    let mid = list_of c.leave.new.self in
    let entry = Elements c.args.pointee c.args.count r.begin in
    listed_pays m s (list_of c.args.work.now) mid (list_of c.elements.new.self) entry h c.in_ok-region.ensures.pushes (ap (λ q. q.range) listed.1) (region_few (ap is_node_itself run) h.region listed.0.0)
    list (pays_entry m s mid (list_of c.elements.new.self) entry c.elements.result c.elements.ensures.some c.elements.ensures.kept)
