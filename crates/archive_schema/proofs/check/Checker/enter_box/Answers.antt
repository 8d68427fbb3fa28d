use Rattle.std.proofs.Common.{rules, refl, ap, ◌∙◌, ◌∷◌, arith}
use Rattle.std.proofs.lemmas.Int.{to_z-of_z}
use mir.Syntax.{w128}
use Rattle.archive_schema.proofs.check.Entries.{contents_refused, passed_at_once, comes_into_one}
use Rattle.archive_schema.specs.declared.check.worklist.Work.TheVariants.{Part}
use Rattle.archive_schema.specs.check.Lists.{list_of, left_first}
use Rattle.archive_schema.proofs.check.Paid.{region_one_few, listed_pays}
use Rattle.archive_schema.proofs.check.Checker.enter_box.Goals as goal

pub returns-in_err-contents-clause-enters : goal.returns-in_err-contents-clause-enters
returns-in_err-contents-clause-enters g c =
    let z = to_z-of_z w128 c.args.position c.ranges.position in
    rw c.from_residual-in_err-contents.ensures (contents_refused (rw z at c.in_ok-region.ensures.enters) c.in_err-contents.ensures.passes)

pub returns-then-branch-clause-enters : goal.returns-then-branch-clause-enters
returns-then-branch-clause-enters g c =
    let z = to_z-of_z w128 c.args.position c.ranges.position in
    passed_at_once (rw z at c.in_ok-region.ensures.enters) c.requires.ready (search rules) (c.in_ok-contents.ensures.passes.known c.if-branch.true) c.in_ok-leave_region.ensures.leaves

pub returns-clause-enters : goal.returns-clause-enters
returns-clause-enters g c =
    let z = to_z-of_z w128 c.args.position c.ranges.position in
    let listed = c.in_ok-contents.ensures.passes.other c.if-branch.false in
    comes_into_one (rw z at c.in_ok-region.ensures.enters) c.requires.ready (search rules) listed.1 listed.0.0 _ _ c.in_ok-leave.ensures.some refl (record { known = c.requires.known; few = omega arith; one = λ e. refl }) refl tt

-- what is paid for the region

pub returns-clause-pays : goal.returns-clause-pays
returns-clause-pays g c =
    let m = c.args.self.now in
    let r = c.in_ok-region.region in
    let s = g.C.Context.state c.contents.new.context in
    let h = c.in_ok-region.ensures.enters.entered in
    let listed = c.in_ok-contents.ensures.passes.other c.if-branch.false in
    let list = c.in_ok-leave.ensures.some ∙ ap (left_first r.outer_start r.outer_end) (ap (λ q. q.work) listed.1 ∙ c.in_ok-region.ensures.list) in
    let mid = list_of c.leave.new.self in
    listed_pays m s (list_of c.args.work.now) mid (Part c.args.pointee r.begin ∷ mid) (Part c.args.pointee r.begin) h c.in_ok-region.ensures.pushes (ap (λ q. q.range) listed.1) (region_one_few refl h.region listed.0.0 refl) list (omega arith)
