use Rattle.std.proofs.Common.{◌≡◌, refl, ap, sym, ◌∙◌, Some, Err, to_z, of_z}
use Rattle.std.proofs.lemmas.Int.{to_z-of_z}
use mir.Syntax.{w128}
use Rattle.archive_check.specs.declared.format.error.Error.TheVariants.{LayoutTooLarge, ExceededMaximumSubtreeDepth}
use Rattle.archive_check.specs.context.Ranges.{subtree_answer}
use Rattle.archive_check.specs.Trail.{too_large}
use Rattle.archive_check.specs.context.EnteredRegions.{EntersNot, not_sized}
use Rattle.archive_check.proofs.SelfCheck.Outcomes.{if_none}
use Rattle.archive_check.proofs.Checks.TestedAnswers.{not_err, not_refused}
use Rattle.archive_check.proofs.Checks.RangeLevels.{lands}
use Rattle.archive_check.proofs.context.EnteredRegions.{astray, stopped_deep, begun}
use Rattle.archive_check.proofs.context.regions.enter.Goals as goal

pub returns-in_default-clause-stops : goal.returns-in_default-clause-stops
returns-in_default-clause-stops g c =
    let s = g.C.Context.state c.args.context.now in
    if_none (λ e. EntersNot s c.args.position c.args.align c.args.whole e) c.refuse.result c.refuse.new.refusal LayoutTooLarge c.refuse.ensures.fault (rw c.in_default.is (λ some. (too_large, refl, not_sized)))

pub returns-then-is_err-clause-stops : goal.returns-then-is_err-clause-stops
returns-then-is_err-clause-stops g c =
    let s = g.C.Context.state c.args.context.now in
    let fault = c.refuse_region.new.refusal in
    let v : Err fault ≡ subtree_answer s c.args.position c.in-Some.size c.args.align =
    sym c.refuse_region.ensures.refused ∙ ap (λ q. subtree_answer q (to_z w128 (of_z w128 c.args.position)) c.in-Some.size c.args.align) c.check_subtree_ptr.ensures.unchanged ∙ ap (λ q. subtree_answer s q c.in-Some.size c.args.align) (to_z-of_z w128 c.args.position c.ranges.position) in
    rw c.in-Some.is (astray s c.args.position c.in-Some.size c.args.align fault v)

pub returns-in_default-push_subtree_range-clause-stops : goal.returns-in_default-push_subtree_range-clause-stops
returns-in_default-push_subtree_range-clause-stops g c =
    let s = g.C.Context.state c.args.context.now in
    let z = to_z-of_z w128 c.args.position c.ranges.position in
    let fits = not_refused c.check_subtree_ptr.result (sym c.is_err.ensures.value ∙ c.if-is_err.false) ∙ c.check_subtree_ptr.ensures.answer ∙ ap (λ q. subtree_answer s q c.in-Some.size c.args.align) z in
    let at = lands s c.args.position c.in-Some.size c.args.align c.index_of-begin.result tt (sym z ∙ c.index_of-begin.ensures) fits in
    let refusal = c.in_default-push_subtree_range in
    let deep : s.depth ≡ Some 1 = ap (λ r. r.depth) (sym c.check_subtree_ptr.ensures.unchanged) ∙ refusal.ensures.refused.0 (ap Err refusal.ensures.too_deep) in
    let refused = c.refuse-in_default-push_subtree_range in
    if_none (λ e. EntersNot s c.args.position c.args.align c.args.whole e) refused.result refused.new.refusal ExceededMaximumSubtreeDepth refused.ensures.fault (rw c.in-Some.is (stopped_deep s c.args.position c.in-Some.size c.args.align c.index_of-begin.result ExceededMaximumSubtreeDepth at deep refl))

pub returns-clause-entered : goal.returns-clause-entered
returns-clause-entered g c =
    let st = g.C.Context.state in
    let s = st c.args.context.now in
    let z = to_z-of_z w128 c.args.position c.ranges.position in
    let fits = not_refused c.check_subtree_ptr.result (sym c.is_err.ensures.value ∙ c.if-is_err.false) ∙ c.check_subtree_ptr.ensures.answer ∙ ap (λ q. subtree_answer s q c.in-Some.size c.args.align) z in
    (c.in-Some.is, begun s (st c.check_subtree_ptr.new.self) (st c.push_subtree_range.new.self) c.args.position c.args.align _ tt (sym z ∙ c.index_of-begin.ensures) fits c.check_subtree_ptr.ensures.unchanged c.in-Ok.ensures.entered (λ e. not_err c.in-Ok.field-0 ExceededMaximumSubtreeDepth (c.in-Ok.ensures.refused.1 e)) c.in-Ok.ensures.outer)
