use Rattle.std.proofs.Common.{refl, rules}
use Rattle.std.specs.Int.{w128}
use Rattle.std.proofs.Math.Facts.{to_z-of_z}
use Rattle.archive_check.proofs.context.SubtreeSteps.{at_check, at_push, at_call, at_pop, at_end}
use Rattle.archive_check.proofs.context.subtree.ArchiveContextExt.in_subtree_raw.Goals as goal

pub returns-in_err-check_subtree_ptr : goal.returns-in_err-check_subtree_ptr
returns-in_err-check_subtree_ptr g c =
    at_check _ _ _ _ _ _ _ c.args.position _ _ _ _ (to_z-of_z {w = w128} {z = c.args.position} c.ranges.position)
    c.in_err-check_subtree_ptr.ensures.answer c.from_residual.ensures.1 c.check_subtree_ptr.ensures.unchanged c.check_subtree_ptr.ensures.positions

pub returns-in_err-outer : goal.returns-in_err-outer
returns-in_err-outer g c =
    at_push _ _ _ _ _ _ _ c.args.position _ _ _ c.check_subtree_ptr.new.self _
    (record { same = to_z-of_z {w = w128} {z = c.args.position} c.ranges.position; accepted = c.in_ok-check_subtree_ptr.ensures.answer; state_is = c.check_subtree_ptr.ensures.unchanged; positions_are = c.check_subtree_ptr.ensures.positions })
    c.in_err-outer.ensures.too_deep (c.in_err-outer.ensures.refused.0 (search rules)) c.from_residual-in_err-outer.ensures.1 c.in_err-outer.ensures.unchanged c.in_err-outer.ensures.positions

pub returns-in_err-answer : goal.returns-in_err-answer
returns-in_err-answer g c =
    at_call _ _ _ _ _ _ _ c.args.position _ _ _ c.check_subtree_ptr.new.self c.push_subtree_range.new.self _ (record { is_checked = record { same = to_z-of_z {w = w128} {z = c.args.position} c.ranges.position; accepted = c.in_ok-check_subtree_ptr.ensures.answer; state_is = c.check_subtree_ptr.ensures.unchanged; positions_are = c.check_subtree_ptr.ensures.positions }; deep = λ e. let clash = c.in_ok-outer.ensures.refused.1 e in cc; state_is = c.in_ok-outer.ensures.entered; positions_are = c.in_ok-outer.ensures.positions })
    c.from_residual-in_err-answer.ensures.1 (record { shown = _; shows = refl; left = _; met = c.in_err-answer.ensures; leaves = refl })

pub returns-in_err-pop_subtree_range : goal.returns-in_err-pop_subtree_range
returns-in_err-pop_subtree_range g c =
    at_pop _ _ _ _ _ _ _ c.args.position _ _ _ _ _ c.check_subtree_ptr.new.self c.push_subtree_range.new.self c.f.new.arg2 _ (record { is_checked = record { same = to_z-of_z {w = w128} {z = c.args.position} c.ranges.position; accepted = c.in_ok-check_subtree_ptr.ensures.answer; state_is = c.check_subtree_ptr.ensures.unchanged; positions_are = c.check_subtree_ptr.ensures.positions }; deep = λ e. let clash = c.in_ok-outer.ensures.refused.1 e in cc; state_is = c.in_ok-outer.ensures.entered; positions_are = c.in_ok-outer.ensures.positions })
    (record { shown = _; shows = refl; left = _; met = c.in_ok-answer.ensures; leaves = refl })
    c.in_ok-outer.ensures.outer.0 c.in_err-pop_subtree_range.ensures.answer c.from_residual-in_err-pop_subtree_range.ensures.1 c.in_err-pop_subtree_range.ensures.unchanged c.in_err-pop_subtree_range.ensures.positions

pub returns : goal.returns
returns g c =
    at_end _ _ _ _ _ _ _ c.args.position _ _ _ _ c.check_subtree_ptr.new.self c.push_subtree_range.new.self c.f.new.arg2 _ (record { is_checked = record { same = to_z-of_z {w = w128} {z = c.args.position} c.ranges.position; accepted = c.in_ok-check_subtree_ptr.ensures.answer; state_is = c.check_subtree_ptr.ensures.unchanged; positions_are = c.check_subtree_ptr.ensures.positions }; deep = λ e. let clash = c.in_ok-outer.ensures.refused.1 e in cc; state_is = c.in_ok-outer.ensures.entered; positions_are = c.in_ok-outer.ensures.positions })
    (record { shown = _; shows = refl; left = _; met = c.in_ok-answer.ensures; leaves = refl })
    c.in_ok-outer.ensures.outer.0 c.in_ok-outer.ensures.outer.1 c.in_ok-pop_subtree_range.ensures.answer c.in_ok-pop_subtree_range.ensures.left c.in_ok-pop_subtree_range.ensures.positions
