use Rattle.std.proofs.Common.{true, false, refl, sym, ap, subst, is_some}
use Rattle.std.specs.HashMap.{get}
use Rattle.std.specs.Ordering.{int_eq}
use Rattle.std.specs.Int.{w128}
use Rattle.std.proofs.Math.Facts.{to_z-of_z}
use Rattle.archive_check.specs.declared.context.positions.SharedPosition.{SharedPosition}
use Rattle.archive_check.proofs.context.RecalledPositions.{recalled_again, recalled_finished}
use Rattle.archive_check.specs.context.RecalledPositions.{AreRecalled}
use Rattle.archive_check.proofs.context.SharedPositions.{finish_kept}
use Rattle.archive_check.proofs.context.positions.SharedValidatorSharedContext.finish_shared.Goals as goal

pub returns-then-kept-clause-answer : goal.returns-then-kept-clause-answer
returns-then-kept-clause-answer g c =
    finish_kept _ _ c.args.position _ _ true c.args.self.now.known (to_z-of_z {w = w128} {z = c.args.position} c.ranges.position) c.in-Some.ensures.value c.if-kept.true

pub returns-else-kept-clause-answer : goal.returns-else-kept-clause-answer
returns-else-kept-clause-answer g c =
    finish_kept _ _ c.args.position _ _ false c.args.self.now.known (to_z-of_z {w = w128} {z = c.args.position} c.ranges.position) c.in-Some.ensures.value c.if-kept.false

pub invariant_of-self-in-Some-clause-recalls : goal.invariant_of-self-in-Some-clause-recalls
invariant_of-self-in-Some-clause-recalls g c =
    let kept = c.in-Some.kept.now in
    let now : SharedPosition = record { shared_type = kept.shared_type; length = kept.length; finished = true } in
    let written = c.get_mut.follows.holds now in
    let updates = written.3 (ap is_some (sym c.in-Some.ensures.value)) in
    recalled_finished c.args.self.now.recalled.slots c.add.new.self.slots (get int_eq c.args.self.now.positions) (get int_eq (c.get_mut.follows.lender now)) _ kept now
    c.in-Some.ensures.value c.if-kept.false refl updates.0 c.add.ensures c.args.self.now.recalls

pub invariant_of-self-clause-recalls : goal.invariant_of-self-clause-recalls
invariant_of-self-clause-recalls g c =
    subst (λ m. AreRecalled c.args.self.now.recalled.slots (get int_eq m)) (sym c.get_mut.follows.holds-at-none) c.args.self.now.recalls

pub invariant_of-self-then-kept-clause-recalls : goal.invariant_of-self-then-kept-clause-recalls
invariant_of-self-then-kept-clause-recalls g c =
    let kept = c.in-Some.kept.now in
    let written = c.get_mut.follows.holds kept in
    let updates = written.3 (ap is_some (sym c.in-Some.ensures.value)) in
    recalled_again c.args.self.now.recalled.slots (get int_eq c.args.self.now.positions) (get int_eq (c.get_mut.follows.lender kept)) _ kept c.in-Some.ensures.value updates.0 c.args.self.now.recalls
