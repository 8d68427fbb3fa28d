use Rattle.std.proofs.Common.{rules, sym, subst}
use Rattle.archive_check.specs.Expressions.{flavor_of, pointee_of}
use Rattle.archive_check.specs.context.SharedPositions.{AreDistinct, IsAbsent}
use Rattle.archive_check.proofs.context.SharedPositions.{has_pushed, distinct_pushed}
use Rattle.archive_check.proofs.context.positions.type_index.Goals as goal

pub returns-clause-found : goal.returns-clause-found
returns-clause-found g c = has_pushed _ _ _ _ _ _ c.in_ok-push.ensures.items (search rules) c.in_ok-clone.ensures.cases

pub returns-in_err-push-clause-distinct : goal.returns-in_err-push-clause-distinct
returns-in_err-push-clause-distinct g c = λ distinct. subst AreDistinct (sym c.in_err-push.ensures.items) distinct

pub returns-clause-distinct : goal.returns-clause-distinct
returns-clause-distinct g c =
    let absent = subst (λ xs. IsAbsent xs (flavor_of c.args.flavor.now) (pointee_of c.args.pointee.now)) c.deref.ensures.value c.in_default.ensures.absent in
    distinct_pushed c.args.shared_types.now.items c.push.new.self.items c.args.flavor.now c.in_ok-clone.field-0 (pointee_of c.args.pointee.now) absent c.in_ok-push.ensures.items c.in_ok-clone.ensures.cases
