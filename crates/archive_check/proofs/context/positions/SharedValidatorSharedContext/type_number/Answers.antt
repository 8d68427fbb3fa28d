use Rattle.std.proofs.Common.{subst}
use Rattle.std.specs.HashMap.{get}
use Rattle.std.specs.Ordering.{int_eq}
use Rattle.archive_check.specs.Expressions.{flavor_of, pointee_of}
use Rattle.archive_check.specs.context.SharedPositions.{IsAbsent}
use Rattle.archive_check.proofs.context.SharedPositions.{absent_unfinished, none_weaker}
use Rattle.archive_check.proofs.context.positions.SharedValidatorSharedContext.type_number.Goals as goal

pub returns-clause-none : goal.returns-clause-none
returns-clause-none g c =
    none_weaker c.find_type.result
    (λ absent.
    absent_unfinished c.args.self.now.shared_types.items (get int_eq c.args.self.now.positions) (flavor_of c.args.flavor.now) (pointee_of c.args.pointee.now) c.args.self.now.known
    (subst (λ xs. IsAbsent xs (flavor_of c.args.flavor.now) (pointee_of c.args.pointee.now)) c.deref.ensures.value absent))
    c.find_type.ensures.absent
