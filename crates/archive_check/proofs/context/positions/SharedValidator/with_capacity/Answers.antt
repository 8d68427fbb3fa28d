use Rattle.std.specs.HashMap.{get}
use Rattle.std.specs.Ordering.{int_eq}
use Rattle.archive_check.proofs.context.positions.SharedValidator.with_capacity.Goals as goal

pub invariant_of-result-clause-recalls : goal.invariant_of-result-clause-recalls
invariant_of-result-clause-recalls g c = c.make_room.ensures (get int_eq c.in_ok-with_capacity.field-0) (c.new-recalled.ensures (get int_eq c.in_ok-with_capacity.field-0))
