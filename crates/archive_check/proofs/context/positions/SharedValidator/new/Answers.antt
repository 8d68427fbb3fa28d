use Rattle.std.specs.HashMap.{get}
use Rattle.std.specs.Ordering.{int_eq}
use Rattle.archive_check.proofs.context.positions.SharedValidator.new.Goals as goal

pub invariant_of-result-clause-recalls : goal.invariant_of-result-clause-recalls
invariant_of-result-clause-recalls g c = c.new-3.ensures (get int_eq c.new-2.result)
