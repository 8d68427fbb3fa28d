use Rattle.std.proofs.Common.{nat_eq}
use Rattle.std.specs.HashMap.{get}
use Rattle.archive_write.proofs.FinishedKeys.{none_are_finished}
use Rattle.archive_write.proofs.known.mapped.MappedKeys.with_capacity.Goals as goal

pub invariant_of-result : goal.invariant_of-result
invariant_of-result g c = record { recalls = none_are_finished c.new.result.slots (get nat_eq c.in_ok-with_capacity.field-0) c.new.ensures }
