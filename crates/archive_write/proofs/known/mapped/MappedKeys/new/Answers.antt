use Rattle.std.proofs.Common.{nat_eq}
use Rattle.std.specs.HashMap.{get}
use Rattle.archive_write.proofs.FinishedKeys.{none_are_finished}
use Rattle.archive_write.proofs.known.mapped.MappedKeys.new.Goals as goal

pub invariant_of-result : goal.invariant_of-result
invariant_of-result g c = record { recalls = none_are_finished c.new-2.result.slots (get nat_eq c.new.result) c.new-2.ensures }
