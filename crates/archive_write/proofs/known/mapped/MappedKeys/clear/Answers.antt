use Rattle.std.proofs.Common.{nat_eq}
use Rattle.std.specs.HashMap.{get}
use Rattle.archive_write.proofs.FinishedKeys.{none_are_finished}
use Rattle.archive_write.proofs.known.mapped.MappedKeys.clear.Goals as goal

pub invariant_of-self : goal.invariant_of-self
invariant_of-self g c = record { recalls = none_are_finished c.clear-2.new.self.slots (get nat_eq c.clear.new.self) c.clear-2.ensures }
