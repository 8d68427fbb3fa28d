use Rattle.archive_check.specs.Slots.{SlotsSayNothing, SlotsSayNoMore}
use Rattle.archive_check.proofs.slots.Slots.put_all.Given as goal

abbrev pub invariant-loop-slot : goal.invariant-loop-slot
invariant-loop-slot g l = SlotsSayNothing l.initial.self → SlotsSayNoMore l.others l.self
