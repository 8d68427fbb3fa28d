use Rattle.archive_check.proofs.SlotContents.{free_say_nothing}
use Rattle.archive_check.proofs.slots.Slots.make_slots.Goals as goal

pub returns : goal.returns
returns g c = c.put_all.ensures (free_say_nothing c.in_ok-free_slots.field-0.items c.in_ok-free_slots.ensures)
