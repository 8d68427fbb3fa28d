use Rattle.std.proofs.Common.{sym, ap, subst}
use Rattle.archive_check.specs.Slots.{SlotsSayNoMore}
use Rattle.archive_write.specs.declared.repeats.Repeats.{Repeats}
use Rattle.archive_write.proofs.repeats.Repeats.make_slots.Goals.{then-self-enough, else-self-enough}
use Rattle.archive_write.proofs.repeats.Repeats.make_slots.Goals as goal

pub returns : goal.returns
returns g c =
    elim c.if-self-enough.branch [
      | then-self-enough w ↦ subst (SlotsSayNoMore c.args.self.now.slots) (sym (ap (λ (r : Repeats _ _). r.slots) w.self-is)) w.make_room.ensures
      | else-self-enough w ↦ subst (SlotsSayNoMore c.args.self.now.slots) (sym (ap (λ (r : Repeats _ _). r.slots) w.self-is)) (λ key value says. says)
    ]
