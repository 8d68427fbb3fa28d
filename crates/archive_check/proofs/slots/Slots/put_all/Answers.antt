use Rattle.std.proofs.Common.{sym, subst, Contains}
use Rattle.archive_check.specs.Slots.{SlotsSayNoMore}
use Rattle.archive_check.proofs.SlotContents.{nothing_is_no_more, put_says_no_more}
use Rattle.archive_check.proofs.slots.Slots.put_all.Goals.{then-slot, else-slot}
use Rattle.archive_check.proofs.slots.Slots.put_all.Goals as goal

pub loop-slot-init : goal.loop-slot-init
loop-slot-init g c = nothing_is_no_more c.args.others.now c.args.self.now

pub loop-slot-preserved : goal.loop-slot-preserved
loop-slot-preserved g c = λ nothing.
    elim c.if-slot.branch [
      | then-slot w ↦ subst (SlotsSayNoMore c.args.others.now) (sym w.self-is) (put_says_no_more c.args.others.now c.loop-slot.self w.put.new.self c.slot-item.result (subst (λ xs. Contains xs c.slot-item.result) c.deref-slot-items.ensures.value (c.loop-slot.slot-index, c.loop-slot-test.true, sym c.slot-item.is)) (c.loop-slot.invariant nothing) w.put.ensures)
      | else-slot w ↦ subst (SlotsSayNoMore c.args.others.now) (sym w.self-is) (c.loop-slot.invariant nothing)
    ]
