use Rattle.std.proofs.Common.{sym, ap, subst}
use Rattle.archive_check.specs.Slots.{SlotsSayNoMore}
use Rattle.archive_write.specs.declared.repeats.Repeats.{Repeats}
use Rattle.archive_write.proofs.FinishedKeys.{besides_no_more}
use Rattle.archive_write.proofs.repeats.Repeats.add_found.Goals.{then-self-eq0, else-self-eq0}
use Rattle.archive_write.proofs.repeats.Repeats.add_found.Goals as goal

pub returns-then-not-is_empty : goal.returns-then-not-is_empty
returns-then-not-is_empty g c =
    besides_no_more c.args.self.now.slots c.if-self-eq0.self.slots c.add.new.self c.args.key c.args.value
    (elim c.if-self-eq0.branch [
      | then-self-eq0 w ↦ subst (SlotsSayNoMore c.args.self.now.slots) (sym (ap (λ (r : Repeats _ _). r.slots) w.self-is)) w.make_slots.ensures
      | else-self-eq0 w ↦ subst (SlotsSayNoMore c.args.self.now.slots) (sym (ap (λ (r : Repeats _ _). r.slots) w.self-is)) (λ key value says. says)
    ])
    c.add.ensures
