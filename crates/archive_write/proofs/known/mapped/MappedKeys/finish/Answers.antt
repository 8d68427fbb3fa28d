use Rattle.std.proofs.Common.{nat_eq, sym, ap, ◌∙◌, subst, Some, is_some}
use Rattle.std.specs.HashMap.{get}
use Rattle.archive_write.specs.FinishedKeys.{AreFinishedKeys}
use Rattle.archive_write.proofs.FinishedKeys.{pending_of, finished_again, finished_set}
use Rattle.archive_write.proofs.known.mapped.MappedKeys.finish.Goals as goal

pub invariant_of-self : goal.invariant_of-self
invariant_of-self g c = record { recalls = subst (λ m. AreFinishedKeys c.args.self.now.repeats.slots (get nat_eq m)) (sym c.get_mut.follows.holds-at-none) c.args.self.now.recalls }

pub invariant_of-self-then-is_some : goal.invariant_of-self-then-is_some
invariant_of-self-then-is_some g c =
    let state = c.in-Some.state.now in
    let written = c.get_mut.follows.holds state in
    let updates = written.3 (ap is_some (sym c.in-Some.ensures.value)) in
    record { recalls = finished_again c.args.self.now.repeats.slots (get nat_eq c.args.self.now.states) (get nat_eq (c.get_mut.follows.lender state)) c.args.key state c.in-Some.ensures.value updates.0 c.args.self.now.recalls }

pub invariant_of-self-in-Some : goal.invariant_of-self-in-Some
invariant_of-self-in-Some g c =
    let written = c.get_mut.follows.holds (Some c.args.number) in
    let updates = written.3 (ap is_some (sym c.in-Some.ensures.value)) in
    let pending = sym c.in-Some.ensures.value ∙ ap Some (pending_of c.in-Some.state.now (sym c.is_some.ensures ∙ c.if-is_some.false)) in
    record { recalls = finished_set c.args.self.now.repeats.slots (get nat_eq c.args.self.now.states) (get nat_eq (c.get_mut.follows.lender (Some c.args.number))) c.args.key (Some (Some c.args.number)) pending updates.0 c.args.self.now.recalls }
