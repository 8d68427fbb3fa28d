use Rattle.std.proofs.Common.{◌≡◌, nat_eq, sym, ap, ◌∙◌, Some}
use Rattle.std.specs.HashMap.{get}
use Rattle.archive_write.proofs.FinishedKeys.{finished_found}
use Rattle.archive_write.proofs.known.mapped.MappedKeys.search.Goals as goal

pub invariant_of-self : goal.invariant_of-self
invariant_of-self g c =
    let finished : c.in-Some-Some.field-0 ≡ Some c.in-Some-Some.number = rw (c.in-Some-Some.is) at c.in-Some-Some.field-0-is in
    let found = sym c.get.ensures.value ∙ sym c.copied-state.ensures ∙ c.in-Some-Some.is ∙ ap Some finished in
    record { recalls = finished_found c.args.self.now.repeats.slots c.add_found.new.self.slots (get nat_eq c.args.self.now.states) c.args.key c.in-Some-Some.number found c.add_found.ensures c.args.self.now.recalls }
