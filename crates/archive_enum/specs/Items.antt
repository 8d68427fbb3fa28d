-- What an iterator over one item or none gives. It is seen as the option of what it has left.
use Rattle.std.specs.Prelude.{◌≡◌, Option, None}
use Rattle.std.specs.Borrow.{Bor, MutBor}
use Rattle.std.specs.Option.{option_copied, option_copied_mut, option_to_list}
use Rattle.std.specs.Iterator.Runs.{EveryRun, ItemsAre, ItemsMapTo}

-- A call gave what was left, and leaves nothing.
abbrev pub GivesWhatIsLeft : {P : Type 0} → Option P → Option P → Option P → Type 0
GivesWhatIsLeft left item rest = (item ≡ left) × (rest ≡ None)

-- Each run of calls gives the item.
abbrev pub YieldsItsItem : Type 0 → Type 0
YieldsItsItem P = EveryRun (GivesWhatIsLeft {P = P}) (λ run. ItemsAre run (option_to_list run.from))

-- The same of a reference, by the value that it leads to.
abbrev pub YieldsItsValue : Type 0 → Type 0
YieldsItsValue T = EveryRun (GivesWhatIsLeft {P = Bor T}) (λ run. ItemsMapTo run (λ r. r.now) (option_to_list (option_copied run.from)))

abbrev pub YieldsItsValueMut : Type 0 → Type 0
YieldsItsValueMut T = EveryRun (GivesWhatIsLeft {P = MutBor T}) (λ run. ItemsMapTo run (λ r. r.now) (option_to_list (option_copied_mut run.from)))
