-- Finished keys in slots, beside the map of all keys.
use Rattle.std.specs.Prelude.{◌≡◌, ℕ, Some}
use Rattle.archive_check.specs.declared.slots.Slots.{Slots}
use Rattle.archive_check.specs.Slots.{SlotsSay}
use Rattle.archive_check.specs.WriterState.{KeyStates}

-- Each key of which the slots say a position is finished there.
abbrev pub AreFinishedKeys : {A : Type 0} → Slots ℕ A → KeyStates → Type 0
AreFinishedKeys slots states = (key position : ℕ) → SlotsSay slots key position → states key ≡ Some (Some position)
