-- What is recalled of finished positions beside the map of all.
use Rattle.std.specs.Prelude.{◌≡◌, ℕ, ℤ, pos, true, Option, Some, IfSome}
use Rattle.archive_check.specs.declared.context.positions.SharedPosition.{SharedPosition}
use Rattle.archive_check.specs.declared.context.recalled.FinishedPosition.{FinishedPosition}
use Rattle.archive_check.specs.declared.slots.Slots.{Slots}
use Rattle.archive_check.specs.Slots.{SlotsSay}

-- What is held of a finished position, as it is kept.
abbrev pub recalled : FinishedPosition → SharedPosition
recalled held = record { shared_type = held.shared_type; length = held.length; finished = true }

-- What is held is what is kept of the position, if it is finished.
abbrev pub IsHeld : SharedPosition → FinishedPosition → Type 0
IsHeld now held = now.finished ≡ true → recalled held ≡ now

module _ {A : Type 0} where
  -- What the slots say of a position is what is kept of it.
  abbrev pub AreRecalled : Slots FinishedPosition A → (ℤ → Option SharedPosition) → Type 0
  AreRecalled slots kept = (key : ℕ) (held : FinishedPosition) → SlotsSay slots key held → kept (pos key) ≡ Some (recalled held)

  -- What is found of a position is what the map has of it.
  abbrev pub IsRecalled : Slots FinishedPosition A → ℤ → Option SharedPosition → Type 0
  IsRecalled slots position found =
      (kept : ℤ → Option SharedPosition) → AreRecalled slots kept → IfSome found (λ k. kept position ≡ Some k)

  -- Where the map has this of a position, and the position is finished, what is recalled afterwards is what the map has, as before.
  abbrev pub StaysRecalled : Slots FinishedPosition A → Slots FinishedPosition A → ℤ → SharedPosition → Type 0
  StaysRecalled old new position now =
      (kept : ℤ → Option SharedPosition) → AreRecalled old kept → kept position ≡ Some now → now.finished ≡ true → AreRecalled new kept
