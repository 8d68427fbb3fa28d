-- What slots say of keys.
use Rattle.std.specs.Prelude.{◌≡◌, ◌≢◌, ◌⊎◌, ℕ, List, Contains}
use Rattle.std.specs.List.{All}
use Rattle.archive_check.specs.declared.slots.Slot.{Slot}
use Rattle.archive_check.specs.declared.slots.Slots.{Slots}

module _ {V : Type 0} where
  -- A slot with no key.
  abbrev pub IsFreeSlot : Slot V → Type 0
  IsFreeSlot slot = slot.key ≡ 18446744073709551615

  abbrev pub AreFreeSlots : List (Slot V) → Type 0
  AreFreeSlots slots = All IsFreeSlot slots

  module _ {A : Type 0} where
    -- A slot has the key with this value.
    abbrev pub SlotsSay : Slots V A → ℕ → V → Type 0
    SlotsSay slots key value = (key ≢ 18446744073709551615) × Contains slots.slots.items (record { key = key; value = value })

    -- No slot has a key.
    abbrev pub SlotsSayNothing : Slots V A → Type 0
    SlotsSayNothing slots = (key : ℕ) (value : V) → SlotsSay slots key value → ⊥

    -- What is said now was said before.
    abbrev pub SlotsSayNoMore : Slots V A → Slots V A → Type 0
    SlotsSayNoMore old new = (key : ℕ) (value : V) → SlotsSay new key value → SlotsSay old key value

    -- What is said now was said before, or is that this key has this value.
    abbrev pub SlotsSayBesides : Slots V A → Slots V A → ℕ → V → Type 0
    SlotsSayBesides old new added now = (key : ℕ) (value : V) → SlotsSay new key value → SlotsSay old key value ⊎ ((key ≡ added) × (value ≡ now))
