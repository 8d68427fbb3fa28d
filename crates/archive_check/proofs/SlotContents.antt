-- What slots say where they are free, and where keys are taken from others.
use Rattle.std.proofs.Common.{◌≢◌, ℕ, List, Contains, sym, subst, inl, inr}
use Rattle.std.proofs.lemmas.List.Elements.{All-contains}
use Rattle.archive_check.specs.declared.slots.Slot.{Slot}
use Rattle.archive_check.specs.declared.slots.Slots.{Slots}
use Rattle.archive_check.specs.Slots.{IsFreeSlot, AreFreeSlots, SlotsSay, SlotsSayNothing, SlotsSayNoMore, SlotsSayBesides}

pub free_say_nothing : {V : Type 0} (slots : List (Slot V)) → AreFreeSlots slots → (key : ℕ) (value : V) → (key ≢ 18446744073709551615) × Contains slots (record { key = key; value = value }) → ⊥
free_say_nothing slots free key value says = says.0 (All-contains IsFreeSlot slots _ free says.1)

module _ {V A : Type 0} where
  pub nothing_is_no_more : (from slots : Slots V A) → SlotsSayNothing slots → SlotsSayNoMore from slots
  nothing_is_no_more from slots nothing key value says = absurd (nothing key value says)

  -- a slot goes among others that said no more
  pub put_says_no_more : (from old new : Slots V A) (slot : Slot V) → Contains from.slots.items slot → SlotsSayNoMore from old → SlotsSayBesides old new slot.key slot.value → SlotsSayNoMore from new
  put_says_no_more from old new slot there before put key value says =
      elim (put key value says) [
        | inl said ↦ before key value said
        | inr same ↦
            let taken = subst (λ k. k ≢ 18446744073709551615) same.0 says.0 in
            subst (λ v. SlotsSay from key v) (sym same.1) (subst (λ k. SlotsSay from k slot.value) (sym same.0) (taken, there))
      ]
