-- What slots say of finished keys stays right where keys are started or finished.
use Rattle.std.proofs.Common.{◌≡◌, ℕ, Bool, true, false, cond, nat_eq, refl, sym, ap, ◌∙◌, subst, Option, Some, None, is_some, Result, Ok, Err, OnOk, OnErr, inl, inr}
use Rattle.std.specs.Cmp.{unsigned_Decides}
use Rattle.std.specs.Map.{lookup}
use Rattle.std.specs.HashMap.{HashMap, get, Updates, IsUnchanged}
use Rattle.archive_check.specs.declared.slots.Slots.{Slots}
use Rattle.archive_check.specs.Slots.{SlotsSayNothing, SlotsSayNoMore, SlotsSayBesides}
use Rattle.archive_check.specs.WriterState.{KeyState, KeyStates}
use Rattle.archive_write.specs.FinishedKeys.{AreFinishedKeys}

other_stays : (b : Bool) (x y : KeyState) → (b ≡ true → ⊥) → cond b x y ≡ y
other_stays true x y other = absurd (other refl)
other_stays false x y other = refl

same_again : (b : Bool) (s : Option ℕ) (x : KeyState) → (b ≡ true → Some s ≡ x) → cond b (Some s) x ≡ x
same_again true s x same = same refl
same_again false s x same = refl

pub pending_of : (s : Option ℕ) → is_some s ≡ false → s ≡ None
pending_of None unfinished = refl
pending_of (Some position) unfinished = cc

never_unknown : (s : KeyState) (p : ℕ) → s ≡ None → s ≡ Some (Some p) → ⊥
never_unknown s p none is = let w : None ≡ Some (Some p) = sym none ∙ is in cc

never_pending : (s : KeyState) (p : ℕ) → s ≡ Some None → s ≡ Some (Some p) → ⊥
never_pending s p pending is = let w : Some None ≡ Some (Some p) = sym pending ∙ is in cc

module _ {A : Type 0} where
  pub none_are_finished : (slots : Slots ℕ A) (f : KeyStates) → SlotsSayNothing slots → AreFinishedKeys slots f
  none_are_finished slots f nothing key position says = absurd (nothing key position says)

  -- one key gets another state, of which no slot said that it is finished
  finished_besides : (slots : Slots ℕ A) (f g : KeyStates) (key : ℕ) (x : KeyState) → ((p : ℕ) → f key ≡ Some (Some p) → ⊥) → ((k : ℕ) → g k ≡ cond (nat_eq key k) x (f k))
      → AreFinishedKeys slots f → AreFinishedKeys slots g
  finished_besides slots f g key x other e before k p says =
      let was = before k p says in
      e k ∙ other_stays (nat_eq key k) x (f k) (λ same. other p (ap f ((unsigned_Decides key k).0 same) ∙ was)) ∙ was

  -- one key gets the state that it has
  pub finished_again : (slots : Slots ℕ A) (f g : KeyStates) (key : ℕ) (s : Option ℕ) → Some s ≡ f key → ((k : ℕ) → g k ≡ cond (nat_eq key k) (Some s) (f k)) → AreFinishedKeys slots f → AreFinishedKeys slots g
  finished_again slots f g key s is e before k p says =
      e k ∙ same_again (nat_eq key k) s (f k) (λ so. is ∙ ap f ((unsigned_Decides key k).0 so)) ∙ before k p says

  -- an unknown key is started, or memory is refused
  pub finished_inserted : {S E : Type 0} (slots : Slots ℕ A) (m n : HashMap ℕ (Option ℕ) S) (key : ℕ) (r : Result (Option (Option ℕ)) E)
      → get nat_eq m key ≡ None → OnOk r (Updates nat_eq m n key (Some None)) → OnErr r (IsUnchanged m n) → AreFinishedKeys slots (get nat_eq m) → AreFinishedKeys slots (get nat_eq n)
  finished_inserted slots m n key (Ok old) none ok err before = finished_besides slots (get nat_eq m) (get nat_eq n) key (Some None) (λ p. never_unknown (get nat_eq m key) p none) ok.0 before
  finished_inserted slots m n key (Err e) none ok err before = subst (λ es. AreFinishedKeys slots (λ q. lookup (nat_eq q) es)) (sym err) before

  -- a pending key is finished
  pub finished_set : (slots : Slots ℕ A) (f g : KeyStates) (key : ℕ) (x : KeyState) → f key ≡ Some None → ((k : ℕ) → g k ≡ cond (nat_eq key k) x (f k)) → AreFinishedKeys slots f → AreFinishedKeys slots g
  finished_set slots f g key x pending = finished_besides slots f g key x (λ q. never_pending (f key) q pending)

  -- a finished key is found, and put into a slot
  pub finished_found : (old new : Slots ℕ A) (f : KeyStates) (key position : ℕ) → f key ≡ Some (Some position) → SlotsSayBesides old new key position → AreFinishedKeys old f → AreFinishedKeys new f
  finished_found old new f key position found put before k p says =
      elim (put k p says) [
        | inl said ↦ before k p said
        | inr added ↦ ap f added.0 ∙ found ∙ ap (λ n. Some (Some n)) (sym added.1)
      ]

-- a key is added to slots that say no more than others
pub besides_no_more : {V A : Type 0} (first old new : Slots V A) (added : ℕ) (now : V) → SlotsSayNoMore first old → SlotsSayBesides old new added now → SlotsSayBesides first new added now
besides_no_more first old new added now before put key value says =
    elim (put key value says) [
      | inl said ↦ inl (before key value said)
      | inr same ↦ inr same
    ]
