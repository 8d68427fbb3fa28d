-- What is recalled of finished positions stays right where other positions are started or finished.
use Rattle.std.proofs.Common.{◌≡◌, ℕ, ℤ, pos, Bool, true, false, cond, refl, sym, ap, ◌∙◌, subst, Option, Some, None, Result, Ok, Err, OnOk, OnErr, inl, inr}
use Rattle.std.specs.Cmp.{signed_Decides}
use Rattle.std.specs.Ordering.{int_eq}
use Rattle.std.specs.Map.{lookup}
use Rattle.std.specs.HashMap.{HashMap, get, Updates, IsUnchanged}
use Rattle.archive_check.specs.declared.context.positions.SharedPosition.{SharedPosition}
use Rattle.archive_check.specs.declared.context.recalled.FinishedPosition.{FinishedPosition}
use Rattle.archive_check.specs.declared.slots.Slots.{Slots}
use Rattle.archive_check.specs.Slots.{SlotsSayBesides}
use Rattle.archive_check.specs.context.RecalledPositions.{recalled, IsHeld, AreRecalled, StaysRecalled}

other_stays : (b : Bool) (x y : Option SharedPosition) → (b ≡ true → ⊥) → cond b x y ≡ y
other_stays true x y other = absurd (other refl)
other_stays false x y other = refl

same_again : (b : Bool) (k : SharedPosition) (x : Option SharedPosition) → (b ≡ true → Some k ≡ x) → cond b (Some k) x ≡ x
same_again true k x same = same refl
same_again false k x same = refl

module _ {A : Type 0} where
  -- one position gets the value that it has
  pub recalled_again : (slots : Slots FinishedPosition A) (f g : ℤ → Option SharedPosition) (key : ℤ) (k : SharedPosition) → Some k ≡ f key → ((q : ℤ) → g q ≡ cond (int_eq key q) (Some k) (f q))
      → AreRecalled slots f → AreRecalled slots g
  recalled_again slots f g key k is e before t held says =
      e (pos t) ∙ same_again (int_eq key (pos t)) k (f (pos t)) (λ so. is ∙ ap f ((signed_Decides key (pos t)).0 so)) ∙ before t held says

  -- one position gets another value, of which no slot said anything
  recalled_besides : (slots : Slots FinishedPosition A) (f g : ℤ → Option SharedPosition) (key : ℤ) (x : Option SharedPosition)
      → ((t : ℕ) (held : FinishedPosition) → f (pos t) ≡ Some (recalled held) → key ≡ pos t → ⊥) → ((q : ℤ) → g q ≡ cond (int_eq key q) x (f q))
      → AreRecalled slots f → AreRecalled slots g
  recalled_besides slots f g key x other e before t held says =
      let was = before t held says in
      e (pos t) ∙ other_stays (int_eq key (pos t)) x (f (pos t)) (λ same. other t held was ((signed_Decides key (pos t)).0 same)) ∙ was

  recalled_where_started : (slots : Slots FinishedPosition A) (f g : ℤ → Option SharedPosition) (key : ℤ) (x : Option SharedPosition)
      → f key ≡ None → ((q : ℤ) → g q ≡ cond (int_eq key q) x (f q)) → AreRecalled slots f → AreRecalled slots g
  recalled_where_started slots f g key x none e = recalled_besides slots f g key x (λ t held was same. let w : None ≡ Some (recalled held) = sym none ∙ ap f same ∙ was in cc) e

  -- a position that wasn't met is entered, or memory is refused
  pub recalled_inserted : {S E : Type 0} (slots : Slots FinishedPosition A) (m n : HashMap ℤ SharedPosition S) (key p : ℤ) (k : SharedPosition) (r : Result (Option SharedPosition) E)
      → key ≡ p → get int_eq m p ≡ None → OnOk r (Updates int_eq m n key (Some k)) → OnErr r (IsUnchanged m n) → AreRecalled slots (get int_eq m) → AreRecalled slots (get int_eq n)
  recalled_inserted slots m n key p k (Ok old) same none ok err before = recalled_where_started slots (get int_eq m) (get int_eq n) key (Some k) (ap (get int_eq m) same ∙ none) ok.0 before
  recalled_inserted slots m n key p k (Err e) same none ok err before = subst (λ es. AreRecalled slots (λ q. lookup (int_eq q) es)) (sym err) before

  recalled_where_finished : (slots : Slots FinishedPosition A) (f g : ℤ → Option SharedPosition) (key : ℤ) (x : Option SharedPosition) (k : SharedPosition)
      → Some k ≡ f key → k.finished ≡ false → ((q : ℤ) → g q ≡ cond (int_eq key q) x (f q)) → AreRecalled slots f → AreRecalled slots g
  recalled_where_finished slots f g key x k kept pending e =
      recalled_besides slots f g key x
      (λ t held was same.
      let w : Some k ≡ Some (recalled held) = kept ∙ ap f same ∙ was in
      let one : k ≡ recalled held = cc in
      let both : false ≡ true = sym pending ∙ ap (λ (s : SharedPosition). s.finished) one in
      cc)
      e

  -- a position is finished, and recalled or left out
  pub recalled_finished : (old new : Slots FinishedPosition A) (f g : ℤ → Option SharedPosition) (key : ℤ) (k now : SharedPosition)
      → Some k ≡ f key → k.finished ≡ false → now.finished ≡ true → ((q : ℤ) → g q ≡ cond (int_eq key q) (Some now) (f q))
      → StaysRecalled old new key now
      → AreRecalled old f → AreRecalled new g
  recalled_finished old new f g key k now kept pending done e add before =
      add g (recalled_where_finished old f g key (Some now) k kept pending e before) (e key ∙ ap (λ b. cond b (Some now) (f key)) ((signed_Decides key key).1 refl)) done

  -- a finished position is put into a slot
  pub recalled_added : (old new : Slots FinishedPosition A) (t : ℕ) (key position : ℤ) (held : FinishedPosition) (now : SharedPosition)
      → SlotsSayBesides old new t held → pos t ≡ key → key ≡ position → IsHeld now held → StaysRecalled old new position now
  recalled_added old new t key position held now put here same is kept before finds done u other says =
      elim (put u other says) [
        | inl said ↦ before u other said
        | inr added ↦ ap (λ n. kept (pos n)) added.0 ∙ ap kept (here ∙ same) ∙ finds ∙ ap Some (sym (is done)) ∙ ap (λ h. Some (recalled h)) (sym added.1)
      ]
