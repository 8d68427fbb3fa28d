-- A call within a region, return by return.
use Rattle.std.proofs.Common.{◌≡◌, ℕ, ◌+◌, ℤ, pos, negsuc, Some, Result, Ok, Err, refl, sym, ap, ◌∙◌, subst, nat_abs}
use Rattle.std.specs.Result.{IsErrAnd}
use Rattle.archive_check.specs.declared.format.error.Error.{Error}
use Rattle.archive_check.specs.declared.format.error.Error.TheVariants.{ExceededMaximumSubtreeDepth, LayoutTooLarge}
use Rattle.archive_check.specs.Shape.{Pointee}
use Rattle.archive_check.specs.Definitions.{Definitions}
use Rattle.archive_check.specs.Members.RegionLayout.{HasNoLayout}
use Rattle.archive_check.specs.context.Ranges.{RangeState, subtree_answer, pushed, pop_answer, popped}
use Rattle.archive_check.specs.context.PositionStates.{Positions}
use Rattle.archive_check.specs.context.InSubtree.{IsEntered, InSubtree, InRegion, layout_refused, check_refused, push_refused, call_refused, pop_refused, entered_and_left}

-- a position that is accepted isn't below 0
accepted_at : (s : RangeState) (z : ℤ) (size align : ℕ) → Ok tt ≡ subtree_answer s z size align → z ≡ pos (nat_abs z)
accepted_at s (pos n) size align e = refl
accepted_at s (negsuc n) size align e = cc

module _ {C R E : Type 0} (state : C → RangeState) (positions : C → Positions) (Call : C → Result R E → C → Type 0) (Gives : Error → E → Type 0) (old : C) (size align : ℕ) where
  abbrev Answered : ℤ → Result R E → C → Type 0
  Answered z r new = InSubtree state positions Call Gives old z size align r new

  pub at_check : (z key : ℤ) (e : Error) (r : Result R E) (new : C) → key ≡ z
      → Err e ≡ subtree_answer (state old) key size align → IsErrAnd r (Gives e) → state new ≡ state old → positions new ≡ positions old
      → Answered z r new
  at_check z key e (Ok x) new same a given s p = absurd given
  at_check z key e (Err y) new same a given s p =
      check_refused (sym (a ∙ ap (λ k. subtree_answer (state old) k size align) same)) given (record { state_is = s; positions_are = p })

  -- the region is accepted, in a context that was left as it was
  pub record Checked (z key : ℤ) (checked : C) : Type 0 where
    pub same : key ≡ z
    pub accepted : Ok tt ≡ subtree_answer (state old) key size align
    pub state_is : state checked ≡ state old
    pub positions_are : positions checked ≡ positions old

  accepted : {z key : ℤ} {checked : C} → Checked z key checked → subtree_answer (state old) z size align ≡ Ok tt
  accepted c = sym (c.accepted ∙ ap (λ k. subtree_answer (state old) k size align) c.same)

  pub at_push : (z key : ℤ) (e : Error) (r : Result R E) (checked new : C) → Checked z key checked
      → e ≡ ExceededMaximumSubtreeDepth → (state checked).depth ≡ Some 1 → IsErrAnd r (Gives e) → state new ≡ state checked → positions new ≡ positions checked
      → Answered z r new
  at_push z key e (Ok x) checked new c deep depth given s p = absurd given
  at_push z key e (Err y) checked new c deep depth given s p =
      push_refused (accepted c) (sym (ap (λ st. st.depth) c.state_is) ∙ depth) (subst (λ x. Gives x y) deep given) (record { state_is = s ∙ c.state_is; positions_are = p ∙ c.positions_are })

  -- and is entered
  pub record Entered (z key : ℤ) (checked inner : C) : Type 0 where
    pub is_checked : Checked z key checked
    pub deep : (state checked).depth ≡ Some 1 → ⊥
    pub state_is : state inner ≡ pushed (state checked) (nat_abs key)
    pub positions_are : positions inner ≡ positions checked

  entered_at : {z key : ℤ} {checked inner : C} → Entered z key checked inner → IsEntered state positions old z size align (nat_abs key) inner
  entered_at {key = key} c = record {
    accepted = accepted c.is_checked;
    level_left = λ e. c.deep (ap (λ s. s.depth) c.is_checked.state_is ∙ e);
    begins = sym c.is_checked.same ∙ accepted_at (state old) key size align c.is_checked.accepted;
    entered = record {
      state_is = c.state_is ∙ ap (λ s. pushed s (nat_abs key)) c.is_checked.state_is;
      positions_are = c.positions_are ∙ c.is_checked.positions_are;
    };
  }

  pub at_call : (z key : ℤ) (r : Result R E) (y : E) (checked inner new : C) → Entered z key checked inner
      → IsErrAnd r (λ x. x ≡ y) → Call inner (Err y) new
      → Answered z r new
  at_call z key (Ok x) y checked inner new c given call = absurd given
  at_call z key (Err x) y checked inner new c given call =
      call_refused (entered_at c) (subst (λ x. Call inner (Err x) new) (sym given) call)

  pub at_pop : (z key : ℤ) (e : Error) (r : Result R E) (x : R) (start : ℕ) (checked inner after new : C) → Entered z key checked inner
      → Call inner (Ok x) after → start ≡ nat_abs key + size → Err e ≡ pop_answer (state after) start → IsErrAnd r (Gives e) → state new ≡ state after → positions new ≡ positions after
      → Answered z r new
  at_pop z key e (Ok y) x start checked inner after new c call from a given s p = absurd given
  at_pop z key e (Err y) x start checked inner after new c call from a given s p =
      pop_refused (entered_at c) call (sym (a ∙ ap (pop_answer (state after)) from)) given (record { state_is = s; positions_are = p })

  pub at_end : (z key : ℤ) (x : R) (start end : ℕ) (checked inner after new : C) → Entered z key checked inner
      → Call inner (Ok x) after → start ≡ nat_abs key + size → end ≡ (state checked).end → Ok tt ≡ pop_answer (state after) start
      → state new ≡ popped (state after) start end → positions new ≡ positions after
      → Answered z (Ok x) new
  at_end z key x start end checked inner after new c call from upto a s p =
      entered_and_left (entered_at c) call (sym (a ∙ ap (pop_answer (state after)) from)) (record {
        state_is = s ∙ (λ i. popped (state after) (from i) (upto i)) ∙ ap (λ st. popped (state after) (nat_abs key + size) st.end) c.is_checked.state_is;
        positions_are = p;
      })

-- the region's layout is made first
module _ {C R E : Type 0} (state : C → RangeState) (positions : C → Positions) (Call : C → Result R E → C → Type 0) (Gives : Error → E → Type 0) (D : Definitions) (P : Pointee) (length : ℕ) (old : C) (z : ℤ) where
  pub at_layout : (e : Error) (r : Result R E) → (e ≡ LayoutTooLarge) × HasNoLayout D P length → IsErrAnd r (Gives e) → InRegion state positions Call Gives D P length old z r old
  at_layout e (Ok x) h given = absurd given
  at_layout e (Err y) h given = layout_refused h.1 (subst (λ x. Gives x y) h.0 given)
