-- A call within a region: the check of the region, its push, the call and the pop, up to the first of them that is refused.
use denote.Triple.Both.{Both}
use Rattle.std.specs.Prelude.{◌≡◌, ℕ, ◌+◌, ℤ, pos, Some, Result, Ok, Err}
use Rattle.std.specs.Borrow.{MutBor}
use Rattle.archive_check.specs.declared.context.Context as Context
use Rattle.archive_check.specs.declared.format.error.Error.{Error}
use Rattle.archive_check.specs.declared.format.error.Error.TheVariants.{ExceededMaximumSubtreeDepth, LayoutTooLarge}
use Rattle.archive_check.specs.declared.format.layout.Layout.{Layout}
use Rattle.archive_check.specs.declared.format.traits.ArchivePointee as ArchivePointee
use Rattle.archive_check.specs.Shape.{Pointee}
use Rattle.archive_check.specs.Definitions.{Definitions}
use Rattle.archive_check.specs.Members.RegionLayout.{IsRegionLayout, HasNoLayout}
use Rattle.archive_check.specs.context.Ranges.{RangeState, subtree_answer, pushed, pop_answer, popped}
use Rattle.archive_check.specs.context.PositionStates.{Positions}

module _ {C : Type 0} (state : C → RangeState) (positions : C → Positions) where
  -- The context at the left is in the state s, and met what the one at the right did.
  pub record IsInState (c : C) (s : RangeState) (d : C) : Type 0 where
    pub state_is : state c ≡ s
    pub positions_are : positions c ≡ positions d

  -- The call may be made in each context that an accepted region's push leaves.
  abbrev pub IsCallable : (MutBor C → Type 0) → C → ℤ → ℕ → ℕ → Type 0
  IsCallable May old position size align =
      (inner : MutBor C) (root : ℕ) → subtree_answer (state old) position size align ≡ Ok tt → position ≡ pos root → IsInState inner.now (pushed (state old) root) old → May inner

  -- The same, whatever layout a pointer to P with this length has.
  abbrev pub IsCallableIn : (MutBor C → Type 0) → Definitions → Pointee → ℕ → C → ℤ → Type 0
  IsCallableIn May D P length old position = (layout : Layout) → IsRegionLayout D P length layout → IsCallable May old position layout.size layout.align

  -- The region at root is accepted and entered, with a level left: what context that leaves.
  pub record IsEntered (old : C) (position : ℤ) (size align root : ℕ) (inner : C) : Type 0 where
    pub accepted : subtree_answer (state old) position size align ≡ Ok tt
    pub level_left : (state old).depth ≡ Some 1 → ⊥
    pub begins : position ≡ pos root
    pub entered : IsInState inner (pushed (state old) root) old

  -- `InSubtree Call Gives old position size align result new`: what is returned and left where the call returns and leaves as `Call` says, and
  -- a refusal of the context gives one of the call's as `Gives` says. With one level left nothing is called.
  pub data InSubtree {R E : Type 0} (Call : C → Result R E → C → Type 0) (Gives : Error → E → Type 0) (old : C) (position : ℤ) (size align : ℕ) : Result R E → C → Type 0 where
    check_refused : {new : C} {e : Error} {given : E}
        → subtree_answer (state old) position size align ≡ Err e
        → Gives e given
        → IsInState new (state old) old
        → InSubtree Call Gives old position size align (Err given) new
    push_refused : {new : C} {given : E}
        → subtree_answer (state old) position size align ≡ Ok tt
        → (state old).depth ≡ Some 1
        → Gives ExceededMaximumSubtreeDepth given
        → IsInState new (state old) old
        → InSubtree Call Gives old position size align (Err given) new
    call_refused : {inner new : C} {root : ℕ} {given : E}
        → IsEntered old position size align root inner
        → Call inner (Err given) new
        → InSubtree Call Gives old position size align (Err given) new
    pop_refused : {inner after new : C} {root : ℕ} {r : R} {e : Error} {given : E}
        → IsEntered old position size align root inner
        → Call inner (Ok r) after
        → pop_answer (state after) (root + size) ≡ Err e
        → Gives e given
        → IsInState new (state after) after
        → InSubtree Call Gives old position size align (Err given) new
    entered_and_left : {inner after new : C} {root : ℕ} {r : R}
        → IsEntered old position size align root inner
        → Call inner (Ok r) after
        → pop_answer (state after) (root + size) ≡ Ok tt
        → IsInState new (popped (state after) (root + size) (state old).end) after
        → InSubtree Call Gives old position size align (Ok r) new

  -- `InRegion Call Gives D P length old position result new`: the same of the region of a pointer to P with this length, whose layout is made first.
  pub data InRegion {R E : Type 0} (Call : C → Result R E → C → Type 0) (Gives : Error → E → Type 0) (D : Definitions) (P : Pointee) (length : ℕ) (old : C) (position : ℤ) : Result R E → C → Type 0 where
    layout_refused : {given : E}
        → HasNoLayout D P length
        → Gives LayoutTooLarge given
        → InRegion Call Gives D P length old position (Err given) old
    laid_out : {new : C} {result : Result R E} {layout : Layout}
        → IsRegionLayout D P length layout
        → InSubtree Call Gives old position layout.size layout.align result new
        → InRegion Call Gives D P length old position result new

-- The same in the words of a context, of the region of a layout. `Both` is a parameter as a clause names it: what it was as the call began, and what it is
-- at the return.
module _ {C : Type 0} (k : Context.Ghosts C) where
  abbrev pub MayCall : (MutBor C → Type 0) → MutBor C → ℤ → Layout → Type 0
  MayCall May c position layout = IsCallable k.state k.positions May c.now position layout.size layout.align

  abbrev pub CalledIn : {R E : Type 0} → (C → Result R E → C → Type 0) → (Error → E → Type 0) → Both (MutBor C) (MutBor C) → ℤ → Layout → Result R E → Type 0
  CalledIn Call Gives c position layout result = InSubtree k.state k.positions Call Gives c.entry.now position layout.size layout.align result c.exit.now

  -- And of a pointer to such a pointee, with this length.
  abbrev pub MayCallAt : {T M : Type 0} → (MutBor C → Type 0) → ArchivePointee.Ghosts T M → MutBor C → ℤ → ℕ → Type 0
  MayCallAt May p c position length = IsCallableIn k.state k.positions May p.definitions p.pointee length c.now position

  abbrev pub CalledAt : {T M R E : Type 0} → (C → Result R E → C → Type 0) → (Error → E → Type 0) → ArchivePointee.Ghosts T M → Both (MutBor C) (MutBor C) → ℤ → ℕ → Result R E → Type 0
  CalledAt Call Gives p c position length result = InRegion k.state k.positions Call Gives p.definitions p.pointee length c.entry.now position result c.exit.now
