-- Values that are written by loops, down to the innermost and up again.
use denote.Ref.{Bor}
use Rattle.std.proofs.Common.{◌≡◌, ℕ, List, [], ◌∷◌, ◌++◌, Vec, Some, refl, sym, ap, ◌∙◌, append_assoc, append-nil}
use Rattle.archive_check.specs.Shape.{Shape, one}
use Rattle.archive_check.specs.Definitions.{Definitions}
use Rattle.archive_check.specs.Denotes.{Naming}
use Rattle.archive_check.specs.Value.{Value}
use Rattle.archive_check.specs.WriterState.{WriterState}
use Rattle.archive_check.specs.declared.format.error.Error.{Error}
use Rattle.archive_types.specs.Causes.{IsRefused}
use Rattle.archive_types.specs.Inner.{IsBoxed, IsNotBoxed}
use Rattle.archive_types.specs.Plans.{Serialized}
use Rattle.archive_types.proofs.Planning.Causes.{goes_nowhere, goes_both}
use Rattle.archive_types.proofs.Planning.Owners.{box_refused}
use Rattle.archive_types.proofs.Planning.Planned.{one_owned}
use Rattle.archive_write.specs.Written.{GoesOn}
use Rattle.archive_core.specs.recursive.Chains.{IsWrittenUpTo, in_lists}

module _ {T R K : Type 0} (D : Definitions) (X : Shape) (keys : T → List Naming) (meaning : T → Value) (flat : T → R → Value) (belongs : T → R → Type 0) (closed : K → ℕ → R) where
  -- the head of v is written, k is kept of it, and its box holds x
  pub record Opens (v : T) (k : K) (x : T) (old mid : WriterState) : Type 0 where
    pub head : IsWrittenUpTo D X (keys v) (meaning v) (λ t. flat v (closed k t)) (λ t. belongs v (closed k t)) (keys x) (meaning x) old mid
    pub goes : GoesOn old mid

  -- from v0 at w0, down through what these boxes hold, to v at w
  abbrev pub Down : T → WriterState → List (Bor T × K) → T → WriterState → Type 0
  Down v0 w0 [] v w = (v ≡ v0) × (w ≡ w0)
  Down v0 w0 (f ∷ fs) v w = (w1 : WriterState) × Opens v0 f.1 f.0.now w0 w1 × Down f.0.now w1 fs v w

  pub down_more : (fs : List (Bor T × K)) (v0 : T) (w0 : WriterState) (v : T) (w1 w2 : WriterState) (x : Bor T) (k : K) → Down v0 w0 fs v w1 → Opens v k x.now w1 w2 → Down v0 w0 (fs ++ (x, k) ∷ []) x.now w2
  down_more [] v0 w0 v w1 w2 x k d o = (w2, rw (d.0, d.1) at o, (refl, refl))
  down_more (f ∷ fs) v0 w0 v w1 w2 x k d o = (d.0, d.1, down_more fs f.0.now d.0 v w1 w2 x k d.2 o)

  -- what is above the last of them
  pub record Last (v0 : T) (w0 : WriterState) (fs : List (Bor T × K)) (x : Bor T) (k : K) (v : T) (w : WriterState) : Type 0 where
    pub above : T
    pub since : WriterState
    pub down : Down v0 w0 fs above since
    pub opens : Opens above k v since w
    pub same : v ≡ x.now

  pub down_last : (fs : List (Bor T × K)) (v0 : T) (w0 : WriterState) (x : Bor T) (k : K) (v : T) (w : WriterState) → Down v0 w0 (fs ++ (x, k) ∷ []) v w → Last v0 w0 fs x k v w
  down_last [] v0 w0 x k v w d =
      let (w1, o, ends) = d in
      record { above = v0; since = w0; down = (refl, refl); opens = rw (ends.0, ends.1) o; same = ends.0 }
  down_last (f ∷ fs) v0 w0 x k v w d =
      let (w1, o, more) = d in
      let l = down_last fs f.0.now w1 x k v w more in
      record { above = l.above; since = l.since; down = (w1, o, l.down); opens = l.opens; same = l.same }

  pub down_goes : (fs : List (Bor T × K)) (v0 : T) (w0 : WriterState) (v : T) (w : WriterState) → Down v0 w0 fs v w → GoesOn w0 w
  down_goes [] v0 w0 v w d = rw d.1 (goes_nowhere w0)
  down_goes (f ∷ fs) v0 w0 v w d = goes_both _ _ _ d.1.goes (down_goes fs f.0.now d.0 v w d.2)

  -- a value is refused where what its box holds is
  rest_refused : (v : T) (k : K) (x : T) (old mid new : WriterState) (e : Error) → Opens v k x old mid → GoesOn mid new → IsRefused D X (keys x) (meaning x) mid new e → IsRefused D X (keys v) (meaning v) old new e
  rest_refused v k x old mid new e o go r = o.head.unwritten new e go (box_refused D (one X) 0 (keys x) (meaning x) mid new e (one_owned D X (keys x) (meaning x) mid new e r))

  pub down_refused : (fs : List (Bor T × K)) (v0 : T) (w0 : WriterState) (v : T) (w : WriterState) → Down v0 w0 fs v w → (new : WriterState) (e : Error) → GoesOn w new → IsRefused D X (keys v) (meaning v) w new e
      → IsRefused D X (keys v0) (meaning v0) w0 new e
  down_refused [] v0 w0 v w d new e go r = rw (d.0, d.1) at r
  down_refused (f ∷ fs) v0 w0 v w d new e go r =
      let more = d.2 in
      rest_refused v0 f.1 f.0.now w0 d.0 new e d.1 (goes_both _ _ _ (down_goes fs f.0.now d.0 v w more) go) (down_refused fs f.0.now d.0 v w more new e go r)

  -- going up: the value at hand is written, with this resolver
  pub record Up (v0 : T) (w0 : WriterState) (fs : List (Bor T × K)) (r : R) (now : WriterState) : Type 0 where
    pub here : T
    pub since : WriterState
    pub down : Down v0 w0 fs here since
    pub goes : GoesOn since now
    pub written : Serialized D X (keys here) (meaning here) (flat here r) since now
    pub its : belongs here r

  module _ (v0 : T) (w0 : WriterState) where
    pub up_goes : (fs : List (Bor T × K)) (r : R) (now : WriterState) → Up v0 w0 fs r now → GoesOn w0 now
    up_goes fs r now u = goes_both _ _ _ (down_goes fs v0 w0 u.here u.since u.down) u.goes

    pub up_ends : (r : R) (now : WriterState) → Up v0 w0 [] r now → Serialized D X (keys v0) (meaning v0) (flat v0 r) w0 now × belongs v0 r
    up_ends r now u = (rw (u.down.0, u.down.1) at u.written, rw u.down.0 at u.its)

    module _ (fs gs : List (Bor T × K)) (x : Bor T) (k : K) (r : R) (now : WriterState) (popped : fs ≡ gs ++ (x, k) ∷ []) (u : Up v0 w0 fs r now) where
      last : Last v0 w0 gs x k u.here u.since
      last = down_last gs v0 w0 x k u.here u.since (rw popped at u.down)

      pub up_its : belongs x.now r
      up_its = rw last.same at u.its

      module _ (next : WriterState) (go : GoesOn now next) where
        pub up_more : (t : ℕ) → IsBoxed D X (keys x.now) (meaning x.now) (flat x.now r) t now next → Up v0 w0 gs (closed k t) next
        up_more t b =
            let l = last in
            let boxed_here = rw (← l.same) at b in
            let go_here = goes_both _ _ _ u.goes go in
            record {
              here = l.above;
              since = l.since;
              down = l.down;
              goes = goes_both _ _ _ l.opens.goes go_here;
              written = l.opens.head.written t next go_here (boxed_here.since u.since u.goes u.written);
              its = l.opens.head.same_value t;
            }

        pub up_refused : (e : Error) → IsNotBoxed D X (keys x.now) (meaning x.now) (flat x.now r) now next e → IsRefused D X (keys v0) (meaning v0) w0 next e
        up_refused e b =
            let l = last in
            let unboxed = rw (← l.same) at b in
            let go_here = goes_both _ _ _ u.goes go in
            down_refused gs v0 w0 l.above l.since l.down next e (goes_both _ _ _ l.opens.goes go_here) (l.opens.head.unwritten next e go_here (unboxed.since u.since u.goes u.written))

in_lists_more : {X A : Type 0} (ss : List (Vec X A)) (xs ys : List X) → in_lists ss (xs ++ ys) ≡ in_lists ss xs ++ ys
in_lists_more [] xs ys = refl
in_lists_more (s ∷ ss) xs ys = ap (λ zs. s.items ++ zs) (in_lists_more ss xs ys) ∙ sym (append_assoc s.items (in_lists ss xs) ys)

pub in_lists_full : {X A : Type 0} (ss : List (Vec X A)) (s : Vec X A) → in_lists (ss ++ s ∷ []) [] ≡ in_lists ss s.items
in_lists_full [] s = append-nil s.items
in_lists_full (t ∷ ss) s = ap (λ zs. t.items ++ zs) (in_lists_full ss s)

pub in_lists_last : {X A : Type 0} (ss : List (Vec X A)) (xs ys : List X) (y : X) → xs ≡ ys ++ y ∷ [] → in_lists ss xs ≡ in_lists ss ys ++ y ∷ []
in_lists_last ss xs ys y e = ap (in_lists ss) e ∙ in_lists_more ss ys (y ∷ [])

pub in_lists_none : {X A : Type 0} (ss : List (Vec X A)) (xs : List X) → ss ≡ [] → xs ≡ [] → in_lists ss xs ≡ []
in_lists_none ss xs no_lists none = rw (no_lists, none) refl

pub in_lists_outer : {X A : Type 0} (ss ts : List (Vec X A)) (s : Vec X A) (xs : List X) → ss ≡ ts ++ s ∷ [] → xs ≡ [] → in_lists ss xs ≡ in_lists ts s.items
in_lists_outer ss ts s xs e none = rw (e, none) (in_lists_full ts s)

pub some_same : {A : Type 0} {x y : A} → Some x ≡ Some y → x ≡ y
some_same e = cc
