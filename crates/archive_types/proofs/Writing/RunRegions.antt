-- The region of elements, one after another: how they are resolved there, and why it is refused.
use Rattle.std.proofs.Common.{◌≡◌, inl, inr, ℕ, suc, ◌+◌, ◌*◌, ◌<◌, ◌≤◌, ◌^◌, List, [], ◌∷◌, ◌++◌, length, take, drop, refl, sym, ap, subst, ◌∙◌, append_assoc, length-append, arith, Bool, true, false, min, Contains, Result, Ok, Err, IfOk, OnOk}
use Rattle.std.proofs.lemmas.List.{append-nil, length-take, length-drop, take_at}
use Rattle.std.proofs.lemmas.Bool.{cases_lt}
use Rattle.std.proofs.Math.Nat.{suc-mul, mul-le-mul_left}
use Rattle.std.proofs.lemmas.List.Elements.{Contains-append_left, Contains-append_right}
use Rattle.archive_check.specs.Shape.{Shape, run}
use Rattle.archive_check.specs.Layout.{Layout, up, size_of, align_of}
use Rattle.archive_check.specs.Definitions.{Definitions, Knows, HasLayout, IsAlign}
use Rattle.archive_check.specs.Value.{Value, list, Values, no_value, value}
use Rattle.archive_check.specs.Reads.{SchemaTable, bytes_at, ReadsRun, reads_none, reads_element}
use Rattle.archive_check.specs.Tour.{region_at, contents_run}
use Rattle.archive_check.specs.Denotes.{Naming, fills_list}
use Rattle.archive_check.specs.Reached.{names_list}
use Rattle.archive_check.specs.CleanRegions.{Occurs, CleanRun, clean_none, clean_element, clean_run}
use Rattle.archive_check.specs.WriterState.{WriterState, KeyStates, KeepsKeys, Pads}
use Rattle.archive_check.specs.declared.format.error.Error.{Error}
use Rattle.archive_check.specs.declared.format.error.Error.TheVariants.{LengthTooLarge, LayoutTooLarge}
use Rattle.archive_check.proofs.Elements.{contains_first}
use Rattle.archive_check.proofs.Tours.PartsInside.{up_le}
use Rattle.archive_check.proofs.Names.PositiveAlignments.{align_pos}
use Rattle.archive_check.proofs.Tours.StandingBytes.{stands_front, stands_back}
use Rattle.archive_write.specs.Written.{GoesOn, padding, ExplainsRefusal}
use Rattle.archive_write.proofs.Padding.{padded}
use Rattle.archive_types.specs.Words.PlacedParts.{ChangesOnly}
use Rattle.archive_types.specs.Writing.{NameMap, AreNamed, AreFinished, AllFinished, Writes, WritesAll, Resolves, Puts, LaysOut}
use Rattle.archive_types.specs.Plans.{Cursor, cursor, AreBelow, StandsAt, Step, lays, SerializedRegion, serialized_region, RegionPlan}
use Rattle.archive_types.specs.Causes.{Explains, own_cause, of_layout, of_length, PartOfRun, in_first_element, in_later_element, part_of_run, HindersPartAt, anywhere, part_hinders, length_hinders, end_hinders, HindersAt, HindersRegion, RegionReaches, IsRegionRefused}
use Rattle.archive_types.specs.Runs.{each_flat, EachBelongs, RunPlan, HasRunPlan, SerializedRun, serialized_run, IsRunRefused, PutsRun, HindersEachAt, HindersRunAt}
use Rattle.archive_types.specs.Members.PlannedOwners.{run_plan}
use Rattle.archive_types.proofs.Writing.Appending.{size_is, align_is}
use Rattle.archive_types.proofs.Planning.Causes.{explains_write, explains_sooner, explains_later, goes_nowhere, goes_both}

-- what elements are resolved to

pub puts_none : (D : Definitions) (told : WriterState) (X : Shape) (L : Layout) → HasLayout D X L → PutsRun D told told X L 0 no_value
puts_none D told X L layout = record { layout = layout; added = []; grown = sym (append-nil told.bytes); sized = omega arith; reads = λ s bytes k stands. reads_none; clean = λ s bytes k stands. clean_none; states = refl }

-- no value, whatever is kept
pub puts_nothing : {A R : Type 0} (D : Definitions) (told : WriterState) (X : Shape) (L : Layout) (f : A → R → Value) (xs : List A) (rs : List R) → HasLayout D X L → length xs ≡ 0
    → PutsRun D told told X L (length xs) (each_flat f xs rs)
puts_nothing D told X L f [] rs layout none = puts_none D told X L layout
puts_nothing D told X L f (x ∷ xs) rs layout none = absurd (omega (arith, none))

-- one in front of others
pub puts_element : (D : Definitions) (old mid new : WriterState) (X : Shape) (L : Layout) (n : ℕ) (v : Value) (vs : Values)
    → Puts D old mid X L v → PutsRun D mid new X L n vs → PutsRun D old new X L (suc n) (value v vs)
puts_element D old mid new X L n v vs h i =
    let at : length mid.bytes ≡ length old.bytes + length h.added = ap length h.grown ∙ length-append old.bytes h.added in
    let here : (s : SchemaTable) → Knows s D → length mid.bytes ≡ length old.bytes + size_of s.layouts X
    = λ s k. at ∙ ap (λ z. length old.bytes + z) (h.sized ∙ sym (size_is h.layout s k)) in
    record {
      layout = h.layout;
      added = h.added ++ i.added;
      grown = i.grown ∙ ap (λ z. z ++ i.added) h.grown ∙ append_assoc old.bytes h.added i.added;
      sized = omega (arith, length-append h.added i.added, h.sized, i.sized, suc-mul n L.size);
      reads = λ s bytes k stands. reads_element (h.resolved.reads s bytes k (stands_front bytes (length old.bytes) h.added i.added stands))
          (rw (← here s k) (i.reads s bytes k (stands_back bytes (length old.bytes) (length mid.bytes) h.added i.added at stands)));
      clean = λ s bytes k stands. clean_element (h.resolved.clean s bytes k (stands_front bytes (length old.bytes) h.added i.added stands))
          (rw (← here s k) (i.clean s bytes k (stands_back bytes (length old.bytes) (length mid.bytes) h.added i.added at stands)));
      states = i.states ∙ h.states;
    }

-- what hinders one of them
module _ (D : Definitions) (X : Shape) (n : ℕ) (v : Value) (vs : Values) (p : ℕ) (e : Error) where
  pub first_hindered_at : HindersAt D X v p e → HindersEachAt D X (suc n) (value v vs) p e
  first_hindered_at h = record { named = h.named; cause = λ s k. (let z = h.cause s k in (z.0, z.1, z.2, in_first_element z.3, z.4)) }

  pub later_hindered_at : (L : Layout) → HasLayout D X L → HindersEachAt D X n vs (p + L.size) e → HindersEachAt D X (suc n) (value v vs) p e
  later_hindered_at L layout h = record {
    named = h.named;
    cause = λ s k. (
        let z = h.cause s k in
        let size : size_of s.layouts X ≡ L.size = size_is layout s k in
        let there : (p + L.size) + z.0 ≡ p + (size_of s.layouts X + z.0) = omega (arith, size) in
        (size_of s.layouts X + z.0, z.1, z.2, in_later_element z.3, subst (λ q. HindersPartAt z.1 q z.2 e) there z.4));
  }

-- why n elements weren't resolved into the next region
abbrev pub AreUnresolved : Definitions → Shape → Layout → ℕ → Values → WriterState → WriterState → Error → Type 0
AreUnresolved D X L n flats old new = Explains (HindersRunAt D X L n flats (length old.bytes)) (λ m. m ≤ length old.bytes + n * L.size) old new

-- so many of this size don't fit where it is so, at most, that they are said not to
pub ends_above : (p q n m size : ℕ) (fits : Bool) → (p + n * m < 2 ^ 64 → fits ≡ true) → fits ≡ false → m ≡ min size 18446744073709551615 → p ≡ q → 2 ^ 64 ≤ q + n * size
ends_above p q n m size fits h not_so least here = elim (cases_lt (p + n * m) (2 ^ 64)) [
  | inl less ↦ (let yes = h less in cc)
  | inr more ↦ (let le : n * m ≤ n * size = mul-le-mul_left n (omega (arith, least)) in omega (arith, le, here))
]

-- the last one would end above `usize::MAX`
pub run_too_large : (D : Definitions) (X : Shape) (L : Layout) (n : ℕ) (flats : Values) (old new : WriterState) → 2 ^ 64 ≤ length old.bytes + n * L.size → AreUnresolved D X L n flats old new LayoutTooLarge
run_too_large D X L n flats old new h = own_cause (inl (refl, h))

-- Elements that are resolved over a block of bytes, which is written where it is full or no element is left.

-- A writer's state, with these bytes as if they were written.
abbrev pub ahead : WriterState → List ℕ → WriterState
ahead w bs = record w { bytes = w.bytes ++ bs }

-- elements that were put behind the same bytes
puts_behind : (D : Definitions) (X : Shape) (L : Layout) (n : ℕ) (vs : Values) (old other new : WriterState) → other.bytes ≡ old.bytes → other.states ≡ old.states
    → PutsRun D other new X L n vs → PutsRun D old new X L n vs
puts_behind D X L n vs old other new e keys h = record {
  layout = h.layout;
  added = h.added;
  grown = h.grown ∙ ap (λ z. z ++ h.added) e;
  sized = h.sized;
  reads = λ s bytes k stands. subst (λ p. ReadsRun s bytes p n X vs) (ap length e) (h.reads s bytes k (subst (λ p. Occurs bytes p h.added) (sym (ap length e)) stands));
  clean = λ s bytes k stands. subst (λ p. CleanRun s bytes p n X) (ap length e) (h.clean s bytes k (subst (λ p. Occurs bytes p h.added) (sym (ap length e)) stands));
  states = h.states ∙ keys;
}

-- A loop that resolves each: `bs` are the bytes of those that are resolved and not yet written. Whatever puts those that are left behind these has put
-- all, and what hinders one of those hinders all.
pub record Fills {A R : Type 0} (D : Definitions) (X : Shape) (L : Layout) (f : A → R → Value) (b : A → R → Type 0) (first now : WriterState) (bs : List ℕ) (n : ℕ) (all : Values)
    (rest : List A) (left : List R) : Type 0 where
  pub goes : GoesOn first now
  pub states : KeepsKeys first.states now.states
  pub ends : length now.bytes + length bs + length rest * L.size ≡ length first.bytes + n * L.size
  pub done : (new : WriterState) → PutsRun D (ahead now bs) new X L (length rest) (each_flat f rest left) → PutsRun D first new X L n all
  pub hindered : (e : Error) → HindersEachAt D X (length rest) (each_flat f rest left) (length now.bytes + length bs) e → HindersEachAt D X n all (length first.bytes) e
  pub belongs : EachBelongs b rest left

module _ {A R : Type 0} (D : Definitions) (X : Shape) (L : Layout) (f : A → R → Value) (b : A → R → Type 0) where
  pub fills_start : (first : WriterState) (all : List A) (rs : List R) → EachBelongs b all rs → Fills D X L f b first first [] (length all) (each_flat f all rs) all rs
  fills_start first all rs same = record {
    goes = goes_nowhere first;
    states = λ k. refl;
    ends = omega arith;
    done = λ new h. puts_behind D X L (length all) (each_flat f all rs) first (ahead first []) new (append-nil first.bytes) refl h;
    hindered = λ e h. subst (λ p. HindersEachAt D X (length all) (each_flat f all rs) p e) (omega arith) h;
    belongs = same;
  }

  module _ (first now : WriterState) (bs : List ℕ) (n : ℕ) (all : Values) where
    -- there is a value for each resolver
    pub fills_more : (rest : List A) (left later : List R) (r : R) → left ≡ r ∷ later → length rest ≡ 0 → Fills D X L f b first now bs n all rest left → ⊥
    fills_more rest left later r e d h = none_left rest (rw e at h.belongs) d
      where
        none_left : (xs : List A) → EachBelongs b xs (r ∷ later) → length xs ≡ 0 → ⊥
        none_left [] same none = same
        none_left (y ∷ ys) same none = absurd (omega (arith, none))

    pub place_here : (rest others : List A) (left : List R) (x : A) → rest ≡ x ∷ others → Fills D X L f b first now bs n all rest left → length first.bytes + n * L.size < 2 ^ 64
        → length now.bytes + length bs + L.size < 2 ^ 64
    place_here rest others left x e h fits =
        let c : Fills D X L f b first now bs n all (x ∷ others) left = rw e at h in
        let many : suc (length others) * L.size ≡ length others * L.size + L.size = suc-mul (length others) L.size in
        omega (arith, c.ends, many, fits)

    module _ (rest others : List A) (left later : List R) (x : A) (r : R) (e : rest ≡ x ∷ others) (h : Fills D X L f b first now bs n all rest left) where
      module _ (d : left ≡ r ∷ later) where
        c : Fills D X L f b first now bs n all (x ∷ others) (r ∷ later)
        c = rw (e, d) at h

        pub belongs_here : b x r
        belongs_here = c.belongs.0

        -- one more is resolved
        pub fills_step : (a : List ℕ) → HasLayout D X L → Resolves D (length now.bytes + length bs) a X (f x r) → length a ≡ L.size → Fills D X L f b first now (bs ++ a) n all others later
        fills_step a layout resolved sized =
            let many : suc (length others) * L.size ≡ length others * L.size + L.size = suc-mul (length others) L.size in
            record {
              goes = c.goes;
              states = c.states;
              ends = omega (arith, c.ends, length-append bs a, sized, many);
              done = λ new q. c.done new (puts_element D (ahead now bs) (ahead now (bs ++ a)) new X L (length others) (f x r) (each_flat f others later) (record {
                layout = layout;
                added = a;
                grown = sym (append_assoc now.bytes bs a);
                sized = sized;
                resolved = subst (λ p. Resolves D p a X (f x r)) (sym (length-append now.bytes bs)) resolved;
                states = refl;
              }) q);
              hindered = λ w q. c.hindered w (later_hindered_at D X (length others) (f x r) (each_flat f others later) (length now.bytes + length bs) w L layout
                  (subst (λ p. HindersEachAt D X (length others) (each_flat f others later) p w) (omega (arith, length-append bs a, sized)) q));
              belongs = c.belongs.1;
            }

        -- or can't be
        pub fills_broken : (w : Error) → HindersAt D X (f x r) (length now.bytes + length bs) w → AreUnresolved D X L n all first now w
        fills_broken w q = own_cause (inr (c.hindered w (first_hindered_at D X (length others) (f x r) (each_flat f others later) (length now.bytes + length bs) w q)))

    module _ (rest : List A) (left : List R) (h : Fills D X L f b first now bs n all rest left) where
      -- the block is written
      pub fills_written : (next : WriterState) → next.bytes ≡ now.bytes ++ bs → KeepsKeys now.states next.states → GoesOn now next → Fills D X L f b first next [] n all rest left
      fills_written next grown keys g =
          let there : length next.bytes ≡ length now.bytes + length bs = ap length grown ∙ length-append now.bytes bs in
          record {
            goes = goes_both first now next h.goes g;
            states = λ k. keys k ∙ h.states k;
            ends = omega (arith, h.ends, there);
            done = λ new q. h.done new (puts_behind D X L (length rest) (each_flat f rest left) (ahead now bs) (ahead next []) new (append-nil next.bytes ∙ grown) (λ i k. keys k i) q);
            hindered = λ e q. h.hindered e (subst (λ p. HindersEachAt D X (length rest) (each_flat f rest left) p e) (omega (arith, there)) q);
            belongs = h.belongs;
          }

      -- or can't be
      pub fills_refused : (new : WriterState) (m position : ℕ) (e : Error) → position ≡ length now.bytes → m ≡ length bs → GoesOn now new
          → ExplainsRefusal m position (length new.bytes) now.room now.failures new.failures e → AreUnresolved D X L n all first new e
      fills_refused new m position e here count g refusal =
          let own : Error → Type 0 = HindersRunAt D X L n all (length first.bytes) in
          let reaches : ℕ → Type 0 = λ k. k ≤ length first.bytes + n * L.size in
          explains_later own own reaches reaches first now new e h.goes g (λ x. x) (λ k x. x) (explains_write own reaches m position now new e here (omega (arith, h.ends, here, count)) g refusal)

  -- no value is left, and nothing waits
  ended : (first now : WriterState) (bs : List ℕ) (n : ℕ) (all : Values) (left : List R) → HasLayout D X L → length bs ≡ 0 → Fills D X L f b first now bs n all [] left → PutsRun D first now X L n all
  ended first now [] n all left layout e h = h.done now (puts_behind D X L 0 no_value (ahead now []) now now (sym (append-nil now.bytes)) refl (puts_none D now X L layout))
  ended first now (x ∷ bs) n all left layout e h = absurd (omega (arith, e))

  -- no resolver is left, and so no value
  pub fills_end : (first now : WriterState) (o : ℕ) (block : List ℕ) (n : ℕ) (all : Values) (rest : List A) (left : List R) → HasLayout D X L → length left ≡ 0 → (length rest ≡ 0 → o ≡ 0)
      → Fills D X L f b first now (take o block) n all rest left → PutsRun D first now X L n all
  fills_end first now o block n all [] left layout e d h = ended first now (take o block) n all left layout (ap (λ k. length (take k block)) (d refl)) h
  fills_end first now o block n all (x ∷ xs) [] layout e d h = absurd h.belongs
  fills_end first now o block n all (x ∷ xs) (r ∷ rs) layout e d h = absurd (omega (arith, e))

-- A part of the block is written over: as many bytes stay, and those up to its end are those before it and its own.
module _ (o n : ℕ) (old new : List ℕ) (inside : o + n ≤ length old) (only : ChangesOnly o n old new) where
  pub same_length : length new ≡ length old
  unfolding bytes_at
  same_length =
      let part : List ℕ = take n (drop o new) in
      omega (
        arith,
        inside,
        ap length only,
        length-append (take o old) (part ++ drop (o + length part) old),
        length-append part (drop (o + length part) old),
        length-take o old,
        length-take n (drop o new),
        length-drop o new,
        length-drop (o + length part) old,
      )

  pub part_sized : length (bytes_at new o n) ≡ n
  unfolding bytes_at
  part_sized = omega (arith, inside, same_length, length-take n (drop o new), length-drop o new)

  pub front_and_part : take (o + n) new ≡ take o old ++ bytes_at new o n
  front_and_part =
      let part : List ℕ = bytes_at new o n in
      let sized : length (take o old ++ part) ≡ o + n = omega (arith, inside, length-append (take o old) part, length-take o old, part_sized) in
      ap (take (o + n)) (only ∙ sym (append_assoc (take o old) part _)) ∙ take_at (take o old ++ part) _ (o + n) sized

-- So one more is resolved over a block of which the first o bytes wait.
pub fills_next : {A R : Type 0} (D : Definitions) (X : Shape) (L : Layout) (f : A → R → Value) (b : A → R → Type 0) (first now : WriterState) (n : ℕ) (all : Values)
    (rest others : List A) (left later : List R) (x : A) (r : R) → rest ≡ x ∷ others → left ≡ r ∷ later → HasLayout D X L
    → (o p m : ℕ) (old new : List ℕ) → o + L.size ≤ length old → ChangesOnly o L.size old new → p ≡ length now.bytes → m ≡ o + L.size
    → Fills D X L f b first now (take o old) n all rest left → Resolves D (p + o) (bytes_at new o L.size) X (f x r) → Fills D X L f b first now (take m new) n all others later
fills_next D X L f b first now n all rest others left later x r e d layout o p m old new inside only here end h resolved =
    let there : p + o ≡ length now.bytes + length (take o old) = omega (arith, here, inside, length-take o old) in
    let whole : take o old ++ bytes_at new o L.size ≡ take m new = sym (ap (λ k. take k new) end ∙ front_and_part o L.size old new inside only) in
    subst (λ bs. Fills D X L f b first now bs n all others later) whole
    (fills_step D X L f b first now (take o old) n all rest others left later x r e h d (bytes_at new o L.size) layout
    (subst (λ q. Resolves D q (bytes_at new o L.size) X (f x r)) there resolved) (part_sized o L.size old new inside only))

-- the region of all

finished_list : (s : KeyStates) (vs : Values) → AllFinished s vs → AreFinished s (list vs)
finished_list s vs h k (names_list n) = h k n

pub writes_list : (D : Definitions) (old new : WriterState) (ks : List Naming) (vs xs : Values) → WritesAll D old new ks vs xs → Writes D old new ks (list vs) (list xs)
writes_list D old new ks vs xs h = record { added = h.added; grown = h.grown; states = h.states; finished = finished_list new.states xs h.finished; appends = h.appends; fills = λ w n. fills_list (h.fills w n) }

lays_run : (D : Definitions) (old mid low new : WriterState) (ks : List Naming) (ws vs : Values) (X : Shape) (L : Layout) (n t : ℕ)
    → WritesAll D old mid ks ws vs → Pads L.align mid low → PutsRun D low new X L n ws → t ≡ length low.bytes
    → LaysOut D old new ks t (run X) n (list vs)
lays_run D old mid low new ks ws vs X L n t h pads puts here = record {
  mid = mid;
  flat = list ws;
  owned = writes_list D old mid ks ws vs h;
  zeros = pads.zeros;
  region = puts.added;
  grown = puts.grown ∙ ap (λ z. z ++ puts.added) pads.grown ∙ append_assoc mid.bytes pads.zeros puts.added;
  zeroed = pads.zeroed;
  at = here ∙ ap length pads.grown ∙ length-append mid.bytes pads.zeros;
  aligned = λ s k. here ∙ pads.aligned ∙ ap (up (length mid.bytes)) (sym (align_is puts.layout s k));
  sized = λ s k. puts.sized ∙ ap (λ z. n * z) (sym (size_is puts.layout s k));
  contents = λ s bytes k stands. contents_run (rw here (puts.reads s bytes k (rw (← here) stands)));
  clean = λ s bytes k stands. clean_run (rw here (puts.clean s bytes k (rw (← here) stands)));
  states = puts.states ∙ pads.states;
}

pub in_last : (C : List Step) (x : Step) → Contains (C ++ x ∷ []) x
in_last C x = Contains-append_right C (x ∷ []) x (contains_first [] x)

module _ (D : Definitions) (X : Shape) (n : ℕ) (ks : List Naming) (vs : Values) where
  pub serialized_elements : (ws : Values) (L : Layout) (t : ℕ) (old mid low new : WriterState) → SerializedRun D X n ks vs ws old mid → Pads L.align mid low → PutsRun D low new X L n ws
      → t ≡ length low.bytes → SerializedRegion D (run X) n ks (list vs) t old new
  serialized_elements ws L t old mid low new (serialized_run writes planned) pads puts here = serialized_region (lays_run D old mid low new ks ws vs X L n t writes pads puts here)
      (λ below s names k m. (
      let q = planned below s names k m in
      run_plan D X n ks vs s names (cursor old) _ _ q t (here ∙ pads.aligned ∙ ap (λ p. up p L.align) q.such.1.position ∙ ap (up q.stop.position) (sym (align_is puts.layout s k))) (
        refl,
        record {
          position = ap length puts.grown ∙ length-append low.bytes puts.added ∙ (λ i. sym here i + (puts.sized ∙ ap (λ z. n * z) (sym (size_is puts.layout s k))) i);
          keys = λ key. ap (λ f. f key) (puts.states ∙ pads.states) ∙ q.such.1.keys key;
        },
      )))

  pub serialized_elements_if : (r : Result ℕ Error) (ws : Values) (L : Layout) (position : ℕ) (old mid low new : WriterState) → SerializedRun D X n ks vs ws old mid → Pads L.align mid low → OnOk r (PutsRun D low new X L n ws)
      → position ≡ length low.bytes → IfOk r (λ t. t ≡ position) → IfOk r (λ t. SerializedRegion D (run X) n ks (list vs) t old new)
  serialized_elements_if (Ok t) ws L position old mid low new h pads puts here at = serialized_elements ws L t old mid low new h pads puts (at ∙ here)
  serialized_elements_if (Err e) ws L position old mid low new h pads puts here at = tt

  -- there are more than a pointer can say
  pub long_run_refused : (old new : WriterState) → HasRunPlan D X n ks vs → 4294967295 < n → IsRegionRefused D (run X) n ks (list vs) old new LengthTooLarge
  long_run_refused old new plans long = own_cause (record {
    named = of_length;
    cause = λ below s names k m. (
        let q = plans (cursor old) s names k m in
        run_plan D X n ks vs s names (cursor old) _ _ q _ refl (_, in_last q.steps _, length_hinders {r = region_at s (up q.stop.position (align_of s.layouts X)) (run X) n false} long));
  })

  -- what they own isn't written
  pub run_owned : (old new : WriterState) (e : Error) → IsRunRefused D X n ks vs old new e → IsRegionRefused D (run X) n ks (list vs) old new e
  run_owned old new e h = explains_sooner _ _ _ _ old new e
      (λ x. record {
        named = x.named;
        cause = λ below s names k m. (
            let q = x.cause below s names k m in
            let t : ℕ = up q.stop.position (align_of s.layouts X) in
            let last : Step = lays (region_at s t (run X) n false) (list q.flats) in
            run_plan D X n ks vs s names (cursor old) _ _ q t refl (elim q.such [
              | inl y ↦ (y.0, Contains-append_left q.steps (last ∷ []) y.0 y.1, y.2)
              | inr y ↦ (last, in_last q.steps last, part_hinders (part_of_run y.3) (anywhere y.4))
            ]));
      })
      (λ p x below s names k m. (
      let q = x below s names k m in
      let more : q.stop.position ≤ up q.stop.position (align_of s.layouts X) = up_le q.stop.position (align_of s.layouts X) (align_pos s.layouts k.laid_out.aligned X) in
      run_plan D X n ks vs s names (cursor old) _ _ q (up q.stop.position (align_of s.layouts X)) refl (omega (arith, q.such, more)))) h

  -- nor the zeros behind that
  pub run_padded : (ws : Values) (L : Layout) (position : ℕ) (old mid new : WriterState) (e : Error) → IsAlign L.align → HasLayout D X L → SerializedRun D X n ks vs ws old mid → GoesOn old mid → position ≡ length mid.bytes
      → GoesOn mid new → ExplainsRefusal (padding L.align position) position (length new.bytes) mid.room mid.failures new.failures e → IsRegionRefused D (run X) n ks (list vs) old new e
  run_padded ws L position old mid new e is layout (serialized_run writes planned) g here k refused =
      explains_later (HindersRegion D (run X) n ks (list vs) (cursor old)) _ (RegionReaches D (run X) n ks (list vs) (cursor old)) _ old mid new e g k (λ x. x) (λ m x. x) (explains_write _ _ (padding L.align position) position mid new e here (λ below s names l m. (
      let q = planned below s names l m in
      let t : ℕ = up q.stop.position (align_of s.layouts X) in
      let there : up position L.align ≡ t = ap (λ p. up p L.align) (here ∙ q.such.1.position) ∙ ap (up q.stop.position) (sym (align_is layout s l)) in
      run_plan D X n ks vs s names (cursor old) _ _ q t refl (omega (arith, padded position L.align is, there)))) k refused)

  -- nor the elements
  pub run_hindered : (ws : Values) (L : Layout) (old mid low new : WriterState) (e : Error) → HasLayout D X L → SerializedRun D X n ks vs ws old mid → Pads L.align mid low
      → GoesOn old low → GoesOn low new → AreUnresolved D X L n ws low new e → IsRegionRefused D (run X) n ks (list vs) old new e
  run_hindered ws L old mid low new e layout (serialized_run writes planned) pads g k refused =
      explains_later _ _ _ _ old low new e g k
      (λ x. elim x [
        | inl y ↦ record {
          named = rw (y.0) of_layout;
          cause = λ below s names l m. plan below s names l m _ (λ q t here is. (
              let size : n * size_of s.layouts X ≡ n * L.size = ap (λ z. n * z) (size_is layout s l) in
              let ends : 2 ^ 64 ≤ t + n * size_of s.layouts X = omega (arith, here, y.1, size) in (_, in_last q.steps _, rw (y.0) (end_hinders {r = region_at s t (run X) n false} ends))));
        }
        | inr y ↦ record {
          named = y.named;
          cause = λ below s names l m. plan below s names l m _ (λ q t here is. (let z = y.cause s l in (
            _,
            in_last q.steps _,
            part_hinders {r = region_at s t (run X) n false} {o = z.0} {Y = z.1} {w = z.2}
                (part_of_run (subst (λ u. PartOfRun s n X u z.0 z.1 z.2) (sym is) z.3)) (subst (λ p. HindersPartAt z.1 (p + z.0) z.2 e) (sym here) z.4),
          )));
        }
      ])
      (λ p x below s names l m. plan below s names l m _ (λ q t here is. (let size : n * size_of s.layouts X ≡ n * L.size = ap (λ z. n * z) (size_is layout s l) in omega (arith, here, x, size)))) refused
    where
      plan : AreBelow (cursor old) → (s : SchemaTable) (names : NameMap) → Knows s D → AreNamed names ks → (such : ℕ → List Step → Cursor → Type 0)
          → ((q : RunPlan s names n X vs (cursor old) (λ us C b. (us ≡ ws) × StandsAt b mid)) (t : ℕ) → t ≡ length low.bytes → q.flats ≡ ws
          → such t (q.steps ++ lays (region_at s t (run X) n false) (list q.flats) ∷ []) (record { position = t + n * size_of s.layouts X; states = q.stop.states }))
          → RegionPlan s names (run X) n (list vs) (cursor old) such
      plan below s names l m such f =
          let q = planned below s names l m in
          let t : ℕ = up q.stop.position (align_of s.layouts X) in
          let here : t ≡ length low.bytes = sym (pads.aligned ∙ ap (λ p. up p L.align) q.such.1.position ∙ ap (up q.stop.position) (sym (align_is layout s l))) in
          run_plan D X n ks vs s names (cursor old) _ such q t refl (f q t here q.such.0)
