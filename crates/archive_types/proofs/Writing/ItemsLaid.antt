-- Items that were written one behind another, none of which has a pointer to a region of its own, are a vector's elements.
use Rattle.std.proofs.Common.{◌≡◌, inl, inr, ℕ, zero, suc, ◌+◌, ◌<◌, ◌≤◌, List, [], ◌∷◌, ◌++◌, length, refl, sym, ap, subst, ◌∙◌, append_assoc, length-append, arith, Option, Some, None, Contains, Result, Ok, Err, IfOk, OnOk, IfErr}
use Rattle.std.specs.Iterator.{Yields}
use Rattle.std.proofs.lemmas.Bool.{cases_lt}
use Rattle.std.proofs.lemmas.List.{append-nil}
use Rattle.archive_check.specs.Shape.{Shape, run, vec}
use Rattle.archive_check.specs.Layout.{Layout}
use Rattle.archive_check.specs.Definitions.{Definitions, HasLayout, Knows}
use Rattle.archive_check.specs.Value.{Pointer, Value, list, hole, Values, no_value, value, pointers, all_pointers}
use Rattle.archive_check.specs.Reads.{SchemaTable}
use Rattle.archive_check.specs.Tour.{Seen, Tour, tour_end}
use Rattle.archive_check.specs.Denotes.{Naming, Fills, FillsAll, fills_no_value, fills_value, rename, rename_all}
use Rattle.archive_check.specs.WriterState.{KeyState, KeyStates, WriterState, Pads}
use Rattle.archive_check.specs.declared.format.error.Error.{Error}
use Rattle.archive_check.proofs.Elements.{contains_first, contains_later}
use Rattle.archive_check.proofs.Tours.JoinedTours.{tour_append}
use Rattle.archive_write.specs.Written.{IsBeginning}
use Rattle.archive_types.specs.Writing.{NameMap, AreNamed, World, Covers, Known, AreFinished, AllFinished, FinishesKeys, Writes, WritesAll, Puts, to_pointee}
use Rattle.archive_types.specs.Plans.{cursor, AreBelow, Plans, PlansRun, plans_none, plans_element, ValuePlan, StandsAt, Serialized, serialized}
use Rattle.archive_types.specs.Runs.{each_keys, each_meaning, SerializedRun, serialized_run, PutsRun}
use Rattle.archive_types.specs.Members.Sides.{named_left, named_right}
use Rattle.archive_types.specs.ItemsWritten.{AllShared, OwnNoRegion, ItemWritten, ItemRefused, ItemsWritten, no_item, one_item, ItemsLaid, ItemsRefused, one_refused}
use Rattle.archive_types.proofs.Writing.Appending.{finishes_nothing, finished_more, finished_none}
use Rattle.archive_types.proofs.Planning.Owners.{serialized_vec}
use Rattle.archive_types.proofs.Writing.RunRegions.{puts_none, puts_element, serialized_elements}
use Rattle.archive_types.proofs.Planning.SilentPlans.{shared_tour, fills_elsewhere, plans_anywhere}

-- what writes as many bytes as there were writes none, and else more

pub begins_silent : (xs ys : List ℕ) → IsBeginning xs ys → length ys ≡ length xs → ys ≡ xs
begins_silent xs ys h e = go h.rest h.whole (omega (arith, e, ap length h.whole, length-append xs h.rest))
  where
    go : (rest : List ℕ) → ys ≡ xs ++ rest → length rest ≡ 0 → ys ≡ xs
    go [] whole none = whole ∙ append-nil xs
    go (y ∷ rest) whole none = absurd (omega (arith, none))

pub begins_less : (xs ys : List ℕ) → IsBeginning xs ys → (length ys ≡ length xs → ⊥) → length xs < length ys
begins_less xs ys h n = elim (cases_lt (length xs) (length ys)) [
  | inl less ↦ less
  | inr le ↦ absurd (n (omega (arith, le, ap length h.whole, length-append xs h.rest)))
]

-- what writes no byte changes no key's state

unchanged : (x y : KeyState) (p : ℕ) → ((z : Option ℕ) → x ≡ Some z → y ≡ Some z) → ((z : Option ℕ) → x ≡ None → y ≡ Some z → (t : ℕ) × (z ≡ Some t) × (p ≤ t) × (t < p)) → y ≡ x
unchanged None None p kept settled = refl
unchanged None (Some z) p kept settled = (let h = settled z refl refl in absurd (omega (arith, h.2, h.3)))
unchanged (Some z) y p kept settled = kept z refl

silent_states : (p q : ℕ) (s t : KeyStates) → q ≡ p → FinishesKeys p q s t → t ≡ s
silent_states p q s t e h =
    let f : FinishesKeys p p s t = rw e at h in
    λ i k. unchanged (s k) (t k) p (λ z is. f.kept k z is) (λ z none new. f.settled k z none new) i

-- What a value's pointers are to a writer that stood at `first`, and to each that has written since and keeps the keys: all lead to what was met.
record LeadsBack (D : Definitions) (X : Shape) (keys : List Naming) (v flat : Value) (first : WriterState) : Type 0 where
  finished : AreFinished first.states v
  tour : (w : World) (pending : List ℕ) (seen : Seen) → Covers w D first.bytes first.states keys → Known w first.states (length first.bytes) seen pending
      → Tour w.schema w.bytes pending seen (pointers flat) [] seen
  fills : (w : World) → Covers w D first.bytes first.states keys → Fills w.schema w.bytes flat (rename w.position v)
  plans : (s : SchemaTable) (names : NameMap) → AreBelow (cursor first) → Knows s D → AreNamed names keys → Plans s names X v (cursor first) flat [] (cursor first)

record LeadBack (D : Definitions) (X : Shape) (n : ℕ) (keys : List Naming) (vs flats : Values) (first : WriterState) : Type 0 where
  finished : AllFinished first.states vs
  tour : (w : World) (pending : List ℕ) (seen : Seen) → Covers w D first.bytes first.states keys → Known w first.states (length first.bytes) seen pending
      → Tour w.schema w.bytes pending seen (all_pointers flats) [] seen
  fills : (w : World) → Covers w D first.bytes first.states keys → FillsAll w.schema w.bytes flats (rename_all w.position vs)
  plans : (s : SchemaTable) (names : NameMap) → AreBelow (cursor first) → Knows s D → AreNamed names keys → PlansRun s names n X vs (cursor first) flats [] (cursor first)

-- the world, as it was when these bytes were told
abbrev told : World → List ℕ → World
told w bytes = record { schema = w.schema; bytes = bytes; position = w.position; names = w.names }

module _ (D : Definitions) (X : Shape) (keys : List Naming) (v flat : Value) (first old mid : WriterState) (same : old.states ≡ first.states) (later : length first.bytes ≤ length old.bytes)
    (silent : mid.bytes ≡ old.bytes) (shared : AllShared (pointers flat)) where
  leads_back : Serialized D X keys v flat old mid → LeadsBack D X keys v flat first
  leads_back (serialized writes planned) =
      let still : mid.states ≡ first.states = silent_states (length old.bytes) (length mid.bytes) old.states mid.states (ap length silent) writes.states ∙ same in
      let covers : (w : World) → Covers w D first.bytes first.states keys → Covers (told w mid.bytes) D mid.bytes mid.states keys
      = λ w c. record { knows = c.knows; rest = []; begins = sym (append-nil mid.bytes); placed = λ k t is. c.placed k t (rw still at is); named = c.named } in
      record {
        finished = subst (λ z. AreFinished z v) still writes.finished;
        tour = λ w pending seen c known. (
            let there : Known (told w mid.bytes) first.states (length old.bytes) seen pending
            = record { typed = known.typed; inner = known.inner; closed = known.closed; below = λ k t is. omega (arith, known.below k t is, later); opened = known.opened } in
            let a = writes.appends (told w mid.bytes) pending seen (covers w c) (rw same there) (record { unseen = λ t l m. absurd (omega (arith, l, m, ap length silent)) }) in
            shared_tour w.schema c.knows.laid_out a.tour shared (length old.bytes) (length mid.bytes) a.tight (omega (arith, ap length silent)) w.bytes);
        fills = λ w c. fills_elsewhere w.schema w.bytes (writes.fills (told w mid.bytes) (covers w c)) shared;
        plans = λ s names below k m. (
            let q = planned (λ key t is. omega (arith, below key t (rw same at is), later)) s names k m in
            let r = plans_anywhere s k.laid_out names q.plans (omega (arith, q.such.1.position, ap length silent)) (rw (same) (subst (λ z. AreFinished z v) still writes.finished)) (rw (q.such.0) shared) in
            rw (← q.such.0) (subst (λ z. Plans s names X v (record { position = length first.bytes; states = z }) q.flat [] (record { position = length first.bytes; states = z })) same (r.1 (length first.bytes))));
      }

lead_back_none : (D : Definitions) (X : Shape) (first : WriterState) → LeadBack D X 0 [] no_value no_value first
lead_back_none D X first = record { finished = finished_none first.states; tour = λ w pending seen c known. tour_end; fills = λ w c. fills_no_value; plans = λ s names below k m. plans_none }

lead_back_more : (D : Definitions) (X : Shape) (n : ℕ) (ks ls : List Naming) (v w : Value) (vs ws : Values) (first : WriterState) → LeadsBack D X ks v w first → LeadBack D X n ls vs ws first
    → LeadBack D X (suc n) (ks ++ ls) (value v vs) (value w ws) first
lead_back_more D X n ks ls v w vs ws first h i =
    let left : (u : World) → Covers u D first.bytes first.states (ks ++ ls) → Covers u D first.bytes first.states ks
    = λ u c. record { knows = c.knows; rest = c.rest; begins = c.begins; placed = c.placed; named = named_left u.names ks ls c.named } in
    let right : (u : World) → Covers u D first.bytes first.states (ks ++ ls) → Covers u D first.bytes first.states ls
    = λ u c. record { knows = c.knows; rest = c.rest; begins = c.begins; placed = c.placed; named = named_right u.names ks ls c.named } in
    record {
      finished = finished_more first.states v vs h.finished i.finished;
      tour = λ u pending seen c known. (tour_append u.schema u.bytes (h.tour u pending seen (left u c) known) (i.tour u pending seen (right u c) known)).0;
      fills = λ u c. fills_value (h.fills u (left u c)) (i.fills u (right u c));
      plans = λ s names below k m. plans_element (h.plans s names below k (named_left names ks ls m)) (i.plans s names below k (named_right names ks ls m));
    }

-- so their serialization writes nothing, as a whole
serialized_back : (D : Definitions) (X : Shape) (n : ℕ) (keys : List Naming) (vs flats : Values) (first : WriterState) → LeadBack D X n keys vs flats first → SerializedRun D X n keys vs flats first first
serialized_back D X n keys vs flats first h = serialized_run
    (record {
      added = [];
      grown = sym (append-nil first.bytes);
      states = finishes_nothing _ first.states;
      finished = h.finished;
      appends = λ w pending seen c known unseen. record {
        regions = [];
        last = seen;
        tour = h.tour w pending seen c known;
        tight = refl;
        clean = tt;
        known = known;
        below = λ t l. refl;
        above = λ t l. refl;
        found = λ t e is. inl is;
      };
      fills = h.fills;
    })
    (λ below s names k m. record { flats = flats; steps = []; stop = cursor first; plans = h.plans s names below k m; such = (refl, record { position = refl; keys = λ j. refl }) })

-- what was put where the writer stood with the same bytes and keys
puts_from : (D : Definitions) (X : Shape) (L : Layout) (v : Value) (old mid new : WriterState) → mid.bytes ≡ old.bytes → mid.states ≡ old.states → Puts D mid new X L v → Puts D old new X L v
puts_from D X L v old mid new e f h = record { layout = h.layout; added = h.added; grown = rw (← e) h.grown; sized = h.sized; resolved = rw (← e) h.resolved; states = h.states ∙ f }

module _ {A R : Type 0} (D : Definitions) (X : Shape) (L : Layout) (k : A → List Naming) (m : A → Value) (f : A → R → Value) (b : A → R → Type 0) where
  -- the values as they are read, their run, and that they lead back
  record AreElements (xs : List A) (first old new : WriterState) : Type 0 where
    flats : Values
    puts : PutsRun D old new X L (length xs) flats
    back : LeadBack D X (length xs) (each_keys k xs) (each_meaning m xs) flats first

  are_elements : (xs : List A) (first old new : WriterState) → HasLayout D X L → old.states ≡ first.states → length first.bytes ≤ length old.bytes → OwnNoRegion f b xs
      → ItemsWritten D X L k m f b xs old new → AreElements xs first old new
  are_elements [] first old new layout same later own no_item = record { flats = no_value; puts = puts_none D old X L layout; back = lead_back_none D X first }
  are_elements (x ∷ xs) first old new layout same later own (one_item {mid = next} item others) =
      let shared : AllShared (pointers (f x item.resolver)) = own x (contains_first xs x) item.resolver item.same in
      let still : item.mid.states ≡ old.states = silent_still item.serialized item.silent in
      let put : Puts D old next X L (f x item.resolver) = puts_from D X L (f x item.resolver) old item.mid next item.silent still item.puts in
      let longer : length old.bytes ≤ length next.bytes = omega (arith, ap length put.grown, length-append old.bytes put.added) in
      let rest = are_elements xs first next new layout (put.states ∙ same) (omega (arith, later, longer)) (λ y c. own y (contains_later x xs y c)) others in
      record {
        flats = value (f x item.resolver) rest.flats;
        puts = puts_element D old next new X L (length xs) (f x item.resolver) rest.flats put rest.puts;
        back = lead_back_more D X (length xs) (k x) (each_keys k xs) (m x) (f x item.resolver) (each_meaning m xs) rest.flats first
            (leads_back D X (k x) (m x) (f x item.resolver) first old item.mid same later item.silent shared item.serialized) rest.back;
      }
    where
      silent_still : {ks : List Naming} {v w : Value} {a c : WriterState} → Serialized D X ks v w a c → c.bytes ≡ a.bytes → c.states ≡ a.states
      silent_still {a = a} {c = c} (serialized writes planned) e = silent_states (length a.bytes) (length c.bytes) a.states c.states (ap length e) writes.states

  -- items with no region of their own are a vector's elements
  pub items_serialized : (xs : List A) (t : ℕ) (old new : WriterState) → HasLayout D X L → ItemsLaid D X L k m f b xs t old new → OwnNoRegion f b xs
      → Serialized D (vec X) (each_keys k xs) (list (each_meaning m xs)) (hole (to_pointee t (run X) (length xs))) old new
  items_serialized xs t old new layout h own =
      let longer : length old.bytes ≤ length h.low.bytes = omega (arith, ap length h.pads.grown, length-append old.bytes h.pads.zeros) in
      let e = are_elements xs old h.low new layout h.pads.states longer own h.written in
      serialized_vec D X (length xs) (each_keys k xs) (list (each_meaning m xs)) t old new
      (serialized_elements D X (length xs) (each_keys k xs) (each_meaning m xs) e.flats L t old old h.low new
      (serialized_back D X (length xs) (each_keys k xs) (each_meaning m xs) e.flats old e.back) h.pads e.puts h.at)

  -- one more item behind those that were written
  pub one_more_item : (xs : List A) (x : A) (old mid new : WriterState) → ItemsWritten D X L k m f b xs old mid → ItemWritten D X L k m f b x mid new → ItemsWritten D X L k m f b (xs ++ x ∷ []) old new
  one_more_item [] x old mid new no_item item = one_item item no_item
  one_more_item (y ∷ xs) x old mid new (one_item first others) item = one_item first (one_more_item xs x _ mid new others item)

  pub laid_none : (t : ℕ) (old low : WriterState) → Pads L.align old low → t ≡ length low.bytes → ItemsLaid D X L k m f b [] t old low
  laid_none t old low pads here = record { low = low; pads = pads; at = here; written = no_item }

  pub laid_more : (xs : List A) (x : A) (t : ℕ) (old mid new : WriterState) → ItemsLaid D X L k m f b xs t old mid → ItemWritten D X L k m f b x mid new → ItemsLaid D X L k m f b (xs ++ x ∷ []) t old new
  laid_more xs x t old mid new h item = record { low = h.low; pads = h.pads; at = h.at; written = one_more_item xs x h.low mid new h.written item }

-- a call more
pub yields_more : {S A : Type 0} (steps : S → Option A → S → Type 0) (s t u : S) (xs : List A) (x : A) → Yields steps s xs t → steps t (Some x) u → Yields steps s (xs ++ x ∷ []) u
yields_more steps s t u [] x same h = (u, subst (λ k. steps k (Some x) u) (sym same) h, refl)
yields_more steps s t u (y ∷ xs) x first h = (first.0, first.1, yields_more steps first.0 t u xs x first.2 h)

-- a number that can't be added to has reached the limit
pub no_more : (count n : ℕ) → count ≡ n → (count + 1 < 4294967296 → ⊥) → 4294967295 ≤ n
no_more count n e h = elim (cases_lt count 4294967295) [
  | inl less ↦ absurd (h (omega arith))
  | inr le ↦ omega (arith, e, le)
]
