-- How what is appended goes together.
use Rattle.std.proofs.Common.{◌≡◌, inl, inr, ℕ, ℤ, pos, ◌+◌, ◌<◌, ◌≤◌, List, [], ◌∷◌, ◌++◌, length, refl, sym, ap, ◌∙◌, append_assoc, length-append, arith, Option, Some, None}
use Rattle.std.proofs.lemmas.List.{append-nil}
use Rattle.std.specs.FinMap.{get}
use Rattle.archive_check.specs.Shape.{Key, Shape, Pointee, one}
use Rattle.archive_check.specs.Layout.{Layout, up, size_of, align_of}
use Rattle.archive_check.specs.Definitions.{Definitions, both, Knows, HasLayout}
use Rattle.archive_check.specs.Value.{Pointer, Value, number, Values, value, no_value, product, case, box, hole, pointers}
use Rattle.archive_check.specs.Reads.{SchemaTable}
use Rattle.archive_check.specs.Keys.{IsInOrder, in_any_order}
use Rattle.archive_check.specs.Tour.{Region, Contents, contents_one, Leads, Entry, Seen, tour_end, tour_unique, pointee_size, pointee_align, region_of}
use Rattle.archive_check.specs.Denotes.{Naming, Fills, rename, fills_number, fills_box, fills_unique, fills_product, fills_case, fills_no_value, fills_value}
use Rattle.archive_check.specs.Reached.{Names, names_product, names_case, names_box, names_first, names_later}
use Rattle.archive_check.specs.Tightness.{after}
use Rattle.archive_check.specs.CleanRegions.{Occurs, AreZero, CleanPointee, clean_one}
use Rattle.archive_check.specs.WriterState.{KeyStates, WriterState, Pads}
use Rattle.archive_check.proofs.Tours.JoinedTours.{tour_append}
use Rattle.archive_check.proofs.Tours.StandingBytes.{stands_fits, stands_zero, zero_nowhere, stands_begun}
use Rattle.archive_check.proofs.Tours.Tightness.{tight_append, clean_regions_append}
pub use Rattle.archive_types.specs.Members.Sides.{knows_left, knows_right, named_left, named_right}
use Rattle.archive_types.specs.Writing.{World, Covers, Known, Unseen, Found, Appends, FinishesKeys, AreFinished, AllFinished, Writes, WritesAll, Puts, LaysOut, to_pointee}

-- the layout, in a schema that knows the definitions

pub size_is : {D : Definitions} {X : Shape} {L : Layout} → HasLayout D X L → (s : SchemaTable) → Knows s D → size_of s.layouts X ≡ L.size
size_is h s k = ap (λ l. l.size) (h.solved s k)

pub align_is : {D : Definitions} {X : Shape} {L : Layout} → HasLayout D X L → (s : SchemaTable) → Knows s D → align_of s.layouts X ≡ L.align
align_is h s k = ap (λ l. l.align) (h.solved s k)

-- a world that holds what is written later holds what was written before
pub holds_before : (w : World) (D : Definitions) (mid new added : List ℕ) (s t : KeyStates) (ks : List Naming)
    → new ≡ mid ++ added → ((k : ℕ) (x : Option ℕ) → s k ≡ Some x → t k ≡ Some x) → Covers w D new t ks → Covers w D mid s ks
holds_before w D mid new added s t ks e kept h = record {
  knows = h.knows;
  rest = added ++ h.rest;
  begins = h.begins ∙ ap (λ x. x ++ h.rest) e ∙ append_assoc mid added h.rest;
  placed = λ k q i. h.placed k q (kept k (Some q) i);
  named = h.named;
}

pub holds_left : (w : World) (D E : Definitions) (new : List ℕ) (t : KeyStates) (ks ls : List Naming) → Covers w (both D E) new t (ks ++ ls) → Covers w D new t ks
holds_left w D E new t ks ls h = record { knows = knows_left _ D E h.knows; rest = h.rest; begins = h.begins; placed = h.placed; named = named_left _ ks ls h.named }

pub holds_right : (w : World) (D E : Definitions) (new : List ℕ) (t : KeyStates) (ks ls : List Naming) → Covers w (both D E) new t (ks ++ ls) → Covers w E new t ls
holds_right w D E new t ks ls h = record { knows = knows_right _ D E h.knows; rest = h.rest; begins = h.begins; placed = h.placed; named = named_right _ ks ls h.named }

-- states

pub finishes_nothing : (a : ℕ) (s : KeyStates) → FinishesKeys a a s s
finishes_nothing a s = record { kept = λ k x h. h; settled = λ k x h i. cc; apart = λ k l t h i j m. cc }

finishes_later : (a b c : ℕ) (s t u : KeyStates) (k : ℕ) (x : Option ℕ) (y : Option (Option ℕ)) → t k ≡ y → a ≤ b → b ≤ c
    → FinishesKeys a b s t → FinishesKeys b c t u → s k ≡ None → u k ≡ Some x → (q : ℕ) × (x ≡ Some q) × (a ≤ q) × (q < c)
finishes_later a b c s t u k x None is le ge h i old new =
    let later = i.settled k x is new in (later.0, later.1, omega (arith, later.2), later.3)
finishes_later a b c s t u k x (Some y) is le ge h i old new =
    let early = h.settled k y old is in
    let same : x ≡ y = (let there = i.kept k y is in cc) in
    (early.0, same ∙ early.1, early.2, omega (arith, early.3))

finishes_apart : (a b c : ℕ) (s t u : KeyStates) (k l q : ℕ) (x y : Option (Option ℕ)) → t k ≡ x → t l ≡ y → FinishesKeys a b s t → FinishesKeys b c t u
    → s k ≡ None → s l ≡ None → u k ≡ Some (Some q) → u l ≡ Some (Some q) → k ≡ l
finishes_apart a b c s t u k l q None None is js h i m n at too = i.apart k l q is js at too
finishes_apart a b c s t u k l q None (Some y) is js h i m n at too =
    let later = i.settled k (Some q) is at in let early = h.settled l y n js in
    let same : y ≡ Some q = (let there = i.kept l y js in cc) in
    let one : later.0 ≡ q = (let e = later.1 in cc) in let other : early.0 ≡ q = (let e = early.1 in cc) in
    absurd (omega (arith, later.2, early.3))
finishes_apart a b c s t u k l q (Some x) None is js h i m n at too =
    let early = h.settled k x m is in let later = i.settled l (Some q) js too in
    let same : x ≡ Some q = (let there = i.kept k x is in cc) in
    let one : later.0 ≡ q = (let e = later.1 in cc) in let other : early.0 ≡ q = (let e = early.1 in cc) in
    absurd (omega (arith, later.2, early.3))
finishes_apart a b c s t u k l q (Some x) (Some y) is js h i m n at too =
    let first : x ≡ Some q = (let there = i.kept k x is in cc) in let second : y ≡ Some q = (let there = i.kept l y js in cc) in
    h.apart k l q m n (rw first at is) (rw second at js)

pub finished_later : (s t : KeyStates) (v : Value) → ((k : ℕ) (x : Option ℕ) → s k ≡ Some x → t k ≡ Some x) → AreFinished s v → AreFinished t v
finished_later s t v kept h k n = (let (q, is) = h k n in (q, kept k (Some q) is))

pub finished_more : (s : KeyStates) (v : Value) (vs : Values) → AreFinished s v → AllFinished s vs → AllFinished s (value v vs)
finished_more s v vs h i k (names_first n) = h k n
finished_more s v vs h i k (names_later n) = i k n

pub finished_none : (s : KeyStates) → AllFinished s no_value
finished_none s k n = elim n [ ]

finished_product : (s : KeyStates) (vs : Values) → AllFinished s vs → AreFinished s (product vs)
finished_product s vs h k (names_product n) = h k n

finished_case : (s : KeyStates) (tag : ℕ) (vs : Values) → AllFinished s vs → AreFinished s (case tag vs)
finished_case s tag vs h k (names_case n) = h k n

finished_box : (s : KeyStates) (v : Value) → AreFinished s v → AreFinished s (box v)
finished_box s v h k (names_box n) = h k n

pub finishes_both : (a b c : ℕ) (s t u : KeyStates) → a ≤ b → b ≤ c → FinishesKeys a b s t → FinishesKeys b c t u → FinishesKeys a c s u
finishes_both a b c s t u le ge h i = record {
  kept = λ k x old. i.kept k x (h.kept k x old);
  settled = λ k x old new. finishes_later a b c s t u k x (t k) refl le ge h i old new;
  apart = λ k l q m n at too. finishes_apart a b c s t u k l q (t k) (t l) refl refl h i m n at too;
}

pub finishes_wider : (a b c : ℕ) (s t : KeyStates) → b ≤ c → FinishesKeys a b s t → FinishesKeys a c s t
finishes_wider a b c s t le h = record { kept = h.kept; settled = λ k x old new. (let i = h.settled k x old new in (i.0, i.1, i.2, omega (arith, i.3))); apart = h.apart }

-- tours

pub appends_nothing : (w : World) (a : ℕ) (s : KeyStates) (pending : List ℕ) (seen : Seen) → Known w s a seen pending → Appends w a a s pending seen []
appends_nothing w a s pending seen known = record {
  regions = [];
  last = seen;
  tour = tour_end;
  tight = refl;
  clean = tt;
  known = known;
  below = λ t h. refl;
  above = λ t h. refl;
  found = λ t e h. inl h;
}

pub found_later : (w : World) (s t : KeyStates) (q : ℕ) (e : Entry) → ((k : ℕ) (x : Option ℕ) → s k ≡ Some x → t k ≡ Some x) → Found w s q e → Found w t q e
found_later w s t q e kept h = record { key = h.key; flat = h.flat; value = h.value; finished = kept h.key (Some q) h.finished; names = h.names; contents = h.contents; fills = h.fills }

pub unseen_later : (a b c : ℕ) (seen last : Seen) → a ≤ b → ((t : ℕ) → b ≤ t → get last t ≡ get seen t) → Unseen seen a c → Unseen last b c
unseen_later a b c seen last le above h = record { unseen = λ t l m. above t l ∙ h.unseen t (omega arith) m }

pub unseen_before : (a b c : ℕ) (seen : Seen) → b ≤ c → Unseen seen a c → Unseen seen a b
unseen_before a b c seen le h = record { unseen = λ t l m. h.unseen t l (omega arith) }

pub appends_both : (w : World) (a b c : ℕ) (s t : KeyStates) (pending : List ℕ) (seen : Seen) (O P : List Pointer)
    → a ≤ b → b ≤ c → ((k : ℕ) (x : Option ℕ) → s k ≡ Some x → t k ≡ Some x)
    → (h : Appends w a b s pending seen O) → Appends w b c t pending h.last P → Appends w a c t pending seen (O ++ P)
appends_both w a b c s t pending seen O P le ge kept h i = record {
  regions = h.regions ++ i.regions;
  last = i.last;
  tour = (tour_append w.schema w.bytes h.tour i.tour).0;
  tight = tight_append a h.regions b i.regions c h.tight i.tight;
  clean = clean_regions_append w.schema w.bytes a h.regions b i.regions h.tight h.clean i.clean;
  known = i.known;
  below = λ q l. i.below q (omega arith) ∙ h.below q l;
  above = λ q l. i.above q l ∙ h.above q (omega arith);
  found = λ q e is. elim (i.found q e is) [
    | inl early ↦ elim (h.found q e early) [ inl old ↦ inl old | inr mid ↦ inr (found_later w s t q e kept mid) ]
    | inr new ↦ inr new
  ];
}

-- after the regions of its own pointers, the region of a pointer that is its own
pub appends_region : (w : World) (a b c : ℕ) (s : KeyStates) (pending : List ℕ) (seen : Seen) (p : Pointer) (t : ℕ) (v : Value)
    → a ≤ b → p.sharing ≡ None → Leads w.schema w.bytes p t v
    → t ≡ up b (pointee_align w.schema p.pointee) → AreZero w.bytes b t → CleanPointee w.schema w.bytes t p.pointee p.length
    → b ≤ c → c ≡ after (region_of w.schema p t) → AreZero w.bytes (t + pointee_size w.schema p.pointee p.length) (after (region_of w.schema p t))
    → Appends w a b s pending seen (pointers v) → Appends w a c s pending seen (p ∷ [])
appends_region w a b c s pending seen p t v le own leads aligned zeros clean ge ends behind h =
    let r : Region = region_of w.schema p t in record {
      regions = h.regions ++ r ∷ [];
      last = h.last;
      tour = tour_unique own leads h.tour tour_end;
      tight = tight_append a h.regions b (r ∷ []) c h.tight (aligned, ends);
      clean = clean_regions_append w.schema w.bytes a h.regions b (r ∷ []) h.tight h.clean (zeros, clean, behind, tt);
      known = record { typed = h.known.typed; inner = h.known.inner; closed = h.known.closed; below = λ k q is. omega (arith, h.known.below k q is); opened = h.known.opened };
      below = h.below;
      above = λ q l. h.above q (omega arith);
      found = h.found;
    }

pub longer : (old new added : List ℕ) → new ≡ old ++ added → length old ≤ length new
longer old new added e = omega (arith, ap length e, length-append old added)

-- laws of types

pub writes_nothing : (D : Definitions) (told : WriterState) (v : Value) → pointers v ≡ [] → ((k : ℕ) → Names k v → ⊥) → ((w : World) → Fills w.schema w.bytes v (rename w.position v)) → Writes D told told [] v v
writes_nothing D told v none nameless fills = record {
  added = [];
  grown = sym (append-nil told.bytes);
  states = finishes_nothing _ told.states;
  finished = λ k n. absurd (nameless k n);
  appends = λ w pending seen h known unseen. rw none (appends_nothing w _ told.states pending seen known);
  fills = λ w h. fills w;
}

pub writes_none : (D : Definitions) (told : WriterState) → WritesAll D told told [] no_value no_value
writes_none D told = record {
  added = [];
  grown = sym (append-nil told.bytes);
  states = finishes_nothing _ told.states;
  finished = finished_none told.states;
  appends = λ w pending seen h known unseen. appends_nothing w _ told.states pending seen known;
  fills = λ w h. fills_no_value;
}

pub writes_cons : (D E : Definitions) (old mid new : WriterState) (ks ls : List Naming) (v x : Value) (vs xs : Values)
    → Writes D old mid ks v x → WritesAll E mid new ls vs xs → WritesAll (both D E) old new (ks ++ ls) (value v vs) (value x xs)
writes_cons D E old mid new ks ls v x vs xs h i =
    let le : length old.bytes ≤ length mid.bytes = longer _ _ _ h.grown in
    let ge : length mid.bytes ≤ length new.bytes = longer _ _ _ i.grown in
    let early : (w : World) → Covers w (both D E) new.bytes new.states (ks ++ ls) → Covers w D mid.bytes mid.states ks
    = λ w n. holds_before w D _ _ _ _ _ ks i.grown i.states.kept (holds_left w D E _ _ ks ls n) in
    record {
      added = h.added ++ i.added;
      grown = i.grown ∙ ap (λ z. z ++ i.added) h.grown ∙ append_assoc old.bytes h.added i.added;
      states = finishes_both _ _ _ _ _ _ le ge h.states i.states;
      finished = finished_more new.states x xs (finished_later mid.states new.states x i.states.kept h.finished) i.finished;
      appends = λ w pending seen n known unseen. (
          let first = h.appends w pending seen (early w n) known (unseen_before _ _ _ seen ge unseen) in
          let second = i.appends w pending first.last (holds_right w D E _ _ ks ls n) first.known (unseen_later _ _ _ seen first.last le first.above unseen) in
          appends_both w _ _ _ _ _ pending seen _ _ le ge i.states.kept first second);
      fills = λ w n. fills_value (h.fills w (early w n)) (i.fills w (holds_right w D E _ _ ks ls n));
    }

pub writes_product : (D : Definitions) (old new : WriterState) (ks : List Naming) (vs xs : Values) → WritesAll D old new ks vs xs → Writes D old new ks (product vs) (product xs)
writes_product D old new ks vs xs h = record { added = h.added; grown = h.grown; states = h.states; finished = finished_product new.states xs h.finished; appends = h.appends; fills = λ w n. fills_product (h.fills w n) }

-- the pointer to a region of its own, which is in an order
abbrev pub to_ordered : ℕ → Option Key → Pointee → ℕ → Pointer
to_ordered t o P n = record { target = pos t; sharing = None; order = o; pointee = P; length = n }

-- the region of a pointee, and what it owns before it; it has to be in the order that its pointer asks for
pub writes_ordered : (D : Definitions) (old new : WriterState) (ks : List Naming) (p : ℕ) (o : Option Key) (P : Pointee) (n : ℕ) (x : Value) → (h : LaysOut D old new ks p P n x)
    → ((w : World) → Contents w.schema w.bytes p P n h.flat → Fills w.schema w.bytes h.flat (rename w.position x) → IsInOrder w.schema w.bytes p n o P)
    → Writes D old new ks (hole (to_ordered p o P n)) x
writes_ordered D old new ks p o P n x h ordered =
    let m = h.owned in
    let le : length old.bytes ≤ length h.mid.bytes = longer _ _ _ m.grown in
    let ge : length h.mid.bytes ≤ length new.bytes = longer _ _ _ h.grown in
    let ends : length new.bytes ≡ p + length h.region = omega (arith, ap length h.grown, length-append h.mid.bytes (h.zeros ++ h.region), length-append h.zeros h.region, h.at) in
    let early : (w : World) → Covers w D new.bytes new.states ks → Covers w D h.mid.bytes h.mid.states ks
    = λ w k. holds_before w D _ _ _ _ _ ks h.grown (λ key y is. rw h.states is) k in
    let begins : (w : World) → Covers w D new.bytes new.states ks → w.bytes ≡ (h.mid.bytes ++ h.zeros) ++ (h.region ++ _)
    = λ w k. k.begins ∙ ap (λ z. z ++ k.rest) (h.grown ∙ sym (append_assoc h.mid.bytes h.zeros h.region)) ∙ append_assoc (h.mid.bytes ++ h.zeros) h.region k.rest in
    let stands : (w : World) → Covers w D new.bytes new.states ks → Occurs w.bytes p h.region
    = λ w k. record { before = h.mid.bytes ++ h.zeros; behind = k.rest; is = begins w k; at = length-append h.mid.bytes h.zeros ∙ sym h.at } in
    let leads : (w : World) → Covers w D new.bytes new.states ks → Leads w.schema w.bytes (to_ordered p o P n) p h.flat
    = λ w k. (
    let contents = h.contents w.schema w.bytes k.knows (stands w k) in
    record { target = refl; fits = omega (arith, h.sized w.schema k.knows, stands_fits _ _ _ (stands w k)); contents = contents; ordered = ordered w contents (m.fills w (early w k)) }) in
    record {
      added = m.added ++ (h.zeros ++ h.region);
      grown = h.grown ∙ ap (λ z. z ++ (h.zeros ++ h.region)) m.grown ∙ append_assoc old.bytes m.added (h.zeros ++ h.region);
      states = rw h.states (finishes_wider _ _ _ _ _ ge m.states);
      finished = rw h.states m.finished;
      appends = λ w pending seen k known unseen. (
          let first = m.appends w pending seen (early w k) known (unseen_before _ _ _ seen ge unseen) in
          let size = h.sized w.schema k.knows in
          rw h.states (appends_region w _ _ _ _ pending seen (to_ordered p o P n) p h.flat le refl (leads w k)
          (h.aligned w.schema k.knows)
          (stands_zero w.bytes _ p h.zeros h.zeroed h.at (stands_begun w.bytes h.mid.bytes h.zeros (h.region ++ k.rest) _ (begins w k) refl))
          (h.clean w.schema w.bytes k.knows (stands w k))
          ge (omega (arith, ends, size)) (zero_nowhere w.bytes _ _ (omega arith))
          first));
      fills = λ w k. fills_unique refl (leads w k) (m.fills w (early w k));
    }

-- where no order is asked for
pub writes_laid : (D : Definitions) (old new : WriterState) (ks : List Naming) (p : ℕ) (P : Pointee) (n : ℕ) (x : Value) → LaysOut D old new ks p P n x → Writes D old new ks (hole (to_pointee p P n)) x
writes_laid D old new ks p P n x h = writes_ordered D old new ks p None P n x h (λ w c f. in_any_order)

-- one value
pub lays_one : (D : Definitions) (old mid low new : WriterState) (ks : List Naming) (v x : Value) (X : Shape) (L : Layout) (t : ℕ)
    → Writes D old mid ks v x → Pads L.align mid low → Puts D low new X L v → t ≡ length low.bytes
    → LaysOut D old new ks t (one X) 0 x
lays_one D old mid low new ks v x X L t h pads puts here = record {
  mid = mid;
  flat = v;
  owned = h;
  zeros = pads.zeros;
  region = puts.added;
  grown = puts.grown ∙ ap (λ z. z ++ puts.added) pads.grown ∙ append_assoc mid.bytes pads.zeros puts.added;
  zeroed = pads.zeroed;
  at = here ∙ ap length pads.grown ∙ length-append mid.bytes pads.zeros;
  aligned = λ s k. here ∙ pads.aligned ∙ ap (up (length mid.bytes)) (sym (align_is puts.layout s k));
  sized = λ s k. puts.sized ∙ sym (size_is puts.layout s k);
  contents = λ s bytes k stands. contents_one (rw here (puts.resolved.reads s bytes k (rw (← here) stands)));
  clean = λ s bytes k stands. clean_one (rw here (puts.resolved.clean s bytes k (rw (← here) stands)));
  states = puts.states ∙ pads.states;
}

pub writes_case : (D : Definitions) (old new : WriterState) (ks : List Naming) (tag : ℕ) (v x : Value)
    → Writes D old new ks v x → Writes D old new ks (case tag (value v no_value)) (case tag (value x no_value))
writes_case D old new ks tag v x h = record {
  added = h.added;
  grown = h.grown;
  states = h.states;
  finished = finished_case new.states tag _ (finished_more new.states x no_value h.finished (finished_none new.states));
  appends = λ w pending seen n known unseen. rw (append-nil (pointers v)) (h.appends w pending seen n known unseen);
  fills = λ w n. fills_case (fills_value (h.fills w n) fills_no_value);
}

finished_case_none : (tag k : ℕ) → Names k (case tag no_value) → ⊥
finished_case_none tag k (names_case n) = elim n [ ]

pub writes_empty_case : (D : Definitions) (told : WriterState) (tag : ℕ) → Writes D told told [] (case tag no_value) (case tag no_value)
writes_empty_case D told tag = writes_nothing D told (case tag no_value) refl (finished_case_none tag) (λ w. fills_case fills_no_value)

-- a box of what stands as a region of its own
pub writes_box : (D : Definitions) (old new : WriterState) (ks : List Naming) (p : Pointer) (x : Value)
    → Writes D old new ks (hole p) x → Writes D old new ks (box (hole p)) (box x)
writes_box D old new ks p x h = record { added = h.added; grown = h.grown; states = h.states; finished = finished_box new.states x h.finished; appends = h.appends; fills = λ w n. fills_box (h.fills w n) }

pub writes_number : (D : Definitions) (told : WriterState) (z : ℤ) → Writes D told told [] (number z) (number z)
writes_number D told z = writes_nothing D told (number z) refl (λ k n. elim n [ ]) (λ w. fills_number)
