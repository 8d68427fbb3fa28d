-- Arrays are serialized and resolved element by element, where they lie.
use Rattle.std.proofs.Common.{◌≡◌, inl, inr, ℕ, suc, ◌+◌, ◌*◌, ◌<◌, ◌≤◌, List, [], ◌∷◌, ◌++◌, length, take, drop, refl, sym, ap, subst, ◌∙◌, append_assoc, arith, ◌-◌, ◌^◌, zero, min, true, Result, Ok, Err, IfOk}
use Rattle.std.proofs.lemmas.List.{append-nil, length-take, length-drop, get_or-drop}
use Rattle.std.proofs.Math.Nat.{suc-mul}
use Rattle.archive_check.specs.Shape.{Shape, array}
use Rattle.archive_check.specs.Layout.{Layout, size_of}
use Rattle.archive_check.specs.Definitions.{Definitions, Knows, HasLayout}
use Rattle.archive_check.specs.Value.{Value, Values, list, no_value, value}
use Rattle.archive_check.specs.Reads.{SchemaTable, reads_array, reads_none, reads_element}
use Rattle.archive_check.specs.CleanRegions.{IsZeroed, clean_array, clean_none, clean_element}
use Rattle.archive_check.specs.WriterState.{WriterState}
use Rattle.archive_check.specs.declared.format.error.Error.{Error}
use Rattle.archive_check.proofs.Tours.StandingBytes.{stands_front, stands_back}
use Rattle.archive_check.specs.Denotes.{Naming}
use Rattle.archive_types.specs.Writing.{Resolves, ZeroedPlace}
use Rattle.archive_types.specs.Plans.{Serialized, serialized, plans_array}
use Rattle.archive_types.specs.Causes.{IsRefused, HindersAt, part_of_array}
use Rattle.archive_types.specs.Runs.{each_meaning, each_flat, each_keys, EachBelongs, SerializedRun, serialized_run, IsRunRefused, HindersEachAt}
use Rattle.archive_types.specs.Members.Arrays.{are, they_are, value_if, keys_if, array_meaning, array_keys, ResolvesRun}
use Rattle.archive_types.proofs.Writing.Appending.{size_is}
use Rattle.archive_types.proofs.Planning.Causes.{explains_sooner}
use Rattle.archive_types.proofs.Writing.PartBytes.{zeroed_front}
use Rattle.archive_types.proofs.Writing.RunRegions.{writes_list, first_hindered_at, later_hindered_at}

-- elements that were serialized are an array that was
module _ (D : Definitions) (X : Shape) (n : ℕ) (ks : List Naming) (vs : Values) (old new : WriterState) where
  pub serialized_list : (flats : Values) → SerializedRun D X n ks vs flats old new → Serialized D (array n X) ks (list vs) (list flats) old new
  serialized_list flats (serialized_run writes planned) = serialized (writes_list D old new ks flats vs writes)
      (λ below s names k m. (let q = planned below s names k m in record { flat = list q.flats; steps = q.steps; stop = q.stop; plans = plans_array q.plans; such = (ap list (q.such.0), q.such.1) }))

  pub list_refused : (e : Error) → IsRunRefused D X n ks vs old new e → IsRefused D (array n X) ks (list vs) old new e
  list_refused e h = explains_sooner _ _ _ _ old new e
      (λ x. record {
        named = x.named;
        cause = λ below s names k m. (
            let q = x.cause below s names k m in
            record {
              flat = list q.flats;
              steps = q.steps;
              stop = q.stop;
              plans = plans_array q.plans;
              such = elim q.such [
                | inl y ↦ inl y
                | inr y ↦ inr (y.0, y.1, y.2, part_of_array y.3, y.4)
              ];
            });
      })
      (λ p x below s names k m. (let q = x below s names k m in record { flat = list q.flats; steps = q.steps; stop = q.stop; plans = plans_array q.plans; such = q.such })) h

-- as many as the type says
pub all_there : {A : Type 0} (xs : List A) (n : ℕ) → length xs ≡ n → are xs n ≡ true
all_there xs n count = subst (λ c. are xs c ≡ true) count (they_are xs)

module _ {A : Type 0} (D : Definitions) (X : Shape) (n : ℕ) (k : A → List Naming) (m : A → Value) (xs : List A) (count : length xs ≡ n) (old new : WriterState) where
  pub serialized_array : (flats : Values) → SerializedRun D X (length xs) (each_keys k xs) (each_meaning m xs) flats old new
      → Serialized D (array n X) (array_keys n k xs) (array_meaning n m xs) (list flats) old new
  serialized_array flats h = subst (λ c. Serialized D (array n X) (keys_if c (each_keys k xs)) (value_if c (list (each_meaning m xs))) (list flats) old new) (sym (all_there xs n count))
      (serialized_list D X n (each_keys k xs) (each_meaning m xs) old new flats (subst (λ c. SerializedRun D X c (each_keys k xs) (each_meaning m xs) flats old new) count h))

  pub array_refused : (e : Error) → IsRunRefused D X (length xs) (each_keys k xs) (each_meaning m xs) old new e → IsRefused D (array n X) (array_keys n k xs) (array_meaning n m xs) old new e
  array_refused e h = subst (λ c. IsRefused D (array n X) (keys_if c (each_keys k xs)) (value_if c (list (each_meaning m xs))) old new e) (sym (all_there xs n count))
      (list_refused D X n (each_keys k xs) (each_meaning m xs) old new e (subst (λ c. IsRunRefused D X c (each_keys k xs) (each_meaning m xs) old new e) count h))

-- the bytes of elements, one in front of others

pub resolves_none : (D : Definitions) (p : ℕ) (X : Shape) → ResolvesRun D p [] 0 X no_value
resolves_none D p X = record { reads = λ s bytes k stands. reads_none; clean = λ s bytes k stands. clean_none }

pub resolves_element : (D : Definitions) (X : Shape) (L : Layout) → HasLayout D X L → (p q : ℕ) (a rest : List ℕ) (n : ℕ) (v : Value) (vs : Values)
    → Resolves D p a X v → length a ≡ L.size → q ≡ p + L.size → ResolvesRun D q rest n X vs → ResolvesRun D p (a ++ rest) (suc n) X (value v vs)
resolves_element D X L layout p q a rest n v vs h sized next i =
    let at : q ≡ p + length a = next ∙ ap (λ z. p + z) (sym sized) in
    let here : (s : SchemaTable) → Knows s D → q ≡ p + size_of s.layouts X = λ s k. next ∙ ap (λ z. p + z) (sym (size_is layout s k)) in
    record {
      reads = λ s bytes k stands. reads_element (h.reads s bytes k (stands_front bytes p a rest stands)) (rw (← here s k) (i.reads s bytes k (stands_back bytes p q a rest at stands)));
      clean = λ s bytes k stands. clean_element (h.clean s bytes k (stands_front bytes p a rest stands)) (rw (← here s k) (i.clean s bytes k (stands_back bytes p q a rest at stands)));
    }

pub resolves_list : (D : Definitions) (X : Shape) (p : ℕ) (a : List ℕ) (n : ℕ) (vs : Values) → ResolvesRun D p a n X vs → Resolves D p a (array n X) (list vs)
resolves_list D X p a n vs h = record { reads = λ s bytes k stands. reads_array (h.reads s bytes k stands); clean = λ s bytes k stands. clean_array (h.clean s bytes k stands) }

pub list_hindered : (D : Definitions) (X : Shape) (n : ℕ) (vs : Values) (p : ℕ) (e : Error) → HindersEachAt D X n vs p e → HindersAt D (array n X) (list vs) p e
list_hindered D X n vs p e h = record { named = h.named; cause = λ s k. (let z = h.cause s k in (z.0, z.1, z.2, part_of_array z.3, z.4)) }

-- A loop that resolves each where it lies, at q behind p: whatever resolves those that are left has resolved all, and where they are hindered, all are.
pub record Fills {A R : Type 0} (D : Definitions) (X : Shape) (f : A → R → Value) (b : A → R → Type 0) (p q n : ℕ) (all : Values) (done : List ℕ) (rest : List A) (left : List R) : Type 0 where
  pub done_all : (a : List ℕ) → ResolvesRun D q a (length rest) X (each_flat f rest left) → ResolvesRun D p (done ++ a) n X all
  pub hindered : (e : Error) → HindersEachAt D X (length rest) (each_flat f rest left) q e → HindersEachAt D X n all p e
  pub belongs : EachBelongs b rest left

module _ {A R : Type 0} (D : Definitions) (X : Shape) (L : Layout) (layout : HasLayout D X L) (f : A → R → Value) (b : A → R → Type 0) (p : ℕ) where
  pub fills_start : (q : ℕ) (all : List A) (rs left : List R) → q ≡ p → left ≡ rs → EachBelongs b all rs → Fills D X f b p q (length all) (each_flat f all rs) [] all left
  fills_start q all rs left here these same = rw (here, these) (record { done_all = λ a h. h; hindered = λ e h. h; belongs = same })

  module _ (q n : ℕ) (all : Values) (done : List ℕ) (rest others : List A) (left later : List R) (x : A) (r : R) (first : rest ≡ x ∷ others) (its : left ≡ r ∷ later) where
    pub fills_more : (next : ℕ) (a both : List ℕ) → next ≡ q + L.size → both ≡ done ++ a → length a ≡ L.size → Resolves D q a X (f x r) → Fills D X f b p q n all done rest left
        → Fills D X f b p next n all both others later
    fills_more next a both there grown sized step h =
        let c : Fills D X f b p q n all done (x ∷ others) (r ∷ later) = rw (first, its) at h in
        rw grown (record {
          done_all = λ i k. rw (append_assoc done a i) (c.done_all (a ++ i) (resolves_element D X L layout q next a i (length others) (f x r) (each_flat f others later) step sized there k));
          hindered = λ e k. c.hindered e (later_hindered_at D X (length others) (f x r) (each_flat f others later) q e L layout (subst (λ t. HindersEachAt D X (length others) (each_flat f others later) t e) there k));
          belongs = c.belongs.1;
        })

    pub fills_broken : (e : Error) → HindersAt D X (f x r) q e → Fills D X f b p q n all done rest left → HindersEachAt D X n all p e
    fills_broken e k h =
        let c : Fills D X f b p q n all done (x ∷ others) (r ∷ later) = rw (first, its) at h in
        c.hindered e (first_hindered_at D X (length others) (f x r) (each_flat f others later) q e k)

  -- no resolver is left, and so no value
  pub fills_end : (q n : ℕ) (all : Values) (done whole : List ℕ) (rest : List A) (left : List R) → length left ≡ 0 → (length rest ≡ 0 → done ≡ whole) → Fills D X f b p q n all done rest left → ResolvesRun D p whole n X all
  fills_end q n all done whole [] left none is h = subst (λ z. ResolvesRun D p z n X all) (append-nil done ∙ is refl) (h.done_all [] (resolves_none D q X))
  fills_end q n all done whole (x ∷ xs) [] none is h = absurd h.belongs
  fills_end q n all done whole (x ∷ xs) (r ∷ rs) none is h = absurd (omega (arith, none))

-- the bytes that are left

pub zeroed_behind : (k : ℕ) (a : List ℕ) → IsZeroed a → IsZeroed (drop k a)
zeroed_behind k a z = record { zero_at = λ i below. get_or-drop k a i 0 ∙ z.zero_at (k + i) (omega (arith, below, length-drop k a)) }

module _ {A : Type 0} (begin size len : ℕ) (rest others : List A) (x : A) (first : rest ≡ x ∷ others) (left : begin + length rest * size ≡ len) where
  pub left_behind : begin + size + length others * size ≡ len
  left_behind = let many : suc (length others) * size ≡ length others * size + size = suc-mul (length others) size in let c : begin + suc (length others) * size ≡ len = rw first at left in omega (arith, c, many)

  pub its_size : (w p : ℕ) → w ≡ min size 18446744073709551615 → p + len < 2 ^ 64 → w ≡ size
  its_size w p least ends = omega (arith, least, ends, left_behind)

pub none_left : (begin n size len : ℕ) → begin + n * size ≡ len → n ≡ 0 → len ≤ begin
none_left begin zero size len h e = omega (arith, h)
none_left begin (suc n) size len h e = absurd (omega (arith, e))

pub fresh_element : (size w begin p : ℕ) (bytes : List ℕ) → w ≡ size → begin + size ≤ length bytes → IsZeroed (drop begin bytes) → p + length bytes < 2 ^ 64 → ZeroedPlace size (p + begin) (take (begin + w - begin) (drop begin bytes))
fresh_element size w begin p bytes same fits z ends =
    let k : begin + w - begin ≡ size = omega (arith, same) in
    let few : size ≤ length (drop begin bytes) = omega (arith, fits, length-drop begin bytes) in
    rw k (record { sized = omega (arith, few, length-take size (drop begin bytes)); zeroed = zeroed_front size (drop begin bytes) few z; ends = omega (arith, fits, ends) })

-- in a contract's form

pub resolves_array : (D : Definitions) (X : Shape) (p : ℕ) (a : List ℕ) (m n : ℕ) (vs : Values) → m ≡ n → ResolvesRun D p a m X vs → Resolves D p a (array n X) (list vs)
resolves_array D X p a m n vs count h = resolves_list D X p a n vs (subst (λ c. ResolvesRun D p a c X vs) count h)

pub array_hindered : (D : Definitions) (X : Shape) (m n : ℕ) (vs : Values) (p : ℕ) (e : Error) → m ≡ n → HindersEachAt D X m vs p e → HindersAt D (array n X) (list vs) p e
array_hindered D X m n vs p e count h = list_hindered D X n vs p e (subst (λ c. HindersEachAt D X c vs p e) count h)
