-- Parts that are read back one after another: the whole is read back as all of them. The parts of a whole are given by index, with where each stands
-- and what it is; those of a run are its elements.
use Rattle.std.proofs.Common.{◌≡◌, ◌⊎◌, inl, inr, ⊎_elim, ℕ, zero, suc, ◌+◌, ◌*◌, ◌<◌, List, [], ◌∷◌, ◌++◌, length, Some, None, Contains, arith, refl, sym, ap, ◌∙◌, Bool}
use Rattle.std.proofs.lemmas.List.Elements.{Contains-append_cases}
use Rattle.archive_check.specs.Words.Elements.{IsAt}
use Rattle.archive_check.specs.Shape.{Shape, array, Pointee, one, run}
use Rattle.archive_check.specs.Layout.{Layout, size_of}
use Rattle.archive_check.specs.Value.{Pointer, Value, list, pointers, all_pointers, Values, no_value, value}
use Rattle.archive_check.specs.Reads.{SchemaTable, Reads, ReadsRun, reads_array, reads_none, reads_element}
use Rattle.archive_check.specs.Tour.{Contents, contents_one, contents_run}
use Rattle.archive_check.specs.Denotes.{Meaning, Naming, Fills, FillsAll, fills_list, fills_no_value, fills_value, Denotes}
use Rattle.archive_check.specs.Definitions.{Definitions, Knows, HasLayout}
use Rattle.archive_check.specs.Pooled.{Kept, EntryState, Entries}
use Rattle.archive_check.specs.Reached.{Reached}
use Rattle.archive_check.specs.Viewed.{Lies, Says}
use Rattle.archive_check.specs.Entries.{KeepsEntries, AreNamedByPosition, AreShared, AreRight, MeetsOpen, meets_open, meets_in_unique, meets_in_shared, IsMet, IsClosed, IsCyclic, ReadsBack, KeepsRead}
use Rattle.archive_check.proofs.Elements.{at_last}
use Rattle.archive_check.proofs.Tours.OpenPaths.{by_pointer, hits_meet, hits_later, meets_hit, hit_meets}
use Rattle.archive_check.proofs.Tours.ReadingUnique.{contents_one_value}
use Rattle.archive_check.proofs.Meanings.ReachedParts.{element_reached, run_reads, within_reached}
use Rattle.archive_check.specs.Within.{whole, in_array}
use Rattle.archive_check.proofs.Viewing.Viewed.{lies_reached, lies_reads, reached_lies}

-- an element before the last one, and its index
before : {A : Type 0} (xs : List A) (y x : A) (k : ℕ) → k < length xs → IsAt (xs ++ y ∷ []) k x → IsAt xs k x
before [] y x k below i = absurd (omega arith)
before (z ∷ xs) y x zero below i = record { below = omega arith; is = i.is }
before (z ∷ xs) y x (suc k) below i = let b = before xs y x k (omega arith) (record { below = omega (arith, i.below); is = i.is }) in record { below = omega (arith, b.below); is = b.is }

last_or_before : {A : Type 0} (xs : List A) (x : A) (k : ℕ) → k < length (xs ++ x ∷ []) → (k < length xs) ⊎ (k ≡ length xs)
last_or_before [] x zero below = inr refl
last_or_before [] x (suc k) below = absurd (omega arith)
last_or_before (z ∷ xs) x zero below = inl (omega arith)
last_or_before (z ∷ xs) x (suc k) below = ⊎_elim (λ h. inl (omega (arith, h))) (λ h. inr (omega (arith, h))) (last_or_before xs x k (omega (arith, below)))

-- a part lies wherever the whole does, in the same archive
pub record IsPart (D : Definitions) (bytes : List ℕ) (q : ℕ) (P : Pointee) (n p : ℕ) (Y : Shape) : Type 0 where
  pub reached : (s : SchemaTable) → Knows s D → (l : Lies s bytes q P n) → (w : Value) × Reached s bytes l.root l.shape p (one Y) 0 w

-- the first of its parts were read back, as these values
pub record ReadFirst {A : Type 0} (keeps : Bool) (D : Definitions) (bytes : List ℕ) (q : ℕ) (P : Pointee) (n : ℕ) (at : ℕ → ℕ) (Y : ℕ → Shape) (old new : Entries) (meaning : A → Value) (items : List A) (keys : List Naming) : Type 0 where
  pub kept : KeepsEntries old new
  pub says : AreNamedByPosition old → (k : ℕ) (x : A) → IsAt items k x → Says D bytes (at k) (one (Y k)) 0 (meaning x)
  pub shared : AreNamedByPosition old → (s : SchemaTable) (m : Meaning) → Knows s D → (l : Lies s bytes q P n) → Denotes s bytes l.root l.shape m
      → AreRight m.shared old → AreShared m.shared keys × AreRight m.shared new
  pub unmet : (s : SchemaTable) → Knows s D → Lies s bytes q P n → (k : ℕ) → k < length items → MeetsOpen s bytes old [] (at k) (one (Y k)) 0 → ⊥
  pub closed : (s : SchemaTable) → Knows s D → (l : Lies s bytes q P n) → (t : ℕ) (k : Kept) → old t ≡ None → new t ≡ Some (Some k) → IsClosed s bytes l.root l.shape old t
  pub once : KeepsRead keeps old new keys

module _ {A : Type 0} (D : Definitions) (bytes : List ℕ) (q : ℕ) (P : Pointee) (n : ℕ) (at : ℕ → ℕ) (Y : ℕ → Shape) (meaning : A → Value) where
  -- none was
  pub none_read : {keeps : Bool} (old : Entries) → ReadFirst keeps D bytes q P n at Y old old meaning [] []
  none_read old = record {
    kept = record { finished = λ t k h. h; pending = λ t. (λ h. h, λ h. h); named = λ h. h };
    says = λ named k x i. absurd (omega (arith, i.below));
    shared = λ named s m k l d right. (λ key c. absurd (omega (arith, c.1)), right);
    unmet = λ s k l j below m. absurd (omega arith);
    closed = λ s k l t x none some. absurd (let no : Some (Some x) ≡ None = sym some ∙ none in cc);
    once = λ on named complete. (λ key c. absurd (omega (arith, c.1)), complete);
  }

  module _ {keeps : Bool} (old mid new : Entries) (items : List A) (keys : List Naming) (h : ReadFirst keeps D bytes q P n at Y old mid meaning items keys)
      (x : A) (more : List Naming) (p : ℕ) (Z : Shape) (here : p ≡ at (length items)) (this : Z ≡ Y (length items)) (part : IsPart D bytes q P n p Z)
      (g : ReadsBack keeps D bytes p (one Z) 0 mid new (meaning x) more) where
    kept_all : KeepsEntries old new
    kept_all = record {
      finished = λ t k e. g.kept.finished t k (h.kept.finished t k e);
      pending = λ t. (λ e. (h.kept.pending t).0 ((g.kept.pending t).0 e), λ e. (g.kept.pending t).1 ((h.kept.pending t).1 e));
      named = λ e. g.kept.named (h.kept.named e);
    }

    says_all : AreNamedByPosition old → (k : ℕ) (y : A) → IsAt (items ++ x ∷ []) k y → Says D bytes (at k) (one (Y k)) 0 (meaning y)
    says_all named k y i = ⊎_elim
        (λ below. h.says named k y (before items x y k below i))
        (λ e. rw (e.0, e.1, ← here, ← this) (g.value (h.kept.named named)))
        (at_last items x y k i)

    shared_all : AreNamedByPosition old → (s : SchemaTable) (m : Meaning) → Knows s D → (l : Lies s bytes q P n) → Denotes s bytes l.root l.shape m → AreRight m.shared old → AreShared m.shared (keys ++ more) × AreRight m.shared new
    unfolding reached_lies
    shared_all named s m k l d right =
        let first = h.shared named s m k l d right in
        let (w, r) = part.reached s k l in
        let second = g.shared (h.kept.named named) s m k (reached_lies s bytes r) d first.1 in
        (λ key c. ⊎_elim (λ a. first.0 key a) (λ b. second.0 key b) (Contains-append_cases keys more key c), second.1)

    unmet_all : (s : SchemaTable) → Knows s D → Lies s bytes q P n → (k : ℕ) → k < length (items ++ x ∷ []) → MeetsOpen s bytes old [] (at k) (one (Y k)) 0 → ⊥
    unmet_all s kn l k below m = ⊎_elim
        (λ lt. h.unmet s kn l k lt m)
        (λ e. let (w, r) = part.reached s kn l in
        let met : MeetsOpen s bytes old [] p (one Z) 0 = rw (here, this, ← e) m in
        let b = by_pointer s bytes met in
        let same : b.value ≡ r.value = contents_one_value b.contents r.reads in
        let is : IsMet s bytes l.root l.shape b.pointer = record { at = p; pointee = one Z; length = 0; filled = w; reached = r; has = rw same at b.has } in
        g.unmet s kn (reached_lies s bytes r) (hits_meet s bytes (hits_later s bytes l.root l.shape old mid h.kept (h.closed s kn l) l.accepted is b.hits) b.contents b.has))
        (last_or_before items x k below)

    closed_all : (s : SchemaTable) → Knows s D → (l : Lies s bytes q P n) → (t : ℕ) (k : Kept) → old t ≡ None → new t ≡ Some (Some k) → IsClosed s bytes l.root l.shape old t
    unfolding reached_lies
    closed_all s kn l t k none some o f met e there m = by_state (mid t) refl
      where
        by_state : (b : EntryState) → mid t ≡ b → ⊥
        by_state None is =
            let (w, r) = part.reached s kn l in
            let hit = hits_later s bytes l.root l.shape old mid h.kept (h.closed s kn l) l.accepted met (meets_hit s bytes (f, e, there) none m) in
            g.closed s kn (reached_lies s bytes r) t k is some o f met e there (hit_meets s bytes (f, e, there) is hit)
        by_state (Some None) is = let no : Some None ≡ None = sym ((h.kept.pending t).0 is) ∙ none in cc
        by_state (Some (Some j)) is = h.closed s kn l t j none is o f met e there m

    once_all : KeepsRead keeps old new (keys ++ more)
    once_all on named complete =
        let first = h.once on named complete in
        let second = g.once on (h.kept.named named) first.1 in (
          λ key c. ⊎_elim
              (λ a. let (k, at, is) = first.0 key a in (k, g.kept.finished key.0 k at, is))
              (λ b. second.0 key b)
              (Contains-append_cases keys more key c),
          second.1,
        )

    -- one more
    pub one_more_read : ReadFirst keeps D bytes q P n at Y old new meaning (items ++ x ∷ []) (keys ++ more)
    one_more_read = record { kept = kept_all; says = says_all; shared = shared_all; unmet = unmet_all; closed = closed_all; once = once_all }

-- what is open was open before
pub met_before : {s : SchemaTable} {bytes : List ℕ} {old mid : Entries} {within : List ℕ} {q n : ℕ} {P : Pointee} → KeepsEntries old mid → MeetsOpen s bytes mid within q P n → MeetsOpen s bytes old within q P n
met_before kept (meets_open {t = t} c i e at o) = meets_open c i e at (⊎_elim (λ pending. inl ((kept.pending t).0 pending)) inr o)
met_before kept (meets_in_unique c i e at m) = meets_in_unique c i e at (met_before kept m)
met_before {old = old} kept (meets_in_shared {t = t} c i e at none m) = meets_in_shared c i e at (was_unknown (old t) refl) (met_before kept m)
  where
    was_unknown : (b : EntryState) → old t ≡ b → old t ≡ None
    was_unknown None is = is
    was_unknown (Some None) is = absurd (let no : Some None ≡ None = sym ((kept.pending t).1 is) ∙ none in cc)
    was_unknown (Some (Some k)) is = absurd (let no : Some (Some k) ≡ None = sym (kept.finished t k is) ∙ none in cc)

-- what the values mean
abbrev pub each : {A : Type 0} → (A → Value) → List A → Values
each meaning [] = no_value
each meaning (x ∷ xs) = value (meaning x) (each meaning xs)

-- elements of an X, of this size, one behind another from q on
module _ (D : Definitions) (bytes : List ℕ) (q : ℕ) (X : Shape) (L : Layout) (laid : HasLayout D X L) (z : ℕ) (size : z ≡ L.size) where
  its_size : (s : SchemaTable) → Knows s D → size_of s.layouts X ≡ z
  its_size s k = ap (λ l. l.size) (laid.solved s k) ∙ sym size

  -- each of them is what was said of it, from the element j on
  each_filled : {A : Type 0} (meaning : A → Value) (s : SchemaTable) → Knows s D → (items : List A) (j p m : ℕ) {vs : Values} → p ≡ q + j * z
      → ((k : ℕ) (x : A) (v : Value) (r : ℕ) → IsAt items k x → r ≡ q + (j + k) * z → Reads s bytes r X v → Fills s bytes v (meaning x))
      → length items ≡ m → ReadsRun s bytes p m X vs → FillsAll s bytes vs (each meaning items)
  each_filled meaning s kn [] j p m here says count reads_none = fills_no_value
  each_filled meaning s kn [] j p m here says count (reads_element r rs) = absurd (omega (arith, count))
  each_filled meaning s kn (x ∷ xs) j p m here says count reads_none = absurd (omega (arith, count))
  each_filled meaning s kn (x ∷ xs) j p m here says count (reads_element {n = i} {v = v} r rs) =
      let w = its_size s kn in
      fills_value (says 0 x v p (record { below = omega arith; is = refl }) (let first : q + (j + 0) * z ≡ q + j * z = omega arith in here ∙ sym first) r)
      (each_filled meaning s kn xs (suc j) (p + size_of s.layouts X) i (let next : q + suc j * z ≡ q + j * z + z = omega arith in omega (arith, here, w, next))
      (λ k y u o a e d. says (suc k) y u o (record { below = omega (arith, a.below); is = a.is }) (let same : q + (suc j + k) * z ≡ q + (j + suc k) * z = ap (λ c. q + c * z) (omega arith) in e ∙ same) d)
      (omega (arith, count)) rs)

  -- a pointer of theirs is one of an element
  from_element : {s : SchemaTable} (k0 : Knows s D) {m : ℕ} (p j : ℕ) {vs : Values} {o : Pointer} → p ≡ q + j * z → ReadsRun s bytes p m X vs → Contains (all_pointers vs) o
      → (k : ℕ) × (k < m) × (v : Value) × Reads s bytes (q + (j + k) * z) X v × Contains (pointers v) o
  from_element kn p j here reads_none c = absurd (omega (arith, c.1))
  from_element {s = s} kn p j {o = o} here (reads_element {v = v} {vs = vs} r rs) c =
      let w = its_size s kn in ⊎_elim
      (λ first. let at : q + (j + 0) * z ≡ p = (let e : q + (j + 0) * z ≡ q + j * z = omega arith in e ∙ sym here) in (0, omega arith, v, rw at r, first))
      (λ later.
      let (k, below, u, d, i) = from_element kn (p + size_of s.layouts X) (suc j) (let next : q + suc j * z ≡ q + j * z + z = omega arith in omega (arith, here, w, next)) rs later in
      let at : q + (j + suc k) * z ≡ q + (suc j + k) * z = ap (λ c. q + c * z) (omega arith) in (suc k, omega (arith, below), u, rw at d, i))
      (Contains-append_cases (pointers v) (all_pointers vs) o c)

  -- where they are what a part of the archive is
  module _ (P : Pointee) (n count : ℕ) (runs : (s : SchemaTable) (v : Value) → Contents s bytes q P n v → (vs : Values) × (v ≡ list vs) × ReadsRun s bytes q count X vs)
      (element : (k : ℕ) → k < count → IsPart D bytes q P n (q + k * z) X) where
    module _ {A : Type 0} {keeps : Bool} (old new : Entries) (meaning : A → Value) (items : List A) (keys : List Naming) (all : length items ≡ count) (h : ReadFirst keeps D bytes q P n (λ k. q + k * z) (λ k. X) old new meaning items keys) where
      says_elements : AreNamedByPosition old → Says D bytes q P n (list (each meaning items))
      unfolding reached_lies
      says_elements named = record {
        fills = λ s v kn l c.
            let (vs, is, rs) = runs s v c in
            rw is (fills_list (each_filled meaning s kn items 0 q count (omega arith)
            (λ k x u o a here d.
            let (w, r) = (element k (omega (arith, all, a.below))).reached s kn l in
            (h.says named k x a).fills s u kn (reached_lies s bytes r) (contents_one (let at : o ≡ q + k * z = here ∙ ap (λ c. q + c * z) (let e : 0 + k ≡ k = omega arith in e) in rw at at d)))
            all rs));
      }

      unmet_elements : (s : SchemaTable) → Knows s D → Lies s bytes q P n → MeetsOpen s bytes old [] q P n → ⊥
      unmet_elements s kn l m =
          let b = by_pointer s bytes m in
          let (vs, is, rs) = runs s b.value b.contents in
          let (k, below, u, d, i) = from_element kn q 0 (omega arith) rs (rw is at b.has) in
          let at : q + (0 + k) * z ≡ q + k * z = ap (λ c. q + c * z) (let e : 0 + k ≡ k = omega arith in e) in
          h.unmet s kn l k (omega (arith, all, below)) (hits_meet s bytes b.hits (contents_one (rw at at d)) i)

      -- all of them read back
      pub elements_read_back : ReadsBack keeps D bytes q P n old new (list (each meaning items)) keys
      elements_read_back = record { kept = h.kept; value = says_elements; shared = h.shared; unmet = unmet_elements; closed = h.closed; once = h.once }

    -- where one of them meets an open position they do
    pub element_cyclic : (old mid : Entries) (k : ℕ) → KeepsEntries old mid → k < count → IsCyclic D bytes mid (q + k * z) (one X) 0 → IsCyclic D bytes old q P n
    element_cyclic old mid k kept below c = record {
      meets = λ s kn l.
          let (w, r) = (element k below).reached s kn l in
          let b = by_pointer s bytes (met_before kept (c.meets s kn (reached_lies s bytes r))) in
          let (v, d) = lies_reads s bytes l in
          let (vs, is, rs) = runs s v d in
          let here : q + k * z ≡ q + k * size_of s.layouts X = ap (λ c. q + k * c) (sym (its_size s kn)) in
          let (u, e, sub) = run_reads s bytes k (q + k * z) here below rs in
          let same : b.value ≡ u = contents_one_value b.contents (contents_one e) in
          hits_meet s bytes b.hits d (rw is (sub b.pointer (rw same at b.has)));
    }

-- what is reached there is where the size says
at_size : {s : SchemaTable} {bytes : List ℕ} {root : ℕ} {Y X : Shape} (q k : ℕ) {a b : ℕ} → a ≡ b → (u : Value) × Reached s bytes root Y (q + k * a) (one X) 0 u → (u : Value) × Reached s bytes root Y (q + k * b) (one X) 0 u
at_size q k e r = rw (← e) r

-- the elements of a run, and those of an array
module _ (D : Definitions) (bytes : List ℕ) (q : ℕ) (X : Shape) (L : Layout) (laid : HasLayout D X L) (z : ℕ) (size : z ≡ L.size) where
  pub run_elements : (n : ℕ) (s : SchemaTable) (v : Value) → Contents s bytes q (run X) n v → (vs : Values) × (v ≡ list vs) × ReadsRun s bytes q n X vs
  run_elements n s v (contents_run {vs = vs} rs) = (vs, refl, rs)

  pub run_element : (n k : ℕ) → k < n → IsPart D bytes q (run X) n (q + k * z) X
  run_element n k below = record {
    reached = λ s kn l.
        at_size q k (its_size D bytes q X L laid z size s kn) (element_reached s bytes {k = k} (lies_reached s bytes l).1 below);
  }

  pub array_elements : (m n : ℕ) (s : SchemaTable) (v : Value) → Contents s bytes q (one (array m X)) n v → (vs : Values) × (v ≡ list vs) × ReadsRun s bytes q m X vs
  array_elements m n s v (contents_one (reads_array {vs = vs} rs)) = (vs, refl, rs)

  pub array_element : (m n k : ℕ) → k < m → IsPart D bytes q (one (array m X)) n (q + k * z) X
  array_element m n k below = record {
    reached = λ s kn l.
        at_size q k (its_size D bytes q X L laid z size s kn) (within_reached s bytes (lies_reached s bytes l).1 (in_array {k = k} whole below));
  }
