-- What is read back of a choice, from what is read back of the part behind its tag; and of a name, from its definition.
use Rattle.std.proofs.Common.{◌≡◌, inl, inr, ℕ, ◌+◌, List, [], slice_index, Some, None, Contains, refl, sym, ap, subst, Bool}
use Rattle.std.proofs.lemmas.List.{append-nil}
use Rattle.archive_check.specs.declared.format.error.Error.{Error}
use Rattle.archive_check.specs.Shape.{Name, Shape, choice, named, one, Variants, Parts, part, no_part, variant_at, definition}
use Rattle.archive_check.specs.Layout.{Layout, up, align_of}
use Rattle.archive_check.specs.Value.{Pointer, Value, case, Values, value, no_value, pointers}
use Rattle.archive_check.specs.Reads.{SchemaTable, ReadsParts, reads_part, reads_no_part, reads_choice, reads_named}
use Rattle.archive_check.specs.Tour.{Contents, contents_one}
use Rattle.archive_check.specs.Denotes.{Meaning, Naming, Fills, fills_case, fills_value, fills_no_value, Denotes}
use Rattle.archive_check.specs.Within.{IsPart, first_part, whole, in_choice, in_named}
use Rattle.archive_check.specs.Definitions.{Definitions, Knows, HasLayout}
use Rattle.archive_check.specs.Pooled.{Kept, Entries}
use Rattle.archive_check.specs.Viewed.{Lies, Says}
use Rattle.archive_check.specs.Reached.{Reached}
use Rattle.archive_check.specs.Entries.{AreNamedByPosition, AreShared, AreRight, MeetsOpen, meets_open, meets_in_unique, meets_in_shared, IsClosed, IsCyclic, ReadsBack, RefusesReading}
use Rattle.archive_check.proofs.Meanings.ReachedParts.{within_reached}
use Rattle.archive_check.proofs.Viewing.Viewed.{lies_reads, lies_reached, reached_lies}
use Rattle.archive_check.proofs.Tours.ReadingUnique.{contents_one_value}
use Rattle.archive_check.proofs.Reading.ReadBack.{read_back, bare}

-- the value of a variant with one part
pub record IsCase (s : SchemaTable) (bytes : List ℕ) (p tag : ℕ) (X : Shape) (v : Value) : Type 0 where
  pub part_value : Value
  pub is : v ≡ case tag (value part_value no_value)
  pub contents : Contents s bytes p (one X) 0 part_value

one_part : {s : SchemaTable} {bytes : List ℕ} {q tag : ℕ} {X : Shape} {vs : Values} → ReadsParts s bytes q 1 (part X no_part) vs → IsCase s bytes (q + up 1 (align_of s.layouts X)) tag X (case tag vs)
one_part (reads_part {v = v} r reads_no_part) = record { part_value = v; is = refl; contents = contents_one r }

same_parts : {s : SchemaTable} {bytes : List ℕ} {q tag : ℕ} {X : Shape} {ps : Parts} {vs : Values} → ps ≡ part X no_part → ReadsParts s bytes q 1 ps vs → IsCase s bytes (q + up 1 (align_of s.layouts X)) tag X (case tag vs)
same_parts e rs = one_part (rw e at rs)

pub case_contents : (s : SchemaTable) (bytes : List ℕ) (q n tag : ℕ) (name : Name) (variants : Variants) (X : Shape) (v : Value) → variant_at variants tag ≡ Some (part X no_part) → slice_index bytes q ≡ tag
    → Contents s bytes q (one (choice name variants)) n v → IsCase s bytes (q + up 1 (align_of s.layouts X)) tag X v
case_contents s bytes q n tag name variants X v is first (contents_one (reads_choice {ps = ps} {vs = vs} e rs)) =
    let same : ps ≡ part X no_part = (let here : variant_at variants tag ≡ Some ps = rw first at e in cc) in
    rw first (same_parts same rs)

module _ (D E : Definitions) (known : (s : SchemaTable) → Knows s D → Knows s E) (name : Name) (variants : Variants) (tag : ℕ) (X : Shape) (is : variant_at variants tag ≡ Some (part X no_part)) (L : Layout) (layout : HasLayout E X L)
    (bytes : List ℕ) (q n offset : ℕ) (there : offset ≡ up 1 L.align) (first : slice_index bytes q ≡ tag) where
  begins : (s : SchemaTable) → Knows s D → up 1 (align_of s.layouts X) ≡ offset
  begins s k = rw (ap (λ (l : Layout). l.align) (layout.solved s (known s k))) (sym there)

  contents_there : (s : SchemaTable) → Knows s D → (v : Value) → Contents s bytes q (one (choice name variants)) n v → IsCase s bytes (q + offset) tag X v
  contents_there s k v c = subst (λ o. IsCase s bytes (q + o) tag X v) (begins s k) (case_contents s bytes q n tag name variants X v is first c)

  part_reached : (s : SchemaTable) → Knows s D → (l : Lies s bytes q (one (choice name variants)) n) → (u : Value) × Reached s bytes l.root l.shape (q + offset) (one X) 0 u
  part_reached s k l =
      let (w, r) = lies_reached s bytes l in
      let e : variant_at variants (slice_index bytes q) ≡ Some (part X no_part) = rw first is in
      let i : IsPart s q 1 (part X no_part) (q + offset) X = subst (λ o. IsPart s q 1 (part X no_part) (q + o) X) (begins s k) first_part in
      within_reached s bytes r (in_choice whole e i)

  module _ {keeps : Bool} (old new : Entries) (w : Value) (keys : List Naming) (h : ReadsBack keeps E bytes (q + offset) (one X) 0 old new w keys) where
    fills_there : AreNamedByPosition old → (s : SchemaTable) (v : Value) → Knows s D → Lies s bytes q (one (choice name variants)) n → Contents s bytes q (one (choice name variants)) n v
        → Fills s bytes v (case tag (value w no_value))
    fills_there by s v k l c =
        let i = contents_there s k v c in
        let (u, r) = part_reached s k l in
        rw i.is (fills_case (fills_value ((h.value by).fills s i.part_value (known s k) (reached_lies s bytes r) i.contents) fills_no_value))

    shared_there : AreNamedByPosition old → (s : SchemaTable) (m : Meaning) → Knows s D → (l : Lies s bytes q (one (choice name variants)) n) → Denotes s bytes l.root l.shape m
        → AreRight m.shared old → AreShared m.shared keys × AreRight m.shared new
    unfolding reached_lies
    shared_there by s m k l d right = let (u, r) = part_reached s k l in h.shared by s m (known s k) (reached_lies s bytes r) d right

    closed_there : (s : SchemaTable) → Knows s D → (l : Lies s bytes q (one (choice name variants)) n) → (t : ℕ) (x : Kept) → old t ≡ None → new t ≡ Some (Some x) → IsClosed s bytes l.root l.shape old t
    unfolding reached_lies
    closed_there s k l t x none some = let (u, r) = part_reached s k l in h.closed s (known s k) (reached_lies s bytes r) t x none some

    -- a pointer of the whole is one of the part
    its_pointer : (s : SchemaTable) (v : Value) (p : Pointer) (i : IsCase s bytes (q + offset) tag X v) → Contains (pointers v) p → Contains (pointers i.part_value) p
    its_pointer s v p i c = rw (append-nil (pointers i.part_value)) at (rw i.is at c)

    meets_there : (s : SchemaTable) → Knows s D → MeetsOpen s bytes old [] q (one (choice name variants)) n → MeetsOpen s bytes old [] (q + offset) (one X) 0
    meets_there s k (meets_open {v = v} {p = p} c i e t o) = let x = contents_there s k v c in meets_open x.contents (its_pointer s v p x i) e t o
    meets_there s k (meets_in_unique {v = v} {p = p} c i e t m) = let x = contents_there s k v c in meets_in_unique x.contents (its_pointer s v p x i) e t m
    meets_there s k (meets_in_shared {v = v} {p = p} c i e t none m) = let x = contents_there s k v c in meets_in_shared x.contents (its_pointer s v p x i) e t none m

    pub case_read_back : ReadsBack keeps D bytes q (one (choice name variants)) n old new (case tag (value w no_value)) keys
    case_read_back = record {
      kept = h.kept;
      value = λ by. record { fills = fills_there by };
      shared = shared_there;
      unmet = λ s k l m. (let (u, r) = part_reached s k l in h.unmet s (known s k) (reached_lies s bytes r) (meets_there s k m));
      closed = closed_there;
      once = h.once;
    }

  -- an open position that is met behind the tag is met
  meets_around : (told : Entries) (s : SchemaTable) (v : Value) → Contents s bytes q (one (choice name variants)) n v → (i : IsCase s bytes (q + offset) tag X v) → (x : Value) → Contents s bytes (q + offset) (one X) 0 x
      → (p : Pointer) → Contains (pointers x) p → Contains (pointers v) p
  meets_around told s v c i x d p h =
      let same : x ≡ i.part_value = contents_one_value d i.contents in
      rw (i.is, append-nil (pointers i.part_value), ← same) h

  meets_back : (told : Entries) (s : SchemaTable) (v : Value) → Contents s bytes q (one (choice name variants)) n v → IsCase s bytes (q + offset) tag X v → MeetsOpen s bytes told [] (q + offset) (one X) 0
      → MeetsOpen s bytes told [] q (one (choice name variants)) n
  meets_back told s v c j (meets_open {v = x} {p = p} d i e t o) = meets_open c (meets_around told s v c j x d p i) e t o
  meets_back told s v c j (meets_in_unique {v = x} {p = p} d i e t m) = meets_in_unique c (meets_around told s v c j x d p i) e t m
  meets_back told s v c j (meets_in_shared {v = x} {p = p} d i e t none m) = meets_in_shared c (meets_around told s v c j x d p i) e t none m

  cyclic_there : (told : Entries) → IsCyclic E bytes told (q + offset) (one X) 0 → IsCyclic D bytes told q (one (choice name variants)) n
  cyclic_there told h = record {
    meets = λ s k l. (
        let (v, c) = lies_reads s bytes l in
        let (u, r) = part_reached s k l in
        meets_back told s v c (contents_there s k v c) (h.meets s (known s k) (reached_lies s bytes r)));
  }

  pub case_refuses : (told : Entries) (e : Error) → RefusesReading E bytes (q + offset) (one X) 0 told e → RefusesReading D bytes q (one (choice name variants)) n told e
  case_refuses told e (inl memory) = inl memory
  case_refuses told e (inr cyclic) = inr (cyclic.0, cyclic_there told cyclic.1)

-- a variant with no part

module _ (D : Definitions) (name : Name) (variants : Variants) (tag : ℕ) (is : variant_at variants tag ≡ Some no_part) (bytes : List ℕ) (q n : ℕ) (first : slice_index bytes q ≡ tag) where
  no_parts : {s : SchemaTable} {ps : Parts} {vs : Values} → ps ≡ no_part → ReadsParts s bytes q 1 ps vs → vs ≡ no_value
  no_parts e reads_no_part = refl
  no_parts e (reads_part r rs) = cc

  empty_contents : (s : SchemaTable) (v : Value) → Contents s bytes q (one (choice name variants)) n v → v ≡ case tag no_value
  empty_contents s v (contents_one (reads_choice {ps = ps} e rs)) =
      let same : ps ≡ no_part = (let here : variant_at variants tag ≡ Some ps = rw first at e in cc) in
      rw (first, no_parts same rs) refl

  pub empty_case_says : Says D bytes q (one (choice name variants)) n (case tag no_value)
  empty_case_says = record { fills = λ s v k l c. rw (empty_contents s v c) (fills_case fills_no_value) }

  pub empty_case_read_back : {keeps : Bool} (old new : Entries) → new ≡ old → ReadsBack keeps D bytes q (one (choice name variants)) n old new (case tag no_value) []
  empty_case_read_back old new same = read_back D bytes q n old new same (one (choice name variants)) (case tag no_value) empty_case_says
      (λ s. bare D bytes q n old new same s (one (choice name variants)) (λ v c. ap pointers (empty_contents s v c)))

-- a name, by its definition

module _ (D : Definitions) (name : Name) (X : Shape) (has : (s : SchemaTable) → Knows s D → definition s.table name ≡ Some X) (bytes : List ℕ) (q n : ℕ) where
  named_contents : (s : SchemaTable) → Knows s D → (v : Value) → Contents s bytes q (one X) 0 v → Contents s bytes q (one (named name)) n v
  named_contents s k v (contents_one r) = contents_one (reads_named (has s k) r)

  definition_reached : (s : SchemaTable) → Knows s D → (l : Lies s bytes q (one (named name)) n) → (u : Value) × Reached s bytes l.root l.shape q (one X) 0 u
  definition_reached s k l = let (w, r) = lies_reached s bytes l in within_reached s bytes r (in_named whole (has s k))

  meets_named : (told : Entries) (s : SchemaTable) → Knows s D → MeetsOpen s bytes told [] q (one X) 0 → MeetsOpen s bytes told [] q (one (named name)) n
  meets_named told s k (meets_open {v = v} c i e t o) = meets_open (named_contents s k v c) i e t o
  meets_named told s k (meets_in_unique {v = v} c i e t m) = meets_in_unique (named_contents s k v c) i e t m
  meets_named told s k (meets_in_shared {v = v} c i e t none m) = meets_in_shared (named_contents s k v c) i e t none m

  pub named_refuses : (told : Entries) (e : Error) → RefusesReading D bytes q (one X) 0 told e → RefusesReading D bytes q (one (named name)) n told e
  named_refuses told e (inl memory) = inl memory
  named_refuses told e (inr cyclic) =
      inr (cyclic.0, record { meets = λ s k l. (let (u, r) = definition_reached s k l in meets_named told s k (cyclic.1.meets s k (reached_lies s bytes r))) })
