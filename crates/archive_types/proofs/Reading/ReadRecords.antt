-- Parts that are read back one after another, and the records that have them: the whole is read back as all of them.
use Rattle.std.proofs.Common.{◌≡◌, inl, inr, ⊎_elim, ℕ, ◌+◌, ◌≤◌, List, [], ◌++◌, length, Some, None, Result, Ok, Err, IfOk, Contains, arith, refl, sym, ap, subst, ◌∙◌, Bool}
use Rattle.std.proofs.Math.Logic.{∥∥₁_elim, ∥∥₁_map}
use Rattle.std.specs.Coded.{le_prop}
use Rattle.std.proofs.lemmas.List.Elements.{Contains-append_left, Contains-append_right, Contains-append_cases}
use Rattle.archive_check.specs.declared.format.error.Error.{Error}
use Rattle.archive_check.specs.Shape.{Shape, parts, named, Pointee, one, Parts, no_part, part}
use Rattle.archive_check.specs.Layout.{Layout, up, size_of, align_of}
use Rattle.archive_check.specs.Value.{Pointer, Value, product, pointers, all_pointers, Values, no_value, value}
use Rattle.archive_check.specs.Reads.{SchemaTable, Reads, reads_parts, reads_named, ReadsParts, reads_no_part, reads_part}
use Rattle.archive_check.specs.Tour.{Contents, contents_one}
use Rattle.archive_check.specs.Denotes.{Meaning, Naming, Fills, fills_product, FillsAll, fills_no_value, fills_value, Denotes}
use Rattle.archive_check.specs.Definitions.{Definitions, both, Knows, HasLayout}
use Rattle.archive_check.specs.Members.PartsLayout.{StandsFor, for_itself, by_name, IsRecord, knows_left, knows_right}
use Rattle.archive_check.specs.Pooled.{Kept, EntryState, Entries}
use Rattle.archive_check.specs.Reached.{Reached}
use Rattle.archive_check.specs.Viewed.{Lies, Viewed}
use Rattle.archive_check.specs.Within.{IsPart, first_part, later_part, Within, whole, in_parts, in_named}
use Rattle.archive_check.specs.Entries.{KeepsEntries, AreNamedByPosition, AreShared, AreRight, MeetsOpen, IsMet, IsClosed, IsCyclic, ReadsBack, RefusesReading, KeepsRead}
use Rattle.archive_check.proofs.Tours.OpenPaths.{Hits, by_pointer, hits_meet, hits_later, meets_hit, hit_meets}
use Rattle.archive_check.proofs.Tours.ReadingUnique.{contents_one_value}
use Rattle.archive_check.proofs.Meanings.ReachedParts.{within_reached}
use Rattle.archive_check.proofs.Reading.ReadParts.{met_before}
use Rattle.archive_check.proofs.Viewing.Viewed.{lies_fits, lies_reads, lies_reached, reached_lies}
use Rattle.archive_types.specs.PartsReading.{PartsViewed, PartsReadBack, no_part_read_back, part_read_back, PartsCyclic, first_cyclic, later_cyclic, RefusesParts}
use Rattle.archive_types.proofs.Writing.Appending.{size_is, align_is}

pub keeps_itself : (told : Entries) → KeepsEntries told told
keeps_itself told = record { finished = λ t k h. h; pending = λ t. (λ h. h, λ h. h); named = λ h. h }

pub keeps_both : (old mid new : Entries) → KeepsEntries old mid → KeepsEntries mid new → KeepsEntries old new
keeps_both old mid new h g = record {
  finished = λ t k e. g.finished t k (h.finished t k e);
  pending = λ t. (λ e. (h.pending t).0 ((g.pending t).0 e), λ e. (g.pending t).1 ((h.pending t).1 e));
  named = λ e. g.named (h.named e);
}

-- where a part begins, and where those behind it are laid out from, as a schema has it
begins_there : (s : SchemaTable) (A E : Definitions) (X : Shape) (L : Layout) → HasLayout A X L → Knows s (both A E) → (at : ℕ) → up at (align_of s.layouts X) ≡ up at L.align
begins_there s A E X L laid k at = ap (up at) (align_is laid s (knows_left s A E k))

goes_there : (s : SchemaTable) (A E : Definitions) (X : Shape) (L : Layout) → HasLayout A X L → Knows s (both A E) → (at : ℕ) → up at (align_of s.layouts X) + size_of s.layouts X ≡ up at L.align + L.size
goes_there s A E X L laid k at = rw (begins_there s A E X L laid k at, size_is laid s (knows_left s A E k)) refl

-- parts of what lies at q
module _ (D : Definitions) (bytes : List ℕ) (q : ℕ) (P : Pointee) (n : ℕ) where
  pub record Tail (E : Definitions) (ps : Parts) (at : ℕ) : Type 0 where
    pub knows : (s : SchemaTable) → Knows s D → Knows s E
    pub reached : (s : SchemaTable) → Knows s D → (l : Lies s bytes q P n) → (r : ℕ) (Y : Shape) → IsPart s q at ps r Y → (u : Value) × Reached s bytes l.root l.shape r (one Y) 0 u

  module _ {A E : Definitions} {X : Shape} {ps : Parts} {L : Layout} {at : ℕ} (laid : HasLayout A X L) (t : Tail (both A E) (part X ps) at) where
    first_reached : (s : SchemaTable) → Knows s D → (l : Lies s bytes q P n) → (u : Value) × Reached s bytes l.root l.shape (q + up at L.align) (one X) 0 u
    first_reached s k l = subst (λ o. (u : Value) × Reached s bytes l.root l.shape (q + o) (one X) 0 u) (begins_there s A E X L laid (t.knows s k) at) (t.reached s k l _ X first_part)

    rest : Tail E ps (up at L.align + L.size)
    rest = record {
      knows = λ s k. knows_right s A E (t.knows s k);
      reached = λ s k l r Y i. t.reached s k l r Y (later_part (subst (λ o. IsPart s q o ps r Y) (sym (goes_there s A E X L laid (t.knows s k) at)) i));
    }

  -- these were read back, as these values
  pub record TailRead (keeps : Bool) (ps : Parts) (at : ℕ) (old new : Entries) (ws : Values) (keys : List Naming) : Type 0 where
    pub kept : KeepsEntries old new
    pub fills : AreNamedByPosition old → (s : SchemaTable) (vs : Values) → Knows s D → Lies s bytes q P n → ReadsParts s bytes q at ps vs → FillsAll s bytes vs ws
    pub shared : AreNamedByPosition old → (s : SchemaTable) (m : Meaning) → Knows s D → (l : Lies s bytes q P n) → Denotes s bytes l.root l.shape m
        → AreRight m.shared old → AreShared m.shared keys × AreRight m.shared new
    pub unmet : (s : SchemaTable) (vs : Values) → Knows s D → (l : Lies s bytes q P n) → ReadsParts s bytes q at ps vs
        → (p : Pointer) → Contains (all_pointers vs) p → IsMet s bytes l.root l.shape p → Hits s bytes old [] p → ⊥
    pub closed : (s : SchemaTable) → Knows s D → (l : Lies s bytes q P n) → (t : ℕ) (k : Kept) → old t ≡ None → new t ≡ Some (Some k) → IsClosed s bytes l.root l.shape old t
    pub once : KeepsRead keeps old new keys

  none_read : {keeps : Bool} (at : ℕ) (told : Entries) → TailRead keeps no_part at told told no_value []
  none_read at told = record {
    kept = keeps_itself told;
    fills = λ by s vs k l r. no_value_fills r;
    shared = λ by s m k l d right. (λ key c. absurd (omega (arith, c.1)), right);
    unmet = λ s vs k l r p c met hits. absurd (no_pointer r c);
    closed = λ s k l t x none some. absurd (let no : Some (Some x) ≡ None = sym some ∙ none in cc);
    once = λ on by complete. (λ key c. absurd (omega (arith, c.1)), complete);
  }
    where
      no_value_fills : {s : SchemaTable} {vs : Values} → ReadsParts s bytes q at no_part vs → FillsAll s bytes vs no_value
      no_value_fills reads_no_part = fills_no_value

      no_pointer : {s : SchemaTable} {vs : Values} {p : Pointer} → ReadsParts s bytes q at no_part vs → Contains (all_pointers vs) p → ⊥
      no_pointer reads_no_part c = omega (arith, c.1)

  -- one part, and then the others
  module _ {keeps : Bool} {A E : Definitions} {X : Shape} {ps : Parts} {L : Layout} {at : ℕ} (laid : HasLayout A X L) (t : Tail (both A E) (part X ps) at) (old mid new : Entries) (v : Value) (vs : Values) (ks ls : List Naming)
      (h : ReadsBack keeps A bytes (q + up at L.align) (one X) 0 old mid v ks) (g : TailRead keeps ps (up at L.align + L.size) mid new vs ls) where
    knows_first : (s : SchemaTable) → Knows s D → Knows s A
    knows_first s k = knows_left s A E (t.knows s k)

    read_first : (s : SchemaTable) → Knows s D → {u : Value} → Reads s bytes (q + up at (align_of s.layouts X)) X u → Reads s bytes (q + up at L.align) X u
    read_first s k {u = u} r = subst (λ o. Reads s bytes (q + o) X u) (begins_there s A E X L laid (t.knows s k) at) r

    read_rest : (s : SchemaTable) → Knows s D → {us : Values} → ReadsParts s bytes q (up at (align_of s.layouts X) + size_of s.layouts X) ps us → ReadsParts s bytes q (up at L.align + L.size) ps us
    read_rest s k {us = us} r = subst (λ o. ReadsParts s bytes q o ps us) (goes_there s A E X L laid (t.knows s k) at) r

    fills_both : AreNamedByPosition old → (s : SchemaTable) (us : Values) → Knows s D → Lies s bytes q P n → ReadsParts s bytes q at (part X ps) us → FillsAll s bytes us (value v vs)
    fills_both by s us k l (reads_part {v = u} {vs = rs} r others) =
        let (w, i) = first_reached laid t s k l in
        fills_value ((h.value by).fills s u (knows_first s k) (reached_lies s bytes i) (contents_one (read_first s k r))) (g.fills (h.kept.named by) s rs k l (read_rest s k others))

    shared_both : AreNamedByPosition old → (s : SchemaTable) (m : Meaning) → Knows s D → (l : Lies s bytes q P n) → Denotes s bytes l.root l.shape m → AreRight m.shared old → AreShared m.shared (ks ++ ls) × AreRight m.shared new
    unfolding reached_lies
    shared_both by s m k l d right =
        let (w, i) = first_reached laid t s k l in
        let first = h.shared by s m (knows_first s k) (reached_lies s bytes i) d right in
        let second = g.shared (h.kept.named by) s m k l d first.1 in
        (λ key c. ⊎_elim (λ a. first.0 key a) (λ b. second.0 key b) (Contains-append_cases ks ls key c), second.1)

    closed_first : (s : SchemaTable) → Knows s D → (l : Lies s bytes q P n) → (o : ℕ) (x : Kept) → old o ≡ None → mid o ≡ Some (Some x) → IsClosed s bytes l.root l.shape old o
    unfolding reached_lies
    closed_first s k l o x none some = let (w, i) = first_reached laid t s k l in h.closed s (knows_first s k) (reached_lies s bytes i) o x none some

    unmet_both : (s : SchemaTable) (us : Values) → Knows s D → (l : Lies s bytes q P n) → ReadsParts s bytes q at (part X ps) us → (p : Pointer) → Contains (all_pointers us) p → IsMet s bytes l.root l.shape p → Hits s bytes old [] p → ⊥
    unmet_both s us k l (reads_part {v = u} {vs = rs} r others) p c met hits = ⊎_elim
        (λ a. let (w, i) = first_reached laid t s k l in h.unmet s (knows_first s k) (reached_lies s bytes i) (hits_meet s bytes hits (contents_one (read_first s k r)) a))
        (λ b. g.unmet s rs k l (read_rest s k others) p b met (hits_later s bytes l.root l.shape old mid h.kept (closed_first s k l) l.accepted met hits))
        (Contains-append_cases (pointers u) (all_pointers rs) p c)

    closed_both : (s : SchemaTable) → Knows s D → (l : Lies s bytes q P n) → (o : ℕ) (x : Kept) → old o ≡ None → new o ≡ Some (Some x) → IsClosed s bytes l.root l.shape old o
    closed_both s k l o x none some p f met e there m = by_state (mid o) refl
      where
        by_state : (b : EntryState) → mid o ≡ b → ⊥
        by_state None is =
            let hit = hits_later s bytes l.root l.shape old mid h.kept (closed_first s k l) l.accepted met (meets_hit s bytes (f, e, there) none m) in
            g.closed s k l o x is some p f met e there (hit_meets s bytes (f, e, there) is hit)
        by_state (Some None) is = let no : Some None ≡ None = sym ((h.kept.pending o).0 is) ∙ none in cc
        by_state (Some (Some j)) is = closed_first s k l o j none is p f met e there m

    once_both : KeepsRead keeps old new (ks ++ ls)
    once_both on by complete =
        let first = h.once on by complete in
        let second = g.once on (h.kept.named by) first.1 in (
          λ key c. ⊎_elim
              (λ a. let (k, at', is) = first.0 key a in (k, g.kept.finished key.0 k at', is))
              (λ b. second.0 key b)
              (Contains-append_cases ks ls key c),
          second.1,
        )

    both_read : TailRead keeps (part X ps) at old new (value v vs) (ks ++ ls)
    both_read = record { kept = keeps_both old mid new h.kept g.kept; fills = fills_both; shared = shared_both; unmet = unmet_both; closed = closed_both; once = once_both }

  pub tail_read : {keeps : Bool} {E : Definitions} {ps : Parts} {at : ℕ} {old new : Entries} {vs : Values} {keys : List Naming} → Tail E ps at → PartsReadBack keeps bytes q E ps at old new vs keys → TailRead keeps ps at old new vs keys
  tail_read {at = at} {old = old} t no_part_read_back = none_read at old
  tail_read t (part_read_back {old = old} {mid = mid} {new = new} {v = v} {vs = vs} {ks = ks} {ls = ls} laid h r) = both_read laid t old mid new v vs ks ls h (tail_read (rest laid t) r)

  -- a pointer of theirs meets an open position
  pub record TailMeets (s : SchemaTable) (vs : Values) (told : Entries) : Type 0 where
    pub pointer : Pointer
    pub has : Contains (all_pointers vs) pointer
    pub hits : Hits s bytes told [] pointer

  pub tail_meets : {E : Definitions} {ps : Parts} {at : ℕ} {mid : Entries} (old : Entries) → KeepsEntries old mid → Tail E ps at → PartsCyclic bytes q E ps at mid
      → (s : SchemaTable) (vs : Values) → Knows s D → Lies s bytes q P n → ReadsParts s bytes q at ps vs → TailMeets s vs old
  tail_meets old kept t (first_cyclic {D = A} {E = E} {X = X} {L = L} {at = at} laid c) s us k l (reads_part {v = u} {vs = rs} r others) =
      let (w, i) = first_reached laid t s k l in
      let b = by_pointer s bytes (met_before kept (c.meets s (knows_left s A E (t.knows s k)) (reached_lies s bytes i))) in
      let here : Reads s bytes (q + up at L.align) X u = subst (λ o. Reads s bytes (q + o) X u) (begins_there s A E X L laid (t.knows s k) at) r in
      let same : b.value ≡ u = contents_one_value b.contents (contents_one here) in
      record { pointer = b.pointer; has = Contains-append_left (pointers u) (all_pointers rs) b.pointer (rw same at b.has); hits = b.hits }
  tail_meets old kept t (later_cyclic {D = A} {E = E} {X = X} {ps = ps} {L = L} {at = at} {old = told} {mid = mid} laid more c) s us k l (reads_part {v = u} {vs = rs} r others) =
      let there : ReadsParts s bytes q (up at L.align + L.size) ps rs = subst (λ o. ReadsParts s bytes q o ps rs) (goes_there s A E X L laid (t.knows s k) at) others in
      let m = tail_meets old (keeps_both old told mid kept more) (rest laid t) c s rs k l there in
      record { pointer = m.pointer; has = Contains-append_right (pointers u) (all_pointers rs) m.pointer m.has; hits = m.hits }

-- what is read of a record
pub record IsProduct (s : SchemaTable) (bytes : List ℕ) (q : ℕ) (ps : Parts) (v : Value) : Type 0 where
  pub values : Values
  pub is : v ≡ product values
  pub reads : ReadsParts s bytes q 0 ps values

product_reads : {s : SchemaTable} {bytes : List ℕ} {q : ℕ} {ps : Parts} {v : Value} → Reads s bytes q (parts ps) v → IsProduct s bytes q ps v
product_reads (reads_parts {vs = vs} rs) = record { values = vs; is = refl; reads = rs }

record_reads : {s : SchemaTable} {bytes : List ℕ} {q : ℕ} {ps : Parts} {X : Shape} {v : Value} → StandsFor s (parts ps) X → Reads s bytes q X v → IsProduct s bytes q ps v
record_reads for_itself r = product_reads r
record_reads {ps = ps} (by_name d) (reads_named {X = Y} e r) = let same : Y ≡ parts ps = cc in product_reads (rw same at r)

pub record_contents : {s : SchemaTable} {bytes : List ℕ} {q n : ℕ} {ps : Parts} {X : Shape} {v : Value} → StandsFor s (parts ps) X → Contents s bytes q (one X) n v → IsProduct s bytes q ps v
record_contents st (contents_one r) = record_reads st r

pub record_within : {s : SchemaTable} {bytes : List ℕ} {q r : ℕ} {ps : Parts} {X Y : Shape} → StandsFor s (parts ps) X → IsPart s q 0 ps r Y → Within s bytes q X r Y
record_within for_itself i = in_parts whole i
record_within (by_name d) i = in_parts (in_named whole d) i

has_product : {v : Value} {vs : Values} {p : Pointer} → v ≡ product vs → Contains (all_pointers vs) p → Contains (pointers v) p
has_product {p = p} is c = subst (λ v. Contains (pointers v) p) (sym is) c

module _ (D : Definitions) (X : Shape) (E : Definitions) (ps : Parts) (is : IsRecord D X E ps) (bytes : List ℕ) (q n : ℕ) where
  whole_tail : Tail D bytes q (one X) n E ps 0
  whole_tail = record {
    knows = is.known;
    reached = λ s k l r Y i. (let (w, h) = lies_reached s bytes l in within_reached s bytes h (record_within (is.stands s k) i));
  }

  -- its parts are viewed
  pub parts_viewed : Viewed D bytes q (one X) n → PartsViewed E bytes q 0 ps
  parts_viewed v = ∥∥₁_map v (λ (s, k, l). (s, is.known s k, λ r Y i. (let (u, h) = whole_tail.reached s k l r Y i in reached_lies s bytes h)))

  module _ {keeps : Bool} (old new : Entries) (vs : Values) (keys : List Naming) (h : PartsReadBack keeps bytes q E ps 0 old new vs keys) where
    all_read : TailRead D bytes q (one X) n keeps ps 0 old new vs keys
    all_read = tail_read D bytes q (one X) n whole_tail h

    fills_record : AreNamedByPosition old → (s : SchemaTable) (v : Value) → Knows s D → Lies s bytes q (one X) n → Contents s bytes q (one X) n v → Fills s bytes v (product vs)
    fills_record by s v k l c = let p = record_contents (is.stands s k) c in rw p.is (fills_product (all_read.fills by s p.values k l p.reads))

    unmet_record : (s : SchemaTable) → Knows s D → (l : Lies s bytes q (one X) n) → MeetsOpen s bytes old [] q (one X) n → ⊥
    unmet_record s k l m =
        let b = by_pointer s bytes m in
        let p = record_contents (is.stands s k) b.contents in
        let (w, r) = lies_reached s bytes l in
        let same : b.value ≡ r.value = contents_one_value b.contents r.reads in
        all_read.unmet s p.values k l p.reads b.pointer (rw p.is at b.has) (record { at = q; pointee = one X; length = n; filled = w; reached = r; has = rw same at b.has }) b.hits

    pub record_read_back : ReadsBack keeps D bytes q (one X) n old new (product vs) keys
    record_read_back = record {
      kept = all_read.kept;
      value = λ by. record { fills = fills_record by };
      shared = all_read.shared;
      unmet = unmet_record;
      closed = all_read.closed;
      once = all_read.once;
    }

  -- in a contract's form
  pub record_read : (keeps : Bool) {T : Type 0} (old new : Entries) (meanings : T → Values) (keys : T → List Naming) (r : Result T Error) → IfOk r (λ t. PartsReadBack keeps bytes q E ps 0 old new (meanings t) (keys t))
      → IfOk r (λ t. ReadsBack keeps D bytes q (one X) n old new (product (meanings t)) (keys t))
  record_read keeps old new meanings keys (Ok t) h = record_read_back old new (meanings t) (keys t) h
  record_read keeps old new meanings keys (Err e) h = tt

  pub record_refuses : (told : Entries) (e : Error) → RefusesParts E bytes q ps 0 told e → RefusesReading D bytes q (one X) n told e
  record_refuses told e (inl memory) = inl memory
  record_refuses told e (inr cyclic) = inr (
    cyclic.0,
    record {
      meets = λ s k l. (
          let (v, c) = lies_reads s bytes l in
          let p = record_contents (is.stands s k) c in
          let m = tail_meets D bytes q (one X) n told (keeps_itself told) whole_tail cyclic.1 s p.values k l p.reads in
          hits_meet s bytes m.hits c (has_product p.is m.has));
    },
  )

-- one part, and others behind it, as they are viewed
module _ (D E : Definitions) (X : Shape) (L : Layout) (laid : HasLayout D X L) (ps : Parts) (bytes : List ℕ) (q at : ℕ) (v : PartsViewed (both D E) bytes q at (part X ps)) where
  first_lies : (s : SchemaTable) → Knows s (both D E) → ((r : ℕ) (Y : Shape) → IsPart s q at (part X ps) r Y → Lies s bytes r (one Y) 0) → Lies s bytes (q + up at L.align) (one X) 0
  first_lies s k all = subst (λ o. Lies s bytes (q + o) (one X) 0) (begins_there s D E X L laid k at) (all _ X first_part)

  pub first_viewed : Viewed D bytes (q + up at L.align) (one X) 0
  first_viewed = ∥∥₁_map v (λ (s, k, all). (s, knows_left s D E k, first_lies s k all))

  pub rest_viewed : PartsViewed E bytes q (up at L.align + L.size) ps
  rest_viewed = ∥∥₁_map v (λ (s, k, all). (s, knows_right s D E k, λ r Y i. all r Y (later_part (subst (λ o. IsPart s q o ps r Y) (sym (goes_there s D E X L laid k at)) i))))

  pub first_within : q + up at L.align + L.size ≤ length bytes
  first_within = ∥∥₁_elim v le_prop (λ (s, k, all). let h = lies_fits s bytes k.laid_out (first_lies s k all) in rw (size_is laid s (knows_left s D E k)) at h)

-- why they aren't read
module _ (D E : Definitions) (X : Shape) (L : Layout) (laid : HasLayout D X L) (ps : Parts) (bytes : List ℕ) (q at : ℕ) (told : Entries) (e : Error) where
  pub first_refuses : RefusesReading D bytes (q + up at L.align) (one X) 0 told e → RefusesParts (both D E) bytes q (part X ps) at told e
  first_refuses (inl memory) = inl memory
  first_refuses (inr c) = inr (c.0, first_cyclic laid c.1)

  pub later_refuses : (mid : Entries) → KeepsEntries told mid → RefusesParts E bytes q ps (up at L.align + L.size) mid e → RefusesParts (both D E) bytes q (part X ps) at told e
  later_refuses mid kept (inl memory) = inl memory
  later_refuses mid kept (inr c) = inr (c.0, later_cyclic laid kept c.1)
