-- What a shared pointer leads to is read back by a deserializer that keeps it: pending while it is read, finished with its value and keys afterwards.
use Rattle.std.proofs.Common.{◌≡◌, ◌≢◌, ◌⊎◌, inl, inr, ⊎_elim, ℕ, pos, List, [], ◌∷◌, Some, None, Contains, arith, refl, sym, ap, ◌∙◌, Bool, true, false}
use Rattle.std.proofs.lemmas.Bool.{cases_eq}
use Rattle.archive_check.specs.Shape.{Flavor, Shape, Pointee, shared, weak, one}
use Rattle.archive_check.specs.Value.{Pointer, Value, shared_value, hole, pointers}
use Rattle.archive_check.specs.Reads.{SchemaTable, i32_at, pointer_at, reads_shared, reads_weak, reads_null}
use Rattle.archive_check.specs.Tour.{Entry, Contents, contents_one}
use Rattle.archive_check.specs.Denotes.{Meaning, Naming, Denotes, fills_shared}
use Rattle.archive_check.specs.Definitions.{Definitions, Knows}
use Rattle.archive_check.specs.Pooled.{Kept, Entries}
use Rattle.archive_check.specs.Viewed.{Lies}
use Rattle.archive_check.specs.Reached.{Reached}
use Rattle.archive_check.specs.Entries.{NoEntries, Shares, IsMet, AreNamedByPosition, AreShared, AreRight, IsOpen, MeetsOpen, meets_open, meets_in_unique, meets_in_shared, IsCyclic, IsClosed, ReadsBack, AreKept, IsComplete, KeepsRead}
use Rattle.archive_check.proofs.Elements.{contains_cases, contains_first, contains_later}
use Rattle.archive_check.proofs.Tours.ReadingUnique.{contents_one_value, pos_one}
use Rattle.archive_check.proofs.Meanings.ReachedParts.{pointer_reached}
use Rattle.archive_check.proofs.Tours.Seen.{same_some}
use Rattle.archive_check.proofs.Meanings.SharedKnown.{shared_known, shared_agree}
use Rattle.archive_check.proofs.Viewing.Viewed.{lies_reached, lies_reads, reached_lies}

same_kept : {a b : Kept} → Some (Some a) ≡ Some (Some b) → a ≡ b
same_kept e = same_some (same_some e)

module _ (s : SchemaTable) (bytes : List ℕ) (old started : Entries) (t : ℕ) (here : started t ≡ Some None) (others : (u : ℕ) → (u ≡ t → ⊥) → started u ≡ old u) where
  -- what is open stays so where t is pending
  moved : {within outside : List ℕ} {q n : ℕ} {P : Pointee} → MeetsOpen s bytes old within q P n → ((u : ℕ) → IsOpen old within u → IsOpen started outside u) → MeetsOpen s bytes started outside q P n
  moved (meets_open {t = u} c i e at o) more = meets_open c i e at (more u o)
  moved (meets_in_unique c i e at m) more = meets_in_unique c i e at (moved m more)
  moved {outside = outside} (meets_in_shared {within = within} {t = u} c i e at none m) more = elim (cases_eq u t) [
    | inl eq ↦ meets_open c i e at (inl (rw eq here))
    | inr n ↦ meets_in_shared c i e at (others u n ∙ none) (moved m (λ r o. ⊎_elim
        (λ pending. ⊎_elim inl (λ c. inr (contains_later u outside r c)) (more r (inl pending)))
        (λ c. ⊎_elim (λ eq. inr (rw (← eq) (contains_first outside u))) (λ d. ⊎_elim inl (λ c. inr (contains_later u outside r c)) (more r (inr d))) (contains_cases u within r c)) o))
  ]

-- what a shared pointer, or a weak one that isn't null, has in its place

pub shared_there : (bytes : List ℕ) (q n : ℕ) (flavor : Flavor) (P : Pointee) (s : SchemaTable) (v : Value) → Contents s bytes q (one (shared flavor P)) n v → v ≡ hole (pointer_at bytes q (Some flavor) P)
shared_there bytes q n flavor P s v (contents_one reads_shared) = refl

pub weak_there : (bytes : List ℕ) (q n : ℕ) (flavor : Flavor) (P : Pointee) → i32_at bytes q ≢ pos 1 → (s : SchemaTable) (v : Value) → Contents s bytes q (one (weak flavor P)) n v → v ≡ hole (pointer_at bytes q (Some flavor) P)
weak_there bytes q n flavor P far s v (contents_one (reads_null e)) = absurd (far e)
weak_there bytes q n flavor P far s v (contents_one (reads_weak e)) = refl

module _ (s : SchemaTable) (bytes : List ℕ) where
  -- what is open may be more
  wider : {told more : Entries} {within outside : List ℕ} {q n : ℕ} {P : Pointee} → MeetsOpen s bytes told within q P n → ((u : ℕ) → told u ≡ None → more u ≡ None) → ((u : ℕ) → IsOpen told within u → IsOpen more outside u)
      → MeetsOpen s bytes more outside q P n
  wider (meets_open {t = u} c i e at o) none f = meets_open c i e at (f u o)
  wider (meets_in_unique c i e at m) none f = meets_in_unique c i e at (wider m none f)
  wider {outside = outside} (meets_in_shared {within = within} {t = u} c i e at unknown m) none f = meets_in_shared c i e at (none u unknown) (wider m none (λ r o. ⊎_elim
      (λ pending. ⊎_elim inl (λ c. inr (contains_later u outside r c)) (f r (inl pending)))
      (λ c. ⊎_elim (λ eq. inr (rw (← eq) (contains_first outside u))) (λ d. ⊎_elim inl (λ c. inr (contains_later u outside r c)) (f r (inr d))) (contains_cases u within r c)) o))

  -- Where nothing is told, what leads from t to t is met anew, and leads there once more: t need not be open to begin with.
  module _ (root : ℕ) (Y : Shape) (t : ℕ) (Q : Pointee) (m : ℕ) (told more : Entries) (nothing : NoEntries told) (still : NoEntries more)
      (around : MeetsOpen s bytes told (t ∷ []) t Q m) (agree : (o : Pointer) (g : Flavor) → IsMet s bytes root Y o → o.sharing ≡ Some g → o.target ≡ pos t → (o.pointee ≡ Q) × (o.length ≡ m)) where
    within_t : (outside : List ℕ) → Contains outside t → (u : ℕ) → IsOpen told (t ∷ []) u → IsOpen more outside u
    within_t outside c u (inl pending) = let no : told u ≡ None = nothing u in cc
    within_t outside c u (inr d) = inr (⊎_elim (λ eq. rw (← eq) c) (λ e. absurd (omega (arith, e.1))) (contains_cases t [] u d))

    -- each that is open is so, or is t
    grows : (within outside : List ℕ) (u : ℕ) → ((r : ℕ) → Contains within r → Contains outside r ⊎ (r ≡ t)) → (r : ℕ) → Contains (u ∷ within) r → Contains (u ∷ outside) r ⊎ (r ≡ t)
    grows within outside u f r c = ⊎_elim (λ eq. inl (rw (← eq) (contains_first outside u))) (λ d. ⊎_elim (λ e. inl (contains_later u outside r e)) inr (f r d)) (contains_cases u within r c)

    turns : {within outside : List ℕ} {q n : ℕ} {P : Pointee} {w : Value} → MeetsOpen s bytes told within q P n → Reached s bytes root Y q P n w → ((r : ℕ) → Contains within r → Contains outside r ⊎ (r ≡ t))
        → MeetsOpen s bytes more outside q P n
    turns (meets_open {t = u} c i e at (inl pending)) h f = let no : told u ≡ None = nothing u in cc
    turns {outside = outside} {w = w} (meets_open {q = q} {n = n} {t = u} {P = P} {v = v} {p = p} {flavor = flavor} c i e at (inr o)) h f = elim (f u o) [
      | inl d ↦ meets_open c i e at (inr d)
      | inr eq ↦ (
          let same : v ≡ h.value = contents_one_value c h.reads in
          let met : IsMet s bytes root Y p = record { at = q; pointee = P; length = n; filled = w; reached = h; has = rw same at i } in
          let says = agree p flavor met e (rw eq at at) in
          meets_in_shared c i e at (still u) (rw (eq, says.0, says.1) (wider around (λ r x. still r) (within_t (t ∷ outside) (contains_first outside t))))
          )
    ]
    turns (meets_in_unique {t = u} {v = v} {p = p} c i e at inner) h f =
        let same : v ≡ h.value = contents_one_value c h.reads in
        let (x, there, y, reached) = pointer_reached s bytes h p (rw same at i) in
        let eq : x ≡ u = pos_one (sym there ∙ at) in
        meets_in_unique c i e at (turns inner (rw eq at reached) f)
    turns {outside = outside} (meets_in_shared {within = within} {t = u} {v = v} {p = p} c i e at unknown inner) h f =
        let same : v ≡ h.value = contents_one_value c h.reads in
        let (x, there, y, reached) = pointer_reached s bytes h p (rw same at i) in
        let eq : x ≡ u = pos_one (sym there ∙ at) in
        meets_in_shared c i e at (still u) (turns inner (rw eq at reached) (grows within outside u f))

module _ (s : SchemaTable) (bytes : List ℕ) (t : ℕ) (old started : Entries) where
  -- what is met while t is pending is met within it
  pub meets_within : {q n : ℕ} {P : Pointee} → old t ≡ None → ((u : ℕ) → (u ≡ t → ⊥) → started u ≡ old u) → MeetsOpen s bytes started [] q P n → MeetsOpen s bytes old (t ∷ []) q P n
  meets_within {q = q} {n = n} {P = P} unknown others m = wider s bytes m was_none opened
    where
      opened : (u : ℕ) → IsOpen started [] u → IsOpen old (t ∷ []) u
      opened u (inl pending) = elim (cases_eq u t) [
        | inl eq ↦ inr (rw eq (contains_first [] t))
        | inr d ↦ inl (sym (others u d) ∙ pending)
      ]
      opened u (inr c) = absurd (omega (arith, c.1))

      was_none : (u : ℕ) → started u ≡ None → old u ≡ None
      was_none u none = elim (cases_eq u t) [
        | inl eq ↦ rw eq unknown
        | inr d ↦ sym (others u d) ∙ none
      ]

  -- and so is what is met where nothing is kept
  pub meets_alone : {q n : ℕ} {P : Pointee} → NoEntries old → NoEntries started → MeetsOpen s bytes started [] q P n → MeetsOpen s bytes old (t ∷ []) q P n
  meets_alone nothing begun m = wider s bytes m (λ u e. nothing u)
      (λ u o. ⊎_elim (λ pending. let no : started u ≡ None = begun u in cc) (λ d. absurd (omega (arith, d.1))) o)

module _ (D : Definitions) (bytes : List ℕ) (q n t : ℕ) (flavor : Flavor) (P : Pointee) (there : (pointer_at bytes q (Some flavor) P).target ≡ pos t)
    (X : Shape) (is_hole : (s : SchemaTable) (v : Value) → Contents s bytes q (one X) n v → v ≡ hole (pointer_at bytes q (Some flavor) P)) where
  abbrev p : Pointer
  p = pointer_at bytes q (Some flavor) P

  the_pointer : (s : SchemaTable) (v : Value) (o : Pointer) → Contents s bytes q (one X) n v → Contains (pointers v) o → o ≡ p
  the_pointer s v o c i =
      let j : Contains (p ∷ []) o = rw (is_hole s v c) at i in
      ⊎_elim (λ e. sym e) (λ d. absurd (omega (arith, d.1))) (contains_cases p [] o j)

  has_pointer : (s : SchemaTable) (v : Value) → Contents s bytes q (one X) n v → Contains (pointers v) p
  has_pointer s v c = rw (is_hole s v c) (contains_first [] p)

  leads_there : (o : Pointer) (u : ℕ) → o ≡ p → o.target ≡ pos u → u ≡ t
  leads_there o u same at = pos_one (sym at ∙ ap (λ (z : Pointer). z.target) same ∙ there)

  target_reached : (s : SchemaTable) (l : Lies s bytes q (one X) n) → (x : Value) × Reached s bytes l.root l.shape t P p.length x
  target_reached s l =
      let (w, r) = lies_reached s bytes l in
      let (u, at, x, i) = pointer_reached s bytes r p (has_pointer s r.value r.reads) in
      let same : u ≡ t = pos_one (sym at ∙ there) in
      (x, rw same at i)

  -- what is read of its value, the archive's map has
  says_keys : {keeps : Bool} (old new : Entries) (own : Flavor) (w : Value) (keys : List Naming) → ReadsBack keeps D bytes t P p.length old new w keys → AreNamedByPosition old → (s : SchemaTable) (m : Meaning) → Knows s D → (l : Lies s bytes q (one X) n)
      → Denotes s bytes l.root l.shape m → AreRight m.shared old → Shares m.shared t (record { flavor = own; pointee = P; length = p.length }) w × AreShared m.shared keys × AreRight m.shared new
  unfolding reached_lies
  says_keys old new own w keys h named s m knows l d right =
      let (x, i) = target_reached s l in
      let under = reached_lies s bytes i in
      let inner = h.shared named s m knows under d right in
      let (v, c) = lies_reads s bytes l in
      let filled = (h.value named).fills s i.value knows under i.reads in
      let known = shared_known s bytes l d c (has_pointer s v c) refl there i.reads filled in
      (record { flavor = flavor; known = known }, inner.0, inner.1)

  -- one that was finished before is as it was kept
  module _ (old : Entries) (k : Kept) (known : old t ≡ Some (Some k)) where
    again_unmet : (s : SchemaTable) → MeetsOpen s bytes old [] q (one X) n → ⊥
    again_unmet s (meets_open {t = u} {v = v} {p = o} c i e at (inl pending)) = let is : u ≡ t = leads_there o u (the_pointer s v o c i) at in let no : old t ≡ Some None = rw is at pending in cc
    again_unmet s (meets_open c i e at (inr within)) = omega (arith, within.1)
    again_unmet s (meets_in_unique {v = v} {p = o} c i e at m) = let same = the_pointer s v o c i in cc
    again_unmet s (meets_in_shared {t = u} {v = v} {p = o} c i e at none m) = let is : u ≡ t = leads_there o u (the_pointer s v o c i) at in let no : old t ≡ None = rw is at none in cc

    pub again_read_back : {keeps : Bool} → ReadsBack keeps D bytes q (one X) n old old (shared_value k.name) ((k.name, (k.entry, k.value)) ∷ k.keys)
    again_read_back = record {
      kept = record { finished = λ u l h. h; pending = λ u. (λ h. h, λ h. h); named = λ h. h };
      value = λ named. record { fills = λ s v knows l c. rw (is_hole s v c, named t k known) (fills_shared refl there) };
      shared = λ named s m knows l d right. (
        λ x c. ⊎_elim (λ e. rw (← e) (rw (named t k known) ((right t k known).0))) (λ later. (right t k known).1 x later) (contains_cases (k.name, (k.entry, k.value)) k.keys x c),
        right,
      );
      unmet = λ s knows l m. again_unmet s m;
      closed = λ s knows l u x none some. absurd (let no : Some (Some x) ≡ None = sym some ∙ none in cc);
      once = λ on named complete. (
        λ x c. ⊎_elim
            (λ e. (k, ap old (ap (λ (z : Naming). z.0) (sym e) ∙ named t k known) ∙ known, ap (λ (z : Naming). z.1) (sym e)))
            (λ later. complete t k known x later)
            (contains_cases (k.name, (k.entry, k.value)) k.keys x c),
        complete,
      );
    }

  -- one that is pending is refused
  pub pending_cyclic : (old : Entries) → old t ≡ Some None → IsCyclic D bytes old q (one X) n
  pending_cyclic old pending = record { meets = λ s knows l. let (v, c) = lies_reads s bytes l in meets_open {t = t} {p = p} c (has_pointer s v c) refl there (inl pending) }

  -- and so is one whose value, read while it is pending, meets an open position
  pub inner_cyclic : (old started : Entries) → old t ≡ None → started t ≡ Some None → ((u : ℕ) → (u ≡ t → ⊥) → started u ≡ old u) → IsCyclic D bytes started t P p.length → IsCyclic D bytes old q (one X) n
  inner_cyclic old started unknown here others h = record {
    meets = λ s knows l. (
        let (v, c) = lies_reads s bytes l in
        let (x, r) = target_reached s l in
        meets_in_shared {t = t} {p = p} c (has_pointer s v c) refl there unknown (meets_within s bytes t old started unknown others (h.meets s knows (reached_lies s bytes r))));
  }

  -- a new one is read while it is pending, and finished
  module _ {keeps : Bool} (old started mid new : Entries) (own : Flavor) (w : Value) (keys : List Naming) (unknown : old t ≡ None) (here : started t ≡ Some None) (others : (u : ℕ) → (u ≡ t → ⊥) → started u ≡ old u)
      (h : ReadsBack keeps D bytes t P p.length started mid w keys)
      (done : new t ≡ Some (Some (record { name = t; entry = record { flavor = own; pointee = P; length = p.length }; value = w; keys = keys }))) (rest : (u : ℕ) → (u ≡ t → ⊥) → new u ≡ mid u) where
    abbrev e : Entry
    e = record { flavor = own; pointee = P; length = p.length }

    abbrev kept : Kept
    kept = record { name = t; entry = e; value = w; keys = keys }

    named_started : AreNamedByPosition old → AreNamedByPosition started
    named_started named u k is = elim (cases_eq u t) [
      | inl eq ↦ (let no : started t ≡ Some (Some k) = rw eq at is in cc)
      | inr n ↦ named u k (sym (others u n) ∙ is)
    ]

    right_started : (m : Meaning) → AreRight m.shared old → AreRight m.shared started
    right_started m right u k is = elim (cases_eq u t) [
      | inl eq ↦ (let no : started t ≡ Some (Some k) = rw eq at is in cc)
      | inr n ↦ right u k (sym (others u n) ∙ is)
    ]

    not_t : (u : ℕ) (k : Kept) → old u ≡ Some (Some k) → u ≡ t → ⊥
    not_t u k is eq = let no : old t ≡ Some (Some k) = rw eq at is in cc

    pending_there : (u : ℕ) → new u ≡ Some None → old u ≡ Some None
    pending_there u is = elim (cases_eq u t) [
      | inl eq ↦ (let no : new t ≡ Some None = rw eq at is in cc)
      | inr n ↦ sym (others u n) ∙ (h.kept.pending u).0 (sym (rest u n) ∙ is)
    ]

    pending_back : (u : ℕ) → old u ≡ Some None → new u ≡ Some None
    pending_back u is = elim (cases_eq u t) [
      | inl eq ↦ (let no : old t ≡ Some None = rw eq at is in cc)
      | inr n ↦ rest u n ∙ (h.kept.pending u).1 (others u n ∙ is)
    ]

    named_after : AreNamedByPosition old → AreNamedByPosition new
    named_after named u k is = elim (cases_eq u t) [
      | inl eq ↦ (let there : new t ≡ Some (Some k) = rw eq at is in ap (λ (z : Kept). z.name) (same_kept (sym there ∙ done)) ∙ sym eq)
      | inr n ↦ h.kept.named (named_started named) u k (sym (rest u n) ∙ is)
    ]

    shared_after : AreNamedByPosition old → (s : SchemaTable) (m : Meaning) → Knows s D → (l : Lies s bytes q (one X) n) → Denotes s bytes l.root l.shape m
        → AreRight m.shared old → AreShared m.shared ((t, (e, w)) ∷ keys) × AreRight m.shared new
    shared_after named s m knows l d right =
        let (known, among, kept_right) = says_keys started mid own w keys h (named_started named) s m knows l d (right_started m right) in (
          λ y c. ⊎_elim (λ same. rw (← same) known) (λ later. among y later) (contains_cases (t, (e, w)) keys y c),
          λ u k is. elim (cases_eq u t) [
            | inl eq ↦ (
                let at : new t ≡ Some (Some k) = rw eq at is in
                let same : k ≡ kept = same_kept (sym at ∙ done) in
                rw (eq, same) (known, among)
                )
            | inr n ↦ kept_right u k (sym (rest u n) ∙ is)
          ],
        )

    pending_not : (z : ℕ) → old z ≡ Some None → z ≡ t → ⊥
    pending_not z pending eq = let no : old t ≡ Some None = rw eq at pending in cc

    -- what it leads to meets no open position, itself among them
    inside_unmet : (s : SchemaTable) → Knows s D → Lies s bytes q (one X) n → MeetsOpen s bytes old (t ∷ []) t P p.length → ⊥
    inside_unmet s knows l inside =
        let (x, r) = target_reached s l in
        h.unmet s knows (reached_lies s bytes r) (moved s bytes old started t here others inside (λ z open'. ⊎_elim
        (λ pending. inl (others z (pending_not z pending) ∙ pending))
        (λ c. inl (⊎_elim (λ eq. rw (← eq) here) (λ d. absurd (omega (arith, d.1))) (contains_cases t [] z c))) open'))

    unmet_after : (s : SchemaTable) → Knows s D → Lies s bytes q (one X) n → MeetsOpen s bytes old [] q (one X) n → ⊥
    unmet_after s knows l (meets_open {t = u} {v = v} {p = o} c i f at (inl pending)) = let is : u ≡ t = leads_there o u (the_pointer s v o c i) at in let no : old t ≡ Some None = rw is at pending in cc
    unmet_after s knows l (meets_open c i f at (inr within)) = omega (arith, within.1)
    unmet_after s knows l (meets_in_unique {v = v} {p = o} c i f at m) =
        let shared_so : o.sharing ≡ Some flavor = ap (λ (z : Pointer). z.sharing) (the_pointer s v o c i) in let no : Some flavor ≡ None = sym shared_so ∙ f in cc
    unmet_after s knows l (meets_in_shared {t = u} {v = v} {p = o} c i f at none m) =
        let same = the_pointer s v o c i in
        let is : u ≡ t = leads_there o u same at in
        let pointee : o.pointee ≡ P = ap (λ (z : Pointer). z.pointee) same in
        let length : o.length ≡ p.length = ap (λ (z : Pointer). z.length) same in
        inside_unmet s knows l (rw (is, pointee, length) at m)

    -- nor does another one that is finished meanwhile lead to an open position
    closed_after : (s : SchemaTable) → Knows s D → (l : Lies s bytes q (one X) n) → (u : ℕ) (k : Kept) → old u ≡ None → new u ≡ Some (Some k) → IsClosed s bytes l.root l.shape old u
    unfolding reached_lies
    closed_after s knows l u k none some o f met e at m = elim (cases_eq u t) [
      | inl eq ↦ (
          let (v, c) = lies_reads s bytes l in
          let same = shared_agree s bytes l c (has_pointer s v c) refl there met e (rw eq at at) in
          inside_unmet s knows l (rw (eq, same.0, same.1) at m)
          )
      | inr n ↦ (
          let (x, r) = target_reached s l in
          h.closed s knows (reached_lies s bytes r) u k (others u n ∙ none) (sym (rest u n) ∙ some) o f met e at (moved s bytes old started t here others m (λ z open'. ⊎_elim
          (λ pending. inl (others z (pending_not z pending) ∙ pending)) inr open'))
          )
    ]

    -- what is finished before it is started is so then; what is kept then is kept once it is finished
    kept_started : (u : ℕ) (k : Kept) → old u ≡ Some (Some k) → started u ≡ Some (Some k)
    kept_started u k is = others u (not_t u k is) ∙ is

    complete_started : IsComplete old → IsComplete started
    complete_started complete u k is = elim (cases_eq u t) [
      | inl eq ↦ (let no : started t ≡ Some (Some k) = rw eq at is in cc)
      | inr n ↦ (λ key c. let (j, at, same) = complete u k (sym (others u n) ∙ is) key c in (j, kept_started key.0 j at, same))
    ]

    mid_pending : mid t ≡ Some None
    mid_pending = (h.kept.pending t).1 here

    kept_after : (ks : List Naming) → AreKept mid ks → AreKept new ks
    kept_after ks among key c =
        let (j, at, same) = among key c in
        (j, rest key.0 (λ eq. let no : Some (Some j) ≡ Some None = sym at ∙ ap mid eq ∙ mid_pending in cc) ∙ at, same)

    once_after : KeepsRead keeps old new ((t, (e, w)) ∷ keys)
    once_after on named complete =
        let (among, whole) = h.once on (named_started named) (complete_started complete) in (
          λ y c. ⊎_elim
              (λ same. (kept, ap new (ap (λ (z : Naming). z.0) (sym same)) ∙ done, ap (λ (z : Naming). z.1) (sym same)))
              (λ later. kept_after keys among y later)
              (contains_cases (t, (e, w)) keys y c),
          λ u k is. elim (cases_eq u t) [
            | inl eq ↦ (
                let at : new t ≡ Some (Some k) = rw eq at is in
                let same : k ≡ kept = same_kept (sym at ∙ done) in
                rw same (kept_after keys among)
                )
            | inr n ↦ kept_after k.keys (whole u k (sym (rest u n) ∙ is))
          ],
        )

    pub shared_read_back : ReadsBack keeps D bytes q (one X) n old new (shared_value t) ((t, (e, w)) ∷ keys)
    shared_read_back = record {
      kept = record {
        finished = λ u k is. let n = not_t u k is in rest u n ∙ h.kept.finished u k (others u n ∙ is);
        pending = λ u. (pending_there u, pending_back u);
        named = named_after;
      };
      value = λ named. record { fills = λ s v knows l c. rw (is_hole s v c) (fills_shared refl there) };
      shared = shared_after;
      unmet = unmet_after;
      closed = closed_after;
      once = once_after;
    }

  -- Where nothing is kept, it is read anew at each pointer.
  module _ (old started mid new : Entries) (nothing : NoEntries old) (begun : NoEntries started) (inside : NoEntries mid) (after : NoEntries new) where
    still_named : AreNamedByPosition started
    still_named u k is = let no : started u ≡ None = begun u in cc

    pub alone_cyclic : IsCyclic D bytes started t P p.length → IsCyclic D bytes old q (one X) n
    alone_cyclic h = record {
      meets = λ s knows l. (
          let (v, c) = lies_reads s bytes l in
          let (x, r) = target_reached s l in
          meets_in_shared {t = t} {p = p} c (has_pointer s v c) refl there (nothing t) (meets_alone s bytes t old started nothing begun (h.meets s knows (reached_lies s bytes r))));
    }

    module _ {keeps : Bool} (none_kept : keeps ≡ false) (own : Flavor) (w : Value) (keys : List Naming) (h : ReadsBack keeps D bytes t P p.length started mid w keys) where
      unmet_alone : (s : SchemaTable) → Knows s D → Lies s bytes q (one X) n → MeetsOpen s bytes old [] q (one X) n → ⊥
      unmet_alone s knows l (meets_open {t = u} c i f at (inl pending)) = let no : old u ≡ None = nothing u in cc
      unmet_alone s knows l (meets_open c i f at (inr within)) = omega (arith, within.1)
      unmet_alone s knows l (meets_in_unique {v = v} {p = o} c i f at m) =
          let shared_so : o.sharing ≡ Some flavor = ap (λ (z : Pointer). z.sharing) (the_pointer s v o c i) in let no : Some flavor ≡ None = sym shared_so ∙ f in cc
      unmet_alone s knows l (meets_in_shared {t = u} {v = v} {p = o} c i f at none m) =
          let same = the_pointer s v o c i in
          let is : u ≡ t = leads_there o u same at in
          let pointee : o.pointee ≡ P = ap (λ (z : Pointer). z.pointee) same in
          let length : o.length ≡ p.length = ap (λ (z : Pointer). z.length) same in
          let around : MeetsOpen s bytes old (t ∷ []) t P p.length = rw (is, pointee, length) at m in
          let (x, r) = target_reached s l in
          let (y, k) = lies_reads s bytes l in
          h.unmet s knows (reached_lies s bytes r) (turns s bytes l.root l.shape t P p.length old started nothing begun around
          (λ z g met e to. shared_agree s bytes l k (has_pointer s y k) refl there met e to) around r
          (λ z d. ⊎_elim (λ eq. inr (sym eq)) (λ d. absurd (omega (arith, d.1))) (contains_cases t [] z d)))

      shared_alone : (s : SchemaTable) (m : Meaning) → Knows s D → (l : Lies s bytes q (one X) n) → Denotes s bytes l.root l.shape m
          → AreShared m.shared ((t, (record { flavor = own; pointee = P; length = p.length }, w)) ∷ keys) × AreRight m.shared new
      shared_alone s m knows l d =
          let (known, among, x) = says_keys started mid own w keys h still_named s m knows l d (λ u k is. let no : started u ≡ None = begun u in cc) in (
            λ y c. ⊎_elim (λ same. rw (← same) known) (λ later. among y later) (contains_cases _ keys y c),
            λ u k is. let no : new u ≡ None = after u in cc,
          )

      pub alone_read_back : ReadsBack keeps D bytes q (one X) n old new (shared_value t) ((t, (record { flavor = own; pointee = P; length = p.length }, w)) ∷ keys)
      alone_read_back = record {
        kept = record {
          finished = λ u k is. let no : old u ≡ None = nothing u in cc;
          pending = λ u. (λ e. let no : new u ≡ None = after u in cc, λ e. let no : old u ≡ None = nothing u in cc);
          named = λ x u k is. let no : new u ≡ None = after u in cc;
        };
        value = λ named. record { fills = λ s v knows l c. rw (is_hole s v c) (fills_shared refl there) };
        shared = λ named s m knows l d right. shared_alone s m knows l d;
        unmet = unmet_alone;
        closed = λ s knows l u k none is. let no : new u ≡ None = after u in cc;
        once = λ on named complete. let no : true ≡ false = sym on ∙ none_kept in cc;
      }
