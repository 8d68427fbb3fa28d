-- Ways along which a reading meets an open position: where what was read first is closed, the rest meets what it would have met before.
use Rattle.std.proofs.Common.{◌≡◌, ◌⊎◌, inl, inr, ⊎_elim, ℕ, pos, List, [], ◌∷◌, Some, None, Contains, arith, refl, sym, ◌∙◌}
use Rattle.archive_check.specs.Shape.{Flavor, Shape, Pointee}
use Rattle.archive_check.specs.Value.{Pointer, Value, pointers}
use Rattle.archive_check.specs.Reads.{SchemaTable}
use Rattle.archive_check.specs.Tour.{Contents, Accepted}
use Rattle.archive_check.specs.Pooled.{Kept, EntryState, Entries}
use Rattle.archive_check.specs.Reached.{Reached}
use Rattle.archive_check.specs.Entries.{KeepsEntries, IsOpen, MeetsOpen, meets_open, meets_in_unique, meets_in_shared, IsMet, IsClosed}
use Rattle.archive_check.proofs.Elements.{contains_cases, contains_first, contains_later}
use Rattle.archive_check.proofs.Tours.ReadingUnique.{contents_one_value, pos_one}
use Rattle.archive_check.proofs.Meanings.ReachedParts.{pointer_reached}
use Rattle.archive_check.proofs.Meanings.SharedKnown.{met_agree}

-- the pointer leads to the shared position t
abbrev pub SharedTo : Pointer → ℕ → Type 0
SharedTo p t = (flavor : Flavor) × (p.sharing ≡ Some flavor) × (p.target ≡ pos t)

-- the pointer leads to t, and is followed
abbrev pub IsFollowed : Entries → Pointer → ℕ → Type 0
IsFollowed told p t = (p.target ≡ pos t) × ((p.sharing ≡ None) ⊎ ((flavor : Flavor) × (p.sharing ≡ Some flavor) × (told t ≡ None)))

-- following the one pointer, the other one is met, or it is that one
pub data Path (s : SchemaTable) (bytes : List ℕ) (told : Entries) : Pointer → Pointer → Type 0 where
  path_here : {p : Pointer} → Path s bytes told p p
  path_on : {p o r : Pointer} {t : ℕ} {v : Value} → IsFollowed told p t → Contents s bytes t p.pointee p.length v → Contains (pointers v) o → Path s bytes told o r → Path s bytes told p r

-- one is met that leads to an open position
pub record Stuck (s : SchemaTable) (bytes : List ℕ) (told : Entries) (within : List ℕ) (p : Pointer) : Type 0 where
  pub last : Pointer
  pub at : ℕ
  pub path : Path s bytes told p last
  pub to : SharedTo last at
  pub is_open : IsOpen told within at

-- one is met that leads to an unknown position, and following it another one that does
pub record Loop (s : SchemaTable) (bytes : List ℕ) (told : Entries) (p : Pointer) : Type 0 where
  pub last : Pointer
  pub at : ℕ
  pub value : Value
  pub next : Pointer
  pub back : Pointer
  pub path : Path s bytes told p last
  pub to : SharedTo last at
  pub unknown : told at ≡ None
  pub contents : Contents s bytes at last.pointee last.length value
  pub has : Contains (pointers value) next
  pub round : Path s bytes told next back
  pub again : SharedTo back at

abbrev pub Hits : SchemaTable → List ℕ → Entries → List ℕ → Pointer → Type 0
Hits s bytes told within p = Stuck s bytes told within p ⊎ Loop s bytes told p

module _ (s : SchemaTable) (bytes : List ℕ) where
  -- one step more in front
  stuck_on : {told : Entries} {within : List ℕ} {p o : Pointer} {t : ℕ} {v : Value} → IsFollowed told p t → Contents s bytes t p.pointee p.length v → Contains (pointers v) o → Stuck s bytes told within o → Stuck s bytes told within p
  stuck_on f c i h = record { last = h.last; at = h.at; path = path_on f c i h.path; to = h.to; is_open = h.is_open }

  loop_on : {told : Entries} {p o : Pointer} {t : ℕ} {v : Value} → IsFollowed told p t → Contents s bytes t p.pointee p.length v → Contains (pointers v) o → Loop s bytes told o → Loop s bytes told p
  loop_on f c i h = record { last = h.last; at = h.at; value = h.value; next = h.next; back = h.back; path = path_on f c i h.path; to = h.to; unknown = h.unknown; contents = h.contents; has = h.has; round = h.round; again = h.again }

  hits_on : {told : Entries} {within : List ℕ} {p o : Pointer} {t : ℕ} {v : Value} → IsFollowed told p t → Contents s bytes t p.pointee p.length v → Contains (pointers v) o → Hits s bytes told within o → Hits s bytes told within p
  hits_on f c i h = ⊎_elim (λ st. inl (stuck_on f c i st)) (λ lp. inr (loop_on f c i lp)) h

  -- behind a pointer to an unknown position t
  shared_on : {told : Entries} {within : List ℕ} {p o : Pointer} {t : ℕ} {v : Value} (to : SharedTo p t) → told t ≡ None → Contents s bytes t p.pointee p.length v → Contains (pointers v) o → Hits s bytes told (t ∷ within) o → Hits s bytes told within p
  shared_on {told = told} {within = within} {p = p} {o = o} {t = t} {v = v} (flavor, e, there) none c i (inl st) = ⊎_elim
      (λ pending. inl (stuck_on (there, inr (flavor, e, none)) c i (record { last = st.last; at = st.at; path = st.path; to = st.to; is_open = inl pending })))
      (λ among. ⊎_elim
      (λ same. inr (record { last = p; at = t; value = v; next = o; back = st.last; path = path_here; to = (flavor, e, there); unknown = none; contents = c; has = i; round = st.path; again = rw same st.to }))
      (λ later. inl (stuck_on (there, inr (flavor, e, none)) c i (record { last = st.last; at = st.at; path = st.path; to = st.to; is_open = inr later })))
      (contains_cases t within st.at among))
      st.is_open
  shared_on (flavor, e, there) none c i (inr lp) = inr (loop_on (there, inr (flavor, e, none)) c i lp)

  -- what meets an open position does so by one of its pointers
  pub record ByPointer (told : Entries) (within : List ℕ) (q : ℕ) (P : Pointee) (n : ℕ) : Type 0 where
    pub value : Value
    pub contents : Contents s bytes q P n value
    pub pointer : Pointer
    pub has : Contains (pointers value) pointer
    pub hits : Hits s bytes told within pointer

  pub by_pointer : {told : Entries} {within : List ℕ} {q n : ℕ} {P : Pointee} → MeetsOpen s bytes told within q P n → ByPointer told within q P n
  by_pointer (meets_open {t = t} {v = v} {p = p} {flavor = flavor} c i e at o) = record { value = v; contents = c; pointer = p; has = i; hits = inl (record { last = p; at = t; path = path_here; to = (flavor, e, at); is_open = o }) }
  by_pointer (meets_in_unique {v = v} {p = p} c i e at m) = let h = by_pointer m in record { value = v; contents = c; pointer = p; has = i; hits = hits_on (at, inl e) h.contents h.has h.hits }
  by_pointer (meets_in_shared {v = v} {p = p} {flavor = flavor} c i e at none m) = let h = by_pointer m in record { value = v; contents = c; pointer = p; has = i; hits = shared_on (flavor, e, at) none h.contents h.has h.hits }

  -- and what has such a pointer meets one
  stuck_meets : {told : Entries} {p o : Pointer} {u : ℕ} → Path s bytes told p o → SharedTo o u → {within : List ℕ} → IsOpen told within u → {q n : ℕ} {P : Pointee} {v : Value} → Contents s bytes q P n v → Contains (pointers v) p → MeetsOpen s bytes told within q P n
  stuck_meets path_here (flavor, e, at) is c i = meets_open c i e at is
  stuck_meets (path_on (there, inl unique) d j rest) to is c i = meets_in_unique c i unique there (stuck_meets rest to is d j)
  stuck_meets (path_on {t = t} (there, inr (flavor, e, none)) d j rest) to {within = within} is c i =
      meets_in_shared c i e there none (stuck_meets rest to (⊎_elim inl (λ among. inr (contains_later t within _ among)) is) d j)

  loop_meets : {told : Entries} {p o : Pointer} {u : ℕ} {x : Value} {r back : Pointer} → Path s bytes told p o → SharedTo o u → told u ≡ None → Contents s bytes u o.pointee o.length x → Contains (pointers x) r → Path s bytes told r back → SharedTo back u
      → {within : List ℕ} {q n : ℕ} {P : Pointee} {v : Value} → Contents s bytes q P n v → Contains (pointers v) p → MeetsOpen s bytes told within q P n
  loop_meets {u = u} path_here (flavor, e, at) none d j round again {within = within} c i = meets_in_shared c i e at none (stuck_meets round again (inr (contains_first within u)) d j)
  loop_meets (path_on (there, inl unique) d j rest) to none y k round again c i = meets_in_unique c i unique there (loop_meets rest to none y k round again d j)
  loop_meets (path_on (there, inr (flavor, e, new)) d j rest) to none y k round again c i = meets_in_shared c i e there new (loop_meets rest to none y k round again d j)

  pub hits_meet : {told : Entries} {within : List ℕ} {p : Pointer} {q n : ℕ} {P : Pointee} {v : Value} → Hits s bytes told within p → Contents s bytes q P n v → Contains (pointers v) p → MeetsOpen s bytes told within q P n
  hits_meet (inl h) c i = stuck_meets h.path h.to h.is_open c i
  hits_meet (inr h) c i = loop_meets h.path h.to h.unknown h.contents h.has h.round h.again c i

  one_target : (p : Pointer) {t u : ℕ} → p.target ≡ pos t → p.target ≡ pos u → t ≡ u
  one_target p at there = pos_one (sym at ∙ there)

  -- a pointer to an unknown position t meets one exactly where what lies there does, t itself among those open
  pub meets_hit : {told : Entries} {p : Pointer} {t : ℕ} → SharedTo p t → told t ≡ None → MeetsOpen s bytes told (t ∷ []) t p.pointee p.length → Hits s bytes told [] p
  meets_hit to none m = let h = by_pointer m in shared_on to none h.contents h.has h.hits

  stuck_there : {told : Entries} {p o : Pointer} {t u : ℕ} → SharedTo p t → told t ≡ None → Path s bytes told p o → SharedTo o u → told u ≡ Some None → MeetsOpen s bytes told (t ∷ []) t p.pointee p.length
  stuck_there {told = told} {p = p} {t = t} {u = u} (f, e, at) none path_here (g, h, there) pending = let same : t ≡ u = one_target p at there in let no : told u ≡ None = rw same at none in absurd (let bad : Some None ≡ None = sym pending ∙ no in cc)
  stuck_there {told = told} {p = p} {t = t} {u = u} (f, e, at) none (path_on {t = r} (there, follows) d j rest) to pending =
      let same : r ≡ t = one_target p there at in stuck_meets rest to (inl pending) (rw same at d) j

  loop_there : {told : Entries} {p o : Pointer} {t u : ℕ} {x : Value} {r back : Pointer} → SharedTo p t → Path s bytes told p o → SharedTo o u → told u ≡ None → Contents s bytes u o.pointee o.length x → Contains (pointers x) r → Path s bytes told r back → SharedTo back u
      → MeetsOpen s bytes told (t ∷ []) t p.pointee p.length
  loop_there {p = p} {t = t} {u = u} (f, e, at) path_here (g, h, there) none d j round again =
      let same : u ≡ t = one_target p there at in stuck_meets round (rw same at again) (inr (contains_first [] t)) (rw same at d) j
  loop_there {p = p} {t = t} (f, e, at) (path_on {t = z} (there, follows) c i rest) to none d j round again =
      let same : z ≡ t = one_target p there at in loop_meets rest to none d j round again (rw same at c) i

  pub hit_meets : {told : Entries} {p : Pointer} {t : ℕ} → SharedTo p t → told t ≡ None → Hits s bytes told [] p → MeetsOpen s bytes told (t ∷ []) t p.pointee p.length
  hit_meets to none (inl h) = ⊎_elim (λ pending. stuck_there to none h.path h.to pending) (λ among. absurd (omega (arith, among.1))) h.is_open
  hit_meets to none (inr h) = loop_there to h.path h.to h.unknown h.contents h.has h.round h.again

  -- of the archive of an X at root
  module _ (root : ℕ) (X : Shape) where
    -- what a pointer leads to that is met is met
    met_step : {p o : Pointer} {t : ℕ} {v : Value} → IsMet s bytes root X p → p.target ≡ pos t → Contents s bytes t p.pointee p.length v → Contains (pointers v) o → IsMet s bytes root X o
    met_step {p = p} {t = t} {v = v} met there c i =
        let (u, at, x, r) = pointer_reached s bytes met.reached p met.has in
        let same : u ≡ t = pos_one (sym at ∙ there) in
        let j : Reached s bytes root X t p.pointee p.length x = rw same at r in
        let one : v ≡ j.value = contents_one_value c j.reads in
        record { at = t; pointee = p.pointee; length = p.length; filled = x; reached = j; has = rw one at i }

    met_on : {told : Entries} {p o : Pointer} → IsMet s bytes root X p → Path s bytes told p o → IsMet s bytes root X o
    met_on met path_here = met
    met_on met (path_on (there, follows) c i rest) = met_on (met_step met there c i) rest

    -- what was unknown before and is finished now is closed
    module _ (old mid : Entries) (kept : KeepsEntries old mid) (closed : (t : ℕ) (k : Kept) → old t ≡ None → mid t ≡ Some (Some k) → IsClosed s bytes root X old t) where
      -- on the way from p to o one is met that leads to such a position
      record Newly (p o : Pointer) : Type 0 where
        pub last : Pointer
        pub at : ℕ
        pub entry : Kept
        pub path : Path s bytes old p last
        pub to : SharedTo last at
        pub unknown : old at ≡ None
        pub known : mid at ≡ Some (Some entry)
        pub rest : Path s bytes old last o

      newly_on : {p o r : Pointer} {t : ℕ} {v : Value} → IsFollowed old p t → Contents s bytes t p.pointee p.length v → Contains (pointers v) o → Newly o r → Newly p r
      newly_on f c i h = record { last = h.last; at = h.at; entry = h.entry; path = path_on f c i h.path; to = h.to; unknown = h.unknown; known = h.known; rest = h.rest }

      still_unknown : (t : ℕ) (b : EntryState) → mid t ≡ b → old t ≡ None → (mid t ≡ None) ⊎ ((k : Kept) × (mid t ≡ Some (Some k)))
      still_unknown t None e none = inl e
      still_unknown t (Some None) e none = absurd (let no : Some None ≡ None = sym ((kept.pending t).0 e) ∙ none in cc)
      still_unknown t (Some (Some k)) e none = inr (k, e)

      parted : {p o : Pointer} → Path s bytes old p o → Path s bytes mid p o ⊎ Newly p o
      parted path_here = inl path_here
      parted (path_on (there, inl unique) c i rest) = ⊎_elim (λ h. inl (path_on (there, inl unique) c i h)) (λ h. inr (newly_on (there, inl unique) c i h)) (parted rest)
      parted {p = p} (path_on {t = t} (there, inr (flavor, e, none)) c i rest) = ⊎_elim
          (λ still. ⊎_elim (λ h. inl (path_on (there, inr (flavor, e, still)) c i h)) (λ h. inr (newly_on (there, inr (flavor, e, none)) c i h)) (parted rest))
          (λ known. inr (record { last = p; at = t; entry = known.0; path = path_here; to = (flavor, e, there); unknown = none; known = known.1; rest = path_on (there, inr (flavor, e, none)) c i rest }))
          (still_unknown t (mid t) refl none)

      not_newly : {p : Pointer} {t : ℕ} {k : Kept} → IsMet s bytes root X p → SharedTo p t → old t ≡ None → mid t ≡ Some (Some k) → Hits s bytes old [] p → ⊥
      not_newly {p = p} {t = t} {k = k} met (flavor, e, there) none known h = closed t k none known p flavor met e there (hit_meets (flavor, e, there) none h)

      -- so what is met afterwards is what was met before
      pub hits_later : Accepted s bytes root X → {p : Pointer} → IsMet s bytes root X p → Hits s bytes old [] p → Hits s bytes mid [] p
      hits_later a met (inl h) = ⊎_elim
          (λ pending. ⊎_elim
          (λ path. inl (record { last = h.last; at = h.at; path = path; to = h.to; is_open = inl ((kept.pending h.at).1 pending) }))
          (λ n. absurd (not_newly (met_on met n.path) n.to n.unknown n.known (inl (record { last = h.last; at = h.at; path = n.rest; to = h.to; is_open = inl pending }))))
          (parted h.path))
          (λ among. absurd (omega (arith, among.1)))
          h.is_open
      hits_later a met (inr h) = ⊎_elim
          (λ path. ⊎_elim
          (λ still. ⊎_elim
          (λ round. inr (record { last = h.last; at = h.at; value = h.value; next = h.next; back = h.back; path = path; to = h.to; unknown = still; contents = h.contents; has = h.has; round = round; again = h.again }))
          (λ n. absurd (through met h n))
          (parted h.round))
          (λ known. absurd (not_newly (met_on met h.path) h.to h.unknown known.1 (inr (record { last = h.last; at = h.at; value = h.value; next = h.next; back = h.back; path = path_here; to = h.to; unknown = h.unknown; contents = h.contents; has = h.has; round = h.round; again = h.again }))))
          (still_unknown h.at (mid h.at) refl h.unknown))
          (λ n. absurd (not_newly (met_on met n.path) n.to n.unknown n.known (inr (record { last = h.last; at = h.at; value = h.value; next = h.next; back = h.back; path = n.rest; to = h.to; unknown = h.unknown; contents = h.contents; has = h.has; round = h.round; again = h.again }))))
          (parted h.path)
        where
          -- a loop that leads through such a position begins there as well
          through : {p : Pointer} → IsMet s bytes root X p → (h : Loop s bytes old p) → Newly h.next h.back → ⊥
          through met h n =
              let first = met_on met h.path in
              let second = met_step first h.to.2 h.contents h.has in
              let third = met_on second h.round in
              let same = met_agree s bytes a first h.to.1 h.to.2 third h.again.1 h.again.2 in
              let there : Contents s bytes h.at h.back.pointee h.back.length h.value = rw (same.0, same.1) h.contents in
              not_newly (met_on second n.path) n.to n.unknown n.known (inr (record { last = h.back; at = h.at; value = h.value; next = h.next; back = h.back; path = n.rest; to = h.again; unknown = h.unknown; contents = there; has = h.has; round = h.round; again = h.again }))
