-- Where no flavor that is met allows cycles, what a pointer leads to, shared or not, ends by its owner's position, so that no reading comes back to where
-- it is.
use Rattle.std.proofs.Common.{◌≡◌, ◌⊎◌, inl, inr, ⊎_elim, ℕ, ◌+◌, ◌*◌, ◌≤◌, pos, List, [], ◌∷◌, length, Some, None, IsTrue, Contains, All, arith, refl, sym, ap, ◌∙◌}
use Rattle.std.specs.FinMap.{get, insert, get-empty}
use Rattle.std.specs.Ordering.{nat_cmp}
use Rattle.std.proofs.lemmas.List.Elements.{All-nil, All-cons, All-head, All-tail, All-append, All-contains, Contains-append_cases}
use Rattle.std.proofs.lemmas.Bool.{cases_eq}
use Rattle.archive_check.specs.Shape.{Flavor, Shape, Pointee, Parts}
use Rattle.archive_check.specs.Layout.{up, align_of, size_of, parts_end, parts_align, variants_end, variants_align}
use Rattle.archive_check.specs.Value.{Pointer, Value, Values, pointers, all_pointers}
use Rattle.archive_check.specs.Reads.{SchemaTable, LaidOut, Reads, reads_leaf, reads_parts, reads_choice, reads_array, reads_boxed, reads_vec, reads_map, reads_inline, reads_out_of_line, reads_shared, reads_null, reads_weak, reads_named, ReadsParts, reads_no_part, reads_part, ReadsRun, reads_none, reads_element}
use Rattle.archive_check.specs.Tour.{Region, region_of, root_region, pointee_size, Rising, Contents, contents_one, contents_run, contents_text, Entry, entry, Seen, Tour, tour_end, tour_unique, tour_new, tour_again, Accepted}
use Rattle.archive_check.specs.Leaves.{regions_of}
use Rattle.archive_check.specs.Pooled.{Entries}
use Rattle.archive_check.specs.Entries.{MeetsOpen, meets_open, meets_in_unique, meets_in_shared}
use Rattle.archive_check.proofs.Elements.{contains_cases, contains_first, contains_later}
use Rattle.archive_check.proofs.Tours.JoinedTours.{rising_front, rising_back, rising_le}
use Rattle.archive_check.proofs.Tours.ReadingUnique.{contents_one_value, pos_one}
use Rattle.archive_check.proofs.Tours.PartsInside.{up_le, pointer_few, parts_end_le, variant_end_le}
use Rattle.archive_check.proofs.Names.PositiveAlignments.{parts_align_pos, variants_align_pos}
use Rattle.archive_check.proofs.Tours.Seen.{same_some, inserted_has, inserted_apart}
use Rattle.archive_check.proofs.Editing.RevisedTour.{tour_grows}
use Rattle.archive_check.proofs.Meanings.ReachedParts.{LeadsInto, Closed, accepted_closed}

-- what is read with a pointer in it takes a byte or more
module _ (s : SchemaTable) (laid : LaidOut s) (bytes : List ℕ) where
  mutual
    reads_takes : {p : ℕ} {X : Shape} {v : Value} {z : Pointer} → Reads s bytes p X v → Contains (pointers v) z → 1 ≤ size_of s.layouts X
    reads_takes (reads_leaf l) c = absurd (omega (arith, c.1))
    reads_takes (reads_parts {ps = ps} r) c = omega (arith, parts_take r c, up_le (parts_end s.layouts 0 ps) (parts_align s.layouts ps) (parts_align_pos s.layouts ps))
    reads_takes (reads_choice {variants = vs} {ps = ps} e r) c =
        omega (arith, parts_take r c, variant_end_le s laid vs _ ps e, up_le (variants_end s.layouts vs) (variants_align s.layouts vs) (variants_align_pos s.layouts vs))
    reads_takes (reads_array r) c = run_takes r c
    reads_takes (reads_boxed {P = P}) c = omega (arith, pointer_few P)
    reads_takes reads_vec c = omega arith
    reads_takes reads_map c = omega arith
    reads_takes (reads_inline o u) c = omega arith
    reads_takes (reads_out_of_line o l) c = omega arith
    reads_takes (reads_shared {P = P}) c = omega (arith, pointer_few P)
    reads_takes (reads_null e) c = absurd (omega (arith, c.1))
    reads_takes (reads_weak {P = P} e) c = omega (arith, pointer_few P)
    reads_takes (reads_named {name = name} {X = Y} d r) c = let same = ap (λ l. l.size) (laid.solves name Y d) in omega (arith, reads_takes r c, same)

    parts_take : {p at : ℕ} {ps : Parts} {vs : Values} {z : Pointer} → ReadsParts s bytes p at ps vs → Contains (all_pointers vs) z → 1 ≤ parts_end s.layouts at ps
    parts_take reads_no_part c = absurd (omega (arith, c.1))
    parts_take (reads_part {at = at} {X = X} {ps = ps} {v = v} {vs = vs} r rs) c = ⊎_elim
        (λ here. omega (arith, reads_takes r here, parts_end_le s laid ps (up at (align_of s.layouts X) + size_of s.layouts X)))
        (λ later. parts_take rs later)
        (Contains-append_cases (pointers v) (all_pointers vs) _ c)

    run_takes : {p n : ℕ} {X : Shape} {vs : Values} {z : Pointer} → ReadsRun s bytes p n X vs → Contains (all_pointers vs) z → 1 ≤ n * size_of s.layouts X
    run_takes reads_none c = absurd (omega (arith, c.1))
    run_takes (reads_element {n = n} {X = X} {v = v} {vs = vs} r rs) c = ⊎_elim
        (λ here. omega (arith, reads_takes r here))
        (λ later. omega (arith, run_takes rs later))
        (Contains-append_cases (pointers v) (all_pointers vs) _ c)

  pub contents_take : {q n : ℕ} {P : Pointee} {v : Value} {z : Pointer} → Contents s bytes q P n v → Contains (pointers v) z → 1 ≤ pointee_size s P n
  contents_take (contents_one r) c = reads_takes r c
  contents_take (contents_run r) c = run_takes r c
  contents_take (contents_text u) c = absurd (omega (arith, c.1))

-- the pointer, where it is shared, was met as what it is
pub record MetIn (last : Seen) (p : Pointer) : Type 0 where
  pub met : (t : ℕ) (flavor : Flavor) → p.sharing ≡ Some flavor → p.target ≡ pos t → get last t ≡ Some (entry flavor p)

module _ (s : SchemaTable) (bytes : List ℕ) where
  -- so is each that the region's reading has
  abbrev pub AllMet : Seen → Region → Type 0
  AllMet last r = (v : Value) × Contents s bytes r.begin r.pointee r.length v × All (MetIn last) (pointers v)

  abbrev Grows : Seen → Seen → Type 0
  Grows seen last = (t : ℕ) (e : Entry) → get seen t ≡ Some e → get last t ≡ Some e

  met_unique : (last : Seen) (p : Pointer) → p.sharing ≡ None → MetIn last p
  met_unique last p e = record { met = λ t flavor f there. let none : Some flavor ≡ None = sym f ∙ e in cc }

  met_shared : (last : Seen) (p : Pointer) (t : ℕ) (flavor : Flavor) → p.sharing ≡ Some flavor → p.target ≡ pos t → get last t ≡ Some (entry flavor p) → MetIn last p
  met_shared last p t flavor e at known = record {
    met = λ u g f there.
        let same : flavor ≡ g = same_some (sym e ∙ f) in
        let here : t ≡ u = pos_one (sym at ∙ there) in
        rw (← same, ← here) known;
  }

  tour_met : {pending : List ℕ} {seen last : Seen} {O : List Pointer} {C : List Region} (final : Seen) → Tour s bytes pending seen O C last → Grows last final → All (MetIn final) O × All (AllMet final) C
  tour_met final tour_end g = (All-nil (MetIn final), All-nil (AllMet final))
  tour_met final (tour_unique {p = p} {ps = ps} {t = t} {v = v} {C = C} {D = D} e l i j) g =
      let inner = tour_met final i (λ q f k. g q f (tour_grows j q f k)) in
      let rest = tour_met final j g in (
        All-cons (MetIn final) p ps (met_unique final p e) (rest.0),
        All-append (AllMet final) C (region_of s p t ∷ D) (inner.1) (All-cons (AllMet final) (region_of s p t) D (v, l.contents, inner.0) (rest.1)),
      )
  tour_met final (tour_new {p = p} {ps = ps} {t = t} {v = v} {C = C} {D = D} {flavor = flavor} e none l i j) g =
      let inner = tour_met final i (λ q f k. g q f (tour_grows j q f k)) in
      let rest = tour_met final j g in
      let known = g t (entry flavor p) (tour_grows j t (entry flavor p) (tour_grows i t (entry flavor p) (inserted_has _ t (entry flavor p)))) in (
        All-cons (MetIn final) p ps (met_shared final p t flavor e l.target known) (rest.0),
        All-append (AllMet final) C (region_of s p t ∷ D) (inner.1) (All-cons (AllMet final) (region_of s p t) D (v, l.contents, inner.0) (rest.1)),
      )
  tour_met final (tour_again {p = p} {ps = ps} {t = t} {flavor = flavor} e there known free j) g =
      let rest = tour_met final j g in (All-cons (MetIn final) p ps (met_shared final p t flavor e there (g t (entry flavor p) (tour_grows j t (entry flavor p) known))) (rest.0), rest.1)

  pub accepted_met : {root : ℕ} {X : Shape} (a : Accepted s bytes root X) → All (AllMet a.seen) (regions_of a)
  accepted_met {root = root} {X = X} a =
      let h = tour_met a.seen a.tour (λ t e k. k) in
      let r = root_region s root X in
      All-append (AllMet a.seen) a.regions (r ∷ []) (h.1) (All-cons (AllMet a.seen) r [] (a.value, contents_one a.flat.reads, h.0) (All-nil (AllMet a.seen)))

-- what the pointer leads to, shared or not, ends by this position
pub record EndsBy (s : SchemaTable) (stop : ℕ) (p : Pointer) : Type 0 where
  pub ends : (t : ℕ) → p.target ≡ pos t → t + pointee_size s p.pointee p.length ≤ stop

-- Of pointers of which each that is allowed has no flavor with cycles, and leads to such alone.
module _ (s : SchemaTable) (bytes : List ℕ) (Allowed : Pointer → Type 0)
    (calm : (p : Pointer) (flavor : Flavor) → Allowed p → p.sharing ≡ Some flavor → IsTrue flavor.cycles → ⊥)
    (further : (p : Pointer) (t : ℕ) (v : Value) → Allowed p → Contents s bytes t p.pointee p.length v → All Allowed (pointers v)) where
  -- what is seen, and isn't being read, ends by here
  abbrev Below : ℕ → List ℕ → Seen → Type 0
  Below start pending seen = (t : ℕ) (e : Entry) → get seen t ≡ Some e → (Contains pending t → ⊥) → t + pointee_size s e.pointee e.length ≤ start

  abbrev Owns : Region → Type 0
  Owns r = (v : Value) × Contents s bytes r.begin r.pointee r.length v × All (EndsBy s r.begin) (pointers v)

  ends_by : (p : Pointer) (t stop : ℕ) → p.target ≡ pos t → t + pointee_size s p.pointee p.length ≤ stop → EndsBy s stop p
  ends_by p t stop at h = record { ends = λ u there. let here : t ≡ u = pos_one (sym at ∙ there) in omega (arith, here, h) }

  below_inside : (start t : ℕ) (pending : List ℕ) (seen : Seen) (e : Entry) → Below start pending seen → Below start (t ∷ pending) (insert seen t e)
  below_inside start t pending seen e below u f g out = elim (cases_eq u t) [
    | inl eq ↦ absurd (out (rw eq (contains_first pending t)))
    | inr n ↦ below u f (sym (inserted_apart seen t u e n) ∙ g) (λ c. out (contains_later t pending u c))
  ]

  below_behind : (t size : ℕ) (pending : List ℕ) (mid : Seen) (e : Entry) → get mid t ≡ Some e → pointee_size s e.pointee e.length ≤ size → Below t (t ∷ pending) mid → Below (t + size) pending mid
  below_behind t size pending mid e known few below u f g out = elim (cases_eq u t) [
    | inl eq ↦ (
        let here : get mid t ≡ Some f = rw eq at g in
        let same : e ≡ f = same_some (sym known ∙ here) in
        let sized : pointee_size s f.pointee f.length ≤ size = rw same at few in
        omega (arith, eq, sized)
        )
    | inr n ↦ omega (arith, below u f g (λ c. ⊎_elim (λ same. n (sym same)) out (contains_cases t pending u c)))
  ]

  tour_before : {pending : List ℕ} {seen last : Seen} {O : List Pointer} {C : List Region} (start stop : ℕ) → Tour s bytes pending seen O C last → Rising start C stop → All Allowed O → Below start pending seen
      → All (EndsBy s stop) O × All Owns C × Below stop pending last
  tour_before start stop tour_end h allowed below = (All-nil (EndsBy s stop), All-nil Owns, λ t e k out. omega (arith, below t e k out, h))
  tour_before start stop (tour_unique {pending = pending} {mid = mid} {p = p} {ps = ps} {t = t} {v = v} {C = C} {D = D} e l i j) h allowed below =
      let r = region_of s p t in
      let back : Rising (r.begin + r.size) D stop = rising_back start C r D stop h in
      let inner = tour_before start t i (rising_front start C r D stop h) (further p t v (All-head Allowed p ps allowed) l.contents) below in
      let outer = tour_before (r.begin + r.size) stop j back (All-tail Allowed p ps allowed) (λ u f k out. omega (arith, inner.2 u f k out)) in (
        All-cons (EndsBy s stop) p ps (ends_by p t stop l.target (rising_le (r.begin + r.size) D stop back)) (outer.0),
        All-append Owns C (r ∷ D) (inner.1) (All-cons Owns r D (v, l.contents, inner.0) (outer.1)),
        outer.2,
      )
  tour_before start stop (tour_new {pending = pending} {seen = seen} {mid = mid} {p = p} {ps = ps} {t = t} {v = v} {C = C} {D = D} {flavor = flavor} e none l i j) h allowed below =
      let r = region_of s p t in
      let back : Rising (r.begin + r.size) D stop = rising_back start C r D stop h in
      let inner = tour_before start t i (rising_front start C r D stop h) (further p t v (All-head Allowed p ps allowed) l.contents) (below_inside start t pending seen (entry flavor p) below) in
      let known = tour_grows i t (entry flavor p) (inserted_has seen t (entry flavor p)) in
      let outer = tour_before (r.begin + r.size) stop j back (All-tail Allowed p ps allowed) (below_behind t r.size pending mid (entry flavor p) known (omega arith) (inner.2)) in (
        All-cons (EndsBy s stop) p ps (ends_by p t stop l.target (rising_le (r.begin + r.size) D stop back)) (outer.0),
        All-append Owns C (r ∷ D) (inner.1) (All-cons Owns r D (v, l.contents, inner.0) (outer.1)),
        outer.2,
      )
  tour_before start stop (tour_again {pending = pending} {p = p} {ps = ps} {t = t} {C = C} {flavor = flavor} e there known free j) h allowed below =
      let closed : Contains pending t → ⊥ = ⊎_elim (λ free. free) (λ cycles. absurd (calm p flavor (All-head Allowed p ps allowed) e cycles)) free in
      let rest = tour_before start stop j h (All-tail Allowed p ps allowed) below in
      (All-cons (EndsBy s stop) p ps (ends_by p t stop there (omega (arith, below t (entry flavor p) known closed, rising_le start C stop h))) (rest.0), rest.1, rest.2)

  module _ (laid : LaidOut s) {root : ℕ} {X : Shape} (a : Accepted s bytes root X) (allowed : All Allowed (pointers a.value)) where
    accepted_before : All Owns (regions_of a)
    accepted_before =
        let r = root_region s root X in
        let own = tour_before 0 root a.tour (rising_front 0 a.regions r [] (length bytes) a.rising) allowed (λ t e k out. let none = get-empty {X = Entry} nat_cmp t in cc) in
        All-append Owns a.regions (r ∷ []) (own.1) (All-cons Owns r [] (a.value, contents_one a.flat.reads, own.0) (All-nil Owns))

    -- the position within which the reading is stands at or behind the region that is read now
    abbrev Above : ℕ → Pointee → ℕ → ℕ → Type 0
    Above q P n t = (e : Entry) × (get a.seen t ≡ Some e) × ((q + pointee_size s P n ≤ t) ⊎ ((q ≡ t) × (P ≡ e.pointee) × (n ≡ e.length)))

    -- what a pointer of the region leads to ends by it
    led : {q n t : ℕ} {P : Pointee} {v : Value} {p : Pointer} → (r : Region) → Contains (regions_of a) r → r.begin ≡ q → r.pointee ≡ P → r.length ≡ n → Contents s bytes q P n v → Contains (pointers v) p → p.target ≡ pos t
        → (t + pointee_size s p.pointee p.length ≤ q) × MetIn a.seen p × Contains (regions_of a) (region_of s p t)
    led {v = v} {p = p} r c b k l d i there =
        let (x, dx, ends) = All-contains Owns (regions_of a) r accepted_before c in
        let (y, dy, met) = All-contains (AllMet s bytes a.seen) (regions_of a) r (accepted_met s bytes a) c in
        let (z, dz, into) = All-contains (Closed s bytes (regions_of a)) (regions_of a) r (accepted_closed s bytes a) c in
        let whole : Contents s bytes r.begin r.pointee r.length v = rw (b, k, l) d in
        let one : v ≡ x = contents_one_value whole dx in
        let two : v ≡ y = contents_one_value whole dy in
        let three : v ≡ z = contents_one_value whole dz in
        let end = All-contains (EndsBy s r.begin) (pointers x) p ends (rw one at i) in
        let (u, w, leads, inside, filled) = All-contains (LeadsInto s bytes (regions_of a)) (pointers z) p into (rw three at i) in
        let here : u ≡ _ = pos_one (sym leads.target ∙ there) in
        (omega (arith, end.ends _ there, b), All-contains (MetIn a.seen) (pointers y) p met (rw two at i), rw here at inside)

    lower : {q n t u m : ℕ} {P Q : Pointee} → t + pointee_size s Q m ≤ q → Above q P n u → Above t Q m u
    lower end (e, known, at) = (e, known, inl (⊎_elim (λ before. omega (arith, end, before)) (λ here. omega (arith, end, here.0)) at))

    -- so no reading meets an open position, where none was pending before
    pub never_open : (told : Entries) → ((t : ℕ) → told t ≡ Some None → ⊥) → {within : List ℕ} {q n : ℕ} {P : Pointee} → MeetsOpen s bytes told within q P n
        → (r : Region) → Contains (regions_of a) r → r.begin ≡ q → r.pointee ≡ P → r.length ≡ n → ((t : ℕ) → Contains within t → Above q P n t) → ⊥
    never_open told idle (meets_open {q = q} {n = n} {t = t} {P = P} {p = p} {flavor = flavor} d i e there o) r c b k l above = ⊎_elim (idle t) (λ inside.
        let (end, met, into) = led r c b k l d i there in
        let (f, known, at) = above t inside in
        let same : f ≡ entry flavor p = same_some (sym known ∙ met.met t flavor e there) in
        let some = contents_take s laid bytes d i in
        ⊎_elim (λ before. omega (arith, end, before, some))
        (λ here. let sized : pointee_size s P n ≡ pointee_size s p.pointee p.length = rw (here.1, here.2, same) refl in omega (arith, end, here.0, sized, some)) at) o
    never_open told idle (meets_in_unique {q = q} {n = n} {t = t} {P = P} {p = p} d i e there m) r c b k l above =
        let (end, met, into) = led r c b k l d i there in
        never_open told idle m (region_of s p t) into refl refl refl (λ u inside. lower end (above u inside))
    never_open told idle (meets_in_shared {within = within} {q = q} {n = n} {t = t} {P = P} {p = p} {flavor = flavor} d i e there unknown m) r c b k l above =
        let (end, met, into) = led r c b k l d i there in
        never_open told idle m (region_of s p t) into refl refl refl (λ u inside. ⊎_elim
        (λ here. rw (← here) (entry flavor p, met.met t flavor e there, inr (refl, refl, refl)))
        (λ outside. lower end (above u outside)) (contains_cases t within u inside))
