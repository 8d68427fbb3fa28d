-- A meaning is closed: each name that stands in it is known.
use Rattle.std.proofs.Common.{◌≡◌, ℕ, pos, List, [], ◌∷◌, ◌++◌, Some, None, Bool, true, false, cond, nat_cmp, refl, sym, ◌∙◌}
use Rattle.std.specs.FinMap.{get, insert, get-insert}
use Rattle.std.specs.Cmp.{nat_cmp_total}
use Rattle.std.specs.Ordering.{eq_by_cmp}
use Rattle.archive_check.specs.Shape.{Shape, Parts, Pointee, Flavor}
use Rattle.archive_check.specs.Value.{Pointer, Value, Values, hole, pointers, all_pointers}
use Rattle.archive_check.specs.Reads.{SchemaTable, Reads, reads_leaf, reads_parts, reads_choice, reads_array, reads_boxed, reads_vec, reads_map, reads_inline, reads_out_of_line, reads_shared, reads_null, reads_weak, reads_named, ReadsParts, reads_no_part, reads_part, ReadsRun, reads_none, reads_element}
use Rattle.archive_check.specs.Tour.{Region, Contents, contents_one, contents_run, contents_text, Leads, Entry, Seen, entry, Tour, tour_end, tour_unique, tour_new, tour_again}
use Rattle.archive_check.specs.Denotes.{Fills, fills_number, fills_product, fills_case, fills_list, fills_text, fills_box, fills_null, fills_shared_value, fills_unique, fills_shared, FillsAll, fills_no_value, fills_value}
use Rattle.archive_check.specs.Reached.{Names, names_itself, names_product, names_case, names_list, names_box, NamesAmong, names_first, names_later}
use Rattle.archive_check.proofs.Tours.ReadingUnique.{contents_one_value, pos_one, leads_position, leads_value}
use Rattle.archive_check.proofs.Tours.Seen.{same_key, inserted_has}
use Rattle.archive_check.proofs.Editing.RevisedTour.{tour_grows}

hole_no_names : {t : ℕ} {v : Value} {p : Pointer} → Names t v → v ≡ hole p → ⊥
hole_no_names names_itself e = cc
hole_no_names (names_product n) e = cc
hole_no_names (names_case n) e = cc
hole_no_names (names_list n) e = cc
hole_no_names (names_box n) e = cc

module _ (s : SchemaTable) (bytes : List ℕ) where
  -- bytes say no names
  mutual
    pub reads_no_names : {p t : ℕ} {X : Shape} {v : Value} → Reads s bytes p X v → Names t v → ⊥
    reads_no_names (reads_parts r) (names_product n) = parts_no_names r n
    reads_no_names (reads_choice e r) (names_case n) = parts_no_names r n
    reads_no_names (reads_array r) (names_list n) = run_no_names r n
    reads_no_names reads_boxed (names_box n) = hole_no_names n refl
    reads_no_names (reads_named d r) n = reads_no_names r n
    reads_no_names (reads_leaf h) n = elim n [ ]
    reads_no_names reads_vec n = hole_no_names n refl
    reads_no_names reads_map n = hole_no_names n refl
    reads_no_names (reads_inline o u) n = elim n [ ]
    reads_no_names (reads_out_of_line o l) n = hole_no_names n refl
    reads_no_names reads_shared n = hole_no_names n refl
    reads_no_names (reads_null e) n = elim n [ ]
    reads_no_names (reads_weak e) n = hole_no_names n refl

    parts_no_names : {p at t : ℕ} {ps : Parts} {vs : Values} → ReadsParts s bytes p at ps vs → NamesAmong t vs → ⊥
    parts_no_names reads_no_part n = elim n [ ]
    parts_no_names (reads_part r rs) (names_first n) = reads_no_names r n
    parts_no_names (reads_part r rs) (names_later n) = parts_no_names rs n

    run_no_names : {p k t : ℕ} {X : Shape} {vs : Values} → ReadsRun s bytes p k X vs → NamesAmong t vs → ⊥
    run_no_names reads_none n = elim n [ ]
    run_no_names (reads_element r rs) (names_first n) = reads_no_names r n
    run_no_names (reads_element r rs) (names_later n) = run_no_names rs n

  pub contents_no_names : {p n t : ℕ} {P : Pointee} {v : Value} → Contents s bytes p P n v → Names t v → ⊥
  contents_no_names (contents_one r) n = reads_no_names r n
  contents_no_names (contents_run r) (names_list n) = run_no_names r n
  contents_no_names (contents_text u) n = elim n [ ]

  pub record KnownAt (seen : Seen) (t : ℕ) : Type 0 where
    pub entry : Entry
    pub known : get seen t ≡ Some entry

  -- what the pointers lead to has names that are known
  abbrev pub AllKnown : Seen → List Pointer → Type 0
  AllKnown last [] = Unit {0}
  AllKnown last (p ∷ O) = ((w : Value) → Fills s bytes (hole p) w → (t : ℕ) → Names t w → KnownAt last t) × AllKnown last O

  abbrev pub Grows : Seen → Seen → Type 0
  Grows seen last = (t : ℕ) (e : Entry) → get seen t ≡ Some e → get last t ≡ Some e

  known_later : (seen last : Seen) (O : List Pointer) → Grows seen last → AllKnown seen O → AllKnown last O
  known_later seen last [] g h = tt
  known_later seen last (p ∷ O) g h = (λ w f t n. let k = h.0 w f t n in record { entry = k.entry; known = g t k.entry k.known }, known_later seen last O g (h.1))

  known_first : (last : Seen) (O P : List Pointer) → AllKnown last (O ++ P) → AllKnown last O
  known_first last [] P h = tt
  known_first last (p ∷ O) P h = (h.0, known_first last O P (h.1))

  known_then : (last : Seen) (O P : List Pointer) → AllKnown last (O ++ P) → AllKnown last P
  known_then last [] P h = h
  known_then last (p ∷ O) P h = known_then last O P (h.1)

  mutual
    pub filled_known : {last : Seen} {v w : Value} {t : ℕ} → Fills s bytes v w → AllKnown last (pointers v) → (Names t v → ⊥) → Names t w → KnownAt last t
    filled_known fills_number h bare n = elim n [ ]
    filled_known fills_text h bare n = elim n [ ]
    filled_known fills_null h bare n = elim n [ ]
    filled_known (fills_product f) h bare (names_product n) = filled_all_known f h (λ k. bare (names_product k)) n
    filled_known (fills_case f) h bare (names_case n) = filled_all_known f h (λ k. bare (names_case k)) n
    filled_known (fills_list f) h bare (names_list n) = filled_all_known f h (λ k. bare (names_list k)) n
    filled_known (fills_box f) h bare (names_box n) = filled_known f h (λ k. bare (names_box k)) n
    filled_known fills_shared_value h bare n = absurd (bare n)
    filled_known (fills_unique a l f) h bare n = h.0 _ (fills_unique a l f) _ n
    filled_known (fills_shared a l) h bare n = h.0 _ (fills_shared a l) _ n

    filled_all_known : {last : Seen} {vs ws : Values} {t : ℕ} → FillsAll s bytes vs ws → AllKnown last (all_pointers vs) → (NamesAmong t vs → ⊥) → NamesAmong t ws → KnownAt last t
    filled_all_known fills_no_value h bare n = elim n [ ]
    filled_all_known {last} (fills_value {v = v} {vs = vs} f fs) h bare (names_first n) = filled_known f (known_first last (pointers v) (all_pointers vs) h) (λ k. bare (names_first k)) n
    filled_all_known {last} (fills_value {v = v} {vs = vs} f fs) h bare (names_later n) = filled_all_known fs (known_then last (pointers v) (all_pointers vs) h) (λ k. bare (names_later k)) n

  unique_known : {last : Seen} {p : Pointer} {t u : ℕ} {v w : Value} → p.sharing ≡ None → Leads s bytes p t v → AllKnown last (pointers v) → Fills s bytes (hole p) w → Names u w → KnownAt last u
  unique_known {p = p} {t = t} a l h (fills_unique {t = r} {v = x} b k f) n =
      let here : r ≡ t = leads_position l k in
      let there : Leads s bytes p t x = rw here at k in
      filled_known (rw (leads_value l there) at f) h (contents_no_names l.contents) n
  unique_known a l h (fills_shared b k) n = let never : ⊥ = cc in absurd never

  shared_known : {last : Seen} {p : Pointer} {t u : ℕ} {w : Value} {flavor : Flavor} → p.sharing ≡ Some flavor → p.target ≡ pos t → KnownAt last t → Fills s bytes (hole p) w → Names u w → KnownAt last u
  shared_known a b k (fills_unique c l f) n = let never : ⊥ = cc in absurd never
  shared_known {t = t} a b k (fills_shared {t = r} c d) names_itself = let here : r ≡ t = pos_one (sym d ∙ b) in rw here k

  pub tour_known : {pending : List ℕ} {seen last : Seen} {O : List Pointer} {C : List Region} → Tour s bytes pending seen O C last → AllKnown last O
  tour_known tour_end = tt
  tour_known (tour_unique {v = v} a l i j) = (λ w f u n. unique_known a l (known_later _ _ (pointers v) (tour_grows j) (tour_known i)) f n, tour_known j)
  tour_known (tour_new {seen = seen} {p = p} {t = t} {flavor = flavor} a none l i j) =
      (λ w f u n. shared_known a l.target (record { entry = entry flavor p; known = tour_grows j t (entry flavor p) (tour_grows i t (entry flavor p) (inserted_has seen t (entry flavor p))) }) f n, tour_known j)
  tour_known (tour_again {p = p} {t = t} {flavor = flavor} a b known free j) = (λ w f u n. shared_known a b (record { entry = entry flavor p; known = tour_grows j t (entry flavor p) known }) f n, tour_known j)

  -- and so has what is known of shared positions
  abbrev pub EntriesKnown : Seen → Seen → Type 0
  EntriesKnown last seen = (t : ℕ) (e : Entry) → get seen t ≡ Some e → (v w : Value) → Contents s bytes t e.pointee e.length v → Fills s bytes v w → (u : ℕ) → Names u w → KnownAt last u

  inserted_known : (last seen : Seen) (t : ℕ) (e : Entry) (v : Value) → Contents s bytes t e.pointee e.length v → AllKnown last (pointers v) → EntriesKnown last seen → EntriesKnown last (insert seen t e)
  inserted_known last seen t e v c k h q f g = by_key (eq_by_cmp nat_cmp q t) refl (rw (get-insert nat_cmp_total seen t e q) at g)
    where
      by_key : (b : Bool) → eq_by_cmp nat_cmp q t ≡ b → cond b (Some e) (get seen q) ≡ Some f → (x w : Value) → Contents s bytes q f.pointee f.length x → Fills s bytes x w → (u : ℕ) → Names u w → KnownAt last u
      by_key true is g x w d fills u n =
          let same : f ≡ e = cc in let here : q ≡ t = same_key q t is in
          let one : x ≡ v = contents_one_value (rw (here, same) at d) c in
          filled_known (rw one at fills) k (contents_no_names c) n
      by_key false is g x w d fills u n = h q f g x w d fills u n

  pub tour_entries : {pending : List ℕ} {seen last : Seen} {O : List Pointer} {C : List Region} (final : Seen) → Tour s bytes pending seen O C last → Grows last final → EntriesKnown final seen → EntriesKnown final last
  tour_entries final tour_end g h = h
  tour_entries final (tour_unique a l i j) g h = tour_entries final j g (tour_entries final i (λ t e k. g t e (tour_grows j t e k)) h)
  tour_entries final (tour_new {seen = seen} {p = p} {t = t} {v = v} {flavor = flavor} a none l i j) g h =
      let grows : (t : ℕ) (e : Entry) → get _ t ≡ Some e → get final t ≡ Some e = λ t e k. g t e (tour_grows j t e k) in
      tour_entries final j g (tour_entries final i grows (inserted_known final seen t (entry flavor p) v l.contents (known_later _ _ (pointers v) grows (tour_known i)) h))
  tour_entries final (tour_again a b known free j) g h = tour_entries final j g h
