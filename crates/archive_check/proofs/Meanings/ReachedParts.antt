-- The regions of an accepted buffer are a closed set: what is followed from a part of one leads to one.
use Rattle.std.proofs.Common.{◌≡◌, ℕ, zero, suc, ◌+◌, ◌*◌, ◌<◌, ◌≤◌, pos, List, [], ◌∷◌, ◌++◌, length, Some, is_some, Bool, true, false, cond, nat_cmp, Contains, All, slice_index, arith, refl, ap}
use Rattle.std.proofs.lemmas.List.Elements.{All-nil, All-cons, All-append, All-contains, Contains-append_left, Contains-append_right, Contains-push}
use Rattle.std.specs.FinMap.{get, insert, get-insert, get-empty}
use Rattle.std.specs.Cmp.{nat_cmp_total}
use Rattle.std.specs.Ordering.{eq_by_cmp}
use Rattle.archive_check.specs.Shape.{Name, Flavor, Shape, parts, choice, array, str, named, Pointee, one, run, text, Parts, Variants, definition, variant_at}
use Rattle.archive_check.specs.Layout.{size_of}
use Rattle.archive_check.specs.Value.{Pointer, Value, Values, hole, pointers, all_pointers}
use Rattle.archive_check.specs.Reads.{SchemaTable, bytes_at, IsOutOfLine, before_end, Reads, reads_parts, reads_choice, reads_array, reads_inline, reads_out_of_line, reads_named, ReadsParts, reads_part, ReadsRun, reads_none, reads_element}
use Rattle.archive_check.specs.Tour.{Region, region_at, region_of, root_region, pointee_size, Contents, contents_one, contents_run, contents_text, Leads, Entry, Seen, entry, Tour, tour_end, tour_unique, tour_new, tour_again, Accepted}
use Rattle.archive_check.specs.Leaves.{regions_of}
use Rattle.archive_check.specs.Within.{IsPart, first_part, later_part, Within, whole, in_parts, in_choice, in_array, in_named, PartOfRegion, whole_region, in_one, in_run, in_string, PartOfSome}
use Rattle.archive_check.specs.Denotes.{Meaning, Denotes, fills_unique, fills_shared}
use Rattle.archive_check.specs.Reached.{Reached}
use Rattle.archive_check.proofs.Tours.ReadingUnique.{contents_one_value}
use Rattle.archive_check.proofs.Meanings.MeaningUnique.{Filled, AllFilled, fill, tour_fills, fills_one}
use Rattle.archive_check.proofs.Tours.Seen.{same_key}
use Rattle.archive_check.proofs.Editing.Texts.{inline_bytes}
use Rattle.archive_check.proofs.Maps.Entries.{shared_ordered}

-- each of them is one of those
abbrev Among : List Region → List Region → Type 0
Among C D = (r : Region) → Contains C r → Contains D r

module _ (s : SchemaTable) (bytes : List ℕ) where
  -- the pointer leads to one of the regions, and can be filled
  abbrev pub LeadsInto : List Region → Pointer → Type 0
  LeadsInto C q = (t : ℕ) × (v : Value) × Leads s bytes q t v × Contains C (region_of s q t) × Filled s bytes (hole q)

  -- the region says something, and leads to these regions only
  abbrev pub Closed : List Region → Region → Type 0
  Closed C r = (v : Value) × Contents s bytes r.begin r.pointee r.length v × All (LeadsInto C) (pointers v)

  -- the shared positions that were met have regions among these
  abbrev SeenIn : List Region → Seen → Type 0
  SeenIn C seen = (t : ℕ) (e : Entry) → get seen t ≡ Some e → (v : Value) × (t + pointee_size s e.pointee e.length ≤ length bytes) × Contents s bytes t e.pointee e.length v × Contains C (region_at s t e.pointee e.length true)

  shared_region : (p : Pointer) (t : ℕ) {flavor : Flavor} → p.sharing ≡ Some flavor → region_of s p t ≡ region_at s t p.pointee p.length true
  shared_region p t e = ap (λ x. region_at s t p.pointee p.length (is_some x)) e

  inserted : (C : List Region) (seen : Seen) (t : ℕ) (e : Entry) (v : Value) → t + pointee_size s e.pointee e.length ≤ length bytes → Contents s bytes t e.pointee e.length v → Contains C (region_at s t e.pointee e.length true) → SeenIn C seen → SeenIn C (insert seen t e)
  inserted C seen t e v fits c i h q f g = by_key (eq_by_cmp nat_cmp q t) refl (rw (get-insert nat_cmp_total seen t e q) at g)
    where
      by_key : (b : Bool) → eq_by_cmp nat_cmp q t ≡ b → cond b (Some e) (get seen q) ≡ Some f → (v : Value) × (q + pointee_size s f.pointee f.length ≤ length bytes) × Contents s bytes q f.pointee f.length v × Contains C (region_at s q f.pointee f.length true)
      by_key true is g = let same : e ≡ f = cc in let here : q ≡ t = same_key q t is in rw (here, ← same) (v, fits, c, i)
      by_key false is g = h q f g

  tour_seen : {pending : List ℕ} {seen last : Seen} {O : List Pointer} {C : List Region} (i : Tour s bytes pending seen O C last) (D : List Region) → Among C D → SeenIn D seen → SeenIn D last
  tour_seen tour_end E sub h = h
  tour_seen (tour_unique {p = p} {t = t} {C = C} {D = D} e l i j) E sub h =
      tour_seen j E (λ r c. sub r (Contains-append_right C (region_of s p t ∷ D) r (Contains-append_right (region_of s p t ∷ []) D r c)))
      (tour_seen i E (λ r c. sub r (Contains-append_left C (region_of s p t ∷ D) r c)) h)
  tour_seen (tour_new {seen = seen} {p = p} {t = t} {v = v} {C = C} {D = D} {flavor = flavor} e none l i j) E sub h =
      let here : Contains E (region_of s p t) = sub (region_of s p t) (Contains-append_right C (region_of s p t ∷ D) (region_of s p t) (Contains-append_left (region_of s p t ∷ []) D (region_of s p t) (Contains-push [] (region_of s p t)))) in
      tour_seen j E (λ r c. sub r (Contains-append_right C (region_of s p t ∷ D) r (Contains-append_right (region_of s p t ∷ []) D r c)))
      (tour_seen i E (λ r c. sub r (Contains-append_left C (region_of s p t ∷ D) r c)) (inserted E seen t (entry flavor p) v l.fits l.contents (rw (shared_region p t e) at here) h))
  tour_seen (tour_again e t known free j) E sub h = tour_seen j E sub h

  closed_region : (C : List Region) (r : Region) (D E : List Region) → All (Closed E) C → Closed E r → All (Closed E) D → All (Closed E) (C ++ r ∷ D)
  closed_region C r D E h i j = All-append (Closed E) C (r ∷ D) h (All-cons (Closed E) r D i j)

  tour_closed : {pending : List ℕ} {seen last : Seen} {O : List Pointer} {C : List Region} (i : Tour s bytes pending seen O C last) (D : List Region) → Among C D → SeenIn D seen → All (LeadsInto D) O × All (Closed D) C
  tour_closed tour_end E sub h = (All-nil (LeadsInto E), All-nil (Closed E))
  tour_closed (tour_unique {p = p} {ps = O} {t = t} {v = v} {C = C} {D = D} e l i j) E sub h =
      let here : Contains E (region_of s p t) = sub (region_of s p t) (Contains-append_right C (region_of s p t ∷ D) (region_of s p t) (Contains-append_left (region_of s p t ∷ []) D (region_of s p t) (Contains-push [] (region_of s p t)))) in
      let left : Among C E = λ r c. sub r (Contains-append_left C (region_of s p t ∷ D) r c) in
      let right : Among D E = λ r c. sub r (Contains-append_right C (region_of s p t ∷ D) r (Contains-append_right (region_of s p t ∷ []) D r c)) in
      let own = tour_closed i E left h in
      let rest = tour_closed j E right (tour_seen i E left h) in
      let w = fill s bytes v (tour_fills s bytes i) in
      (All-cons (LeadsInto E) p O (t, v, l, here, (w.0, fills_unique e l (w.1))) (rest.0), closed_region C (region_of s p t) D E (own.1) (v, l.contents, own.0) (rest.1))
  tour_closed (tour_new {seen = seen} {p = p} {ps = O} {t = t} {v = v} {C = C} {D = D} {flavor = flavor} e none l i j) E sub h =
      let here : Contains E (region_of s p t) = sub (region_of s p t) (Contains-append_right C (region_of s p t ∷ D) (region_of s p t) (Contains-append_left (region_of s p t ∷ []) D (region_of s p t) (Contains-push [] (region_of s p t)))) in
      let left : Among C E = λ r c. sub r (Contains-append_left C (region_of s p t ∷ D) r c) in
      let right : Among D E = λ r c. sub r (Contains-append_right C (region_of s p t ∷ D) r (Contains-append_right (region_of s p t ∷ []) D r c)) in
      let met : SeenIn E (insert seen t (entry flavor p)) = inserted E seen t (entry flavor p) v l.fits l.contents (rw (shared_region p t e) at here) h in
      let own = tour_closed i E left met in
      let rest = tour_closed j E right (tour_seen i E left met) in
      (All-cons (LeadsInto E) p O (t, v, l, here, (_, fills_shared e l.target)) (rest.0), closed_region C (region_of s p t) D E (own.1) (v, l.contents, own.0) (rest.1))
  tour_closed (tour_again {p = p} {ps = O} {t = t} {flavor = flavor} e g known free j) E sub h =
      let (v, fits, c, here) = h t (entry flavor p) known in
      let there : Contains E (region_of s p t) = rw (shared_region p t e) here in
      let rest = tour_closed j E sub h in
      (All-cons (LeadsInto E) p O (t, v, record { target = g; fits = fits; contents = c; ordered = shared_ordered p e }, there, (_, fills_shared e g)) (rest.0), rest.1)

  pub accepted_closed : {root : ℕ} {X : Shape} (a : Accepted s bytes root X) → All (Closed (regions_of a)) (regions_of a)
  accepted_closed {root = root} {X = X} a =
      let h = tour_closed a.tour (regions_of a) (λ r c. Contains-append_left a.regions (root_region s root X ∷ []) r c) (λ t e g. cc (get-empty {X = Entry} nat_cmp t)) in
      closed_region a.regions (root_region s root X) [] (regions_of a) (h.1) (a.value, contents_one a.flat.reads, h.0) (All-nil (Closed (regions_of a)))

  -- a part reads, and what it leads to is among these pointers
  abbrev pub Sub : ℕ → Shape → List Pointer → Type 0
  Sub q Y O = (w : Value) × Reads s bytes q Y w × ((z : Pointer) → Contains (pointers w) z → Contains O z)

  part_reads : {p at q : ℕ} {ps : Parts} {vs : Values} {Y : Shape} → IsPart s p at ps q Y → ReadsParts s bytes p at ps vs → Sub q Y (all_pointers vs)
  part_reads first_part (reads_part {v = v} {vs = vs} r rs) = (v, r, λ z c. Contains-append_left (pointers v) (all_pointers vs) z c)
  part_reads (later_part i) (reads_part {v = v} {vs = vs} r rs) = let (w, h, f) = part_reads i rs in (w, h, λ z c. Contains-append_right (pointers v) (all_pointers vs) z (f z c))

  pub run_reads : {p n : ℕ} {X : Shape} {vs : Values} (k q : ℕ) → q ≡ p + k * size_of s.layouts X → k < n → ReadsRun s bytes p n X vs → Sub q X (all_pointers vs)
  run_reads k q e below reads_none = absurd (omega arith)
  run_reads zero q e below (reads_element {p = p} {v = v} {vs = vs} r rs) = let here : q ≡ p = omega arith in (v, rw here r, λ z c. Contains-append_left (pointers v) (all_pointers vs) z c)
  run_reads (suc k) q e below (reads_element {p = p} {X = X} {v = v} {vs = vs} r rs) =
      let (w, h, f) = run_reads k q (omega arith) (omega arith) rs in (w, h, λ z c. Contains-append_right (pointers v) (all_pointers vs) z (f z c))

  parts_step : {q r : ℕ} {ps : Parts} {u : Value} {Y : Shape} → Reads s bytes q (parts ps) u → IsPart s q 0 ps r Y → Sub r Y (pointers u)
  parts_step (reads_parts rs) i = part_reads i rs

  choice_step : {q r : ℕ} {name : Name} {variants : Variants} {ps : Parts} {u : Value} {Y : Shape} → Reads s bytes q (choice name variants) u → variant_at variants (slice_index bytes q) ≡ Some ps → IsPart s q 1 ps r Y → Sub r Y (pointers u)
  choice_step {ps = ps} (reads_choice {ps = qs} e rs) f i = let same : qs ≡ ps = cc in part_reads i (rw same at rs)

  array_step : {q n k : ℕ} {u : Value} {Y : Shape} → Reads s bytes q (array n Y) u → k < n → Sub (q + k * size_of s.layouts Y) Y (pointers u)
  array_step {k = k} (reads_array rs) below = run_reads k _ refl below rs

  named_step : {q : ℕ} {name : Name} {u : Value} {Y : Shape} → Reads s bytes q (named name) u → definition s.table name ≡ Some Y → Sub q Y (pointers u)
  named_step {u = u} {Y = Y} (reads_named {X = Z} d r) e = let same : Z ≡ Y = cc in (u, rw same at r, λ z c. c)

  then : {r : ℕ} {Z : Shape} (O P : List Pointer) → Sub r Z P → ((z : Pointer) → Contains P z → Contains O z) → Sub r Z O
  then O P (x, k, g) f = (x, k, λ z c. f z (g z c))

  pub within_reads : {p : ℕ} {X : Shape} {q : ℕ} {Y : Shape} {v : Value} → Within s bytes p X q Y → Reads s bytes p X v → Sub q Y (pointers v)
  within_reads {v = v} whole r = (v, r, λ z c. c)
  within_reads {v = v} (in_parts w i) r = let (u, h, f) = within_reads w r in then (pointers v) (pointers u) (parts_step h i) f
  within_reads {v = v} (in_choice w e i) r = let (u, h, f) = within_reads w r in then (pointers v) (pointers u) (choice_step h e i) f
  within_reads {v = v} (in_array w below) r = let (u, h, f) = within_reads w r in then (pointers v) (pointers u) (array_step h below) f
  within_reads {v = v} (in_named w d) r = let (u, h, f) = within_reads w r in then (pointers v) (pointers u) (named_step h d) f

  -- so of what lies in a region
  abbrev SubContents : ℕ → Pointee → ℕ → List Pointer → Type 0
  SubContents q P n O = (w : Value) × Contents s bytes q P n w × ((z : Pointer) → Contains (pointers w) z → Contains O z)

  one_step : {t n q : ℕ} {X Y : Shape} {v : Value} → Contents s bytes t (one X) n v → Within s bytes t X q Y → SubContents q (one Y) 0 (pointers v)
  one_step (contents_one r) w = let (u, h, f) = within_reads w r in (u, contents_one h, f)

  run_step : {t n k q : ℕ} {X Y : Shape} {v : Value} → Contents s bytes t (run X) n v → k < n → Within s bytes (t + k * size_of s.layouts X) X q Y → SubContents q (one Y) 0 (pointers v)
  run_step {t = t} {k = k} {X = X} (contents_run rs) below w =
      let (e, g, f) = run_reads k (t + k * size_of s.layouts X) refl below rs in
      let (u, h, i) = within_reads w g in (u, contents_one h, λ z c. f z (i z c))

  string_step : {q n : ℕ} {v : Value} → Contents s bytes q (one str) n v → (IsOutOfLine bytes q → ⊥) → SubContents q text (length (before_end (bytes_at bytes q 8))) (pointers v)
  string_step {q = q} (contents_one (reads_inline o u)) inline = (_, contents_text (rw (inline_bytes bytes q) u), λ z c. c)
  string_step (contents_one (reads_out_of_line o long)) inline = absurd (inline o)

  pub part_of_reads : {r : Region} {q : ℕ} {P : Pointee} {n : ℕ} {v : Value} → PartOfRegion s bytes r q P n → Contents s bytes r.begin r.pointee r.length v → SubContents q P n (pointers v)
  part_of_reads {v = v} whole_region c = (v, c, λ z h. h)
  part_of_reads (in_one e w) c = one_step (rw e at c) w
  part_of_reads (in_run e below w) c = run_step (rw e at c) below w
  part_of_reads {v = v} (in_string i inline) c = let (w, h, f) = part_of_reads i c in let (u, k, g) = string_step h inline in (u, k, λ z d. f z (g z d))

  all_filled : (C : List Region) (O : List Pointer) → ((z : Pointer) → Contains O z → LeadsInto C z) → AllFilled s bytes O
  all_filled C [] h = tt
  all_filled C (p ∷ O) h = ((h p (Contains-append_left (p ∷ []) O p (Contains-push [] p))).4, all_filled C O (λ z c. h z (Contains-append_right (p ∷ []) O z c)))

  -- each part is reached, with a filled value
  pub part_reached : {root : ℕ} {X : Shape} (a : Accepted s bytes root X) {p : ℕ} {P : Pointee} {n : ℕ} → PartOfSome s bytes (regions_of a) p P n → (w : Value) × Reached s bytes root X p P n w
  part_reached a (r, c, i) =
      let (v, h, leads) = All-contains (Closed (regions_of a)) (regions_of a) r (accepted_closed a) c in
      let (w, k, f) = part_of_reads i h in
      let x = fill s bytes w (all_filled (regions_of a) (pointers w) (λ z d. All-contains (LeadsInto (regions_of a)) (pointers v) z leads (f z d))) in
      (x.0, record { accepted = a; part = (r, c, i); value = w; reads = k; filled = x.1 })

  pub reached_one : {root : ℕ} {X : Shape} {p : ℕ} {P : Pointee} {n : ℕ} {v w : Value} → Reached s bytes root X p P n v → Reached s bytes root X p P n w → v ≡ w
  reached_one h k = fills_one s bytes h.filled (rw (contents_one_value h.reads k.reads) k.filled)

  -- and each pointer of it leads to a reached part
  pub pointer_reached : {root : ℕ} {X : Shape} {p : ℕ} {P : Pointee} {n : ℕ} {w : Value} (h : Reached s bytes root X p P n w) (q : Pointer) → Contains (pointers h.value) q → (t : ℕ) × (q.target ≡ pos t) × (u : Value) × Reached s bytes root X t q.pointee q.length u
  pointer_reached h q c =
      let (r, d, i) = h.part in
      let (v, k, leads) = All-contains (Closed (regions_of h.accepted)) (regions_of h.accepted) r (accepted_closed h.accepted) d in
      let (w, m, f) = part_of_reads i k in
      let same : h.value ≡ w = contents_one_value h.reads m in
      let (t, x, l, e, y) = All-contains (LeadsInto (regions_of h.accepted)) (pointers v) q leads (f q (rw same at c)) in
      let z = part_reached h.accepted {p = t} {P = q.pointee} {n = q.length} (region_of s q t, e, whole_region) in (t, l.target, z.0, z.1)

  -- whose pointee is in its order
  pub pointer_leads : {root : ℕ} {X : Shape} {p : ℕ} {P : Pointee} {n : ℕ} {w : Value} (h : Reached s bytes root X p P n w) (q : Pointer) → Contains (pointers h.value) q → (t : ℕ) × (u : Value) × Leads s bytes q t u
  pointer_leads h q c =
      let (r, d, i) = h.part in
      let (v, k, leads) = All-contains (Closed (regions_of h.accepted)) (regions_of h.accepted) r (accepted_closed h.accepted) d in
      let (w, m, f) = part_of_reads i k in
      let same : h.value ≡ w = contents_one_value h.reads m in
      let (t, x, l, e, y) = All-contains (LeadsInto (regions_of h.accepted)) (pointers v) q leads (f q (rw same at c)) in (t, x, l)

  pub root_reached : {root : ℕ} {X : Shape} {m : Meaning} → Denotes s bytes root X m → Reached s bytes root X root (one X) 0 m.value
  root_reached {root = root} {X = X} h = record {
    accepted = h.accepted;
    part = (root_region s root X, Contains-push h.accepted.regions (root_region s root X), whole_region);
    value = h.accepted.value;
    reads = contents_one h.accepted.flat.reads;
    filled = h.root_value;
  }

  pub within_trans : {p : ℕ} {X : Shape} {q : ℕ} {Y : Shape} {r : ℕ} {Z : Shape} → Within s bytes p X q Y → Within s bytes q Y r Z → Within s bytes p X r Z
  within_trans w whole = w
  within_trans w (in_parts v i) = in_parts (within_trans w v) i
  within_trans w (in_choice v e i) = in_choice (within_trans w v) e i
  within_trans w (in_array v below) = in_array (within_trans w v) below
  within_trans w (in_named v d) = in_named (within_trans w v) d

  pub part_within : {r : Region} {q : ℕ} {P : Pointee} {n : ℕ} {Y : Shape} {z : ℕ} {Z : Shape} → PartOfRegion s bytes r q P n → P ≡ one Y → Within s bytes q Y z Z → PartOfRegion s bytes r z (one Z) 0
  part_within whole_region same w = in_one same w
  part_within {Y = Y} (in_one {Y = V} e v) same w = let here : V ≡ Y = cc in in_one e (within_trans (rw here at v) w)
  part_within {Y = Y} (in_run {Y = V} e below v) same w = let here : V ≡ Y = cc in in_run e below (within_trans (rw here at v) w)
  part_within (in_string i inline) same w = cc

  pub part_element : {r : Region} {q : ℕ} {P : Pointee} {n : ℕ} {Y : Shape} {k : ℕ} → PartOfRegion s bytes r q P n → P ≡ run Y → k < n → PartOfRegion s bytes r (q + k * size_of s.layouts Y) (one Y) 0
  part_element whole_region same below = in_run same below whole
  part_element (in_one e v) same below = cc
  part_element (in_run e under v) same below = cc
  part_element (in_string i inline) same below = cc

  pub within_reached : {root p n : ℕ} {X Y : Shape} {w : Value} {q : ℕ} {Z : Shape} → Reached s bytes root X p (one Y) n w → Within s bytes p Y q Z → (u : Value) × Reached s bytes root X q (one Z) 0 u
  within_reached h w = let (r, c, i) = h.part in part_reached h.accepted (r, c, part_within i refl w)

  pub element_reached : {root p n k : ℕ} {X Y : Shape} {w : Value} → Reached s bytes root X p (run Y) n w → k < n → (u : Value) × Reached s bytes root X (p + k * size_of s.layouts Y) (one Y) 0 u
  element_reached h below = let (r, c, i) = h.part in part_reached h.accepted (r, c, part_element i refl below)
