-- What an archive means holds the names that its value leads to, and no others.
use Rattle.std.proofs.Common.{◌≡◌, ◌⊎◌, inl, inr, ℕ, List, [], ◌∷◌, ◌++◌, Option, Some, None, Bool, true, false, nat_cmp, refl, sym, ap, ◌∙◌}
use Rattle.std.specs.FinMap.{FinMap, empty, get, insert, get-insert, get-empty}
use Rattle.std.specs.Cmp.{nat_cmp_total}
use Rattle.std.specs.Ordering.{eq_by_cmp}
use Rattle.archive_check.specs.Shape.{Shape, one}
use Rattle.archive_check.specs.Value.{Pointer, Value, Values, hole, shared_value, value, pointers, all_pointers}
use Rattle.archive_check.specs.Reads.{SchemaTable}
use Rattle.archive_check.specs.Tour.{Region, Contents, Entry, Seen, entry, Tour, tour_end, tour_unique, tour_new, tour_again}
use Rattle.archive_check.specs.Denotes.{Meaning, Fills, fills_number, fills_product, fills_case, fills_list, fills_text, fills_box, fills_null, fills_shared_value, fills_unique, fills_shared, FillsAll, fills_no_value, fills_value, IsSharedValue, Denotes}
use Rattle.archive_check.specs.Reached.{Names, names_itself, names_product, names_case, names_list, names_box, NamesAmong, names_first, names_later, LeadsTo, leads_at_once, leads_through, ReachedMeaning}
use Rattle.archive_check.proofs.Tours.ReadingUnique.{contents_one_value}
use Rattle.archive_check.proofs.Meanings.MeaningUnique.{fill, tour_fills, fills_one}
use Rattle.archive_check.proofs.Tours.Seen.{same_key, inserted_has, same_some}
use Rattle.archive_check.proofs.Meanings.ReachedParts.{root_reached}
use Rattle.archive_check.proofs.Editing.RevisedTour.{tour_grows}
use Rattle.archive_check.proofs.Meanings.NamesKnown.{reads_no_names, KnownAt, filled_known, tour_known, tour_entries}

abbrev pub Shared : Type 0
Shared = FinMap nat_cmp (Entry × Value)

nothing_met : (t : ℕ) (e : Entry) → get {R = nat_cmp} empty t ≡ Some e → ⊥
nothing_met t e g = let none : get {R = nat_cmp} empty t ≡ None = get-empty {X = Entry} nat_cmp t in cc

-- what a value leads to, one with its names leads to
lift : {shared : Shared} {v w : Value} {t : ℕ} → LeadsTo shared v t → ((u : ℕ) → Names u v → Names u w) → LeadsTo shared w t
lift (leads_at_once n) f = leads_at_once (f _ n)
lift (leads_through l k n) f = leads_through (lift l f) k n

-- what a shared value leads to, its name leads to
by_name : {shared : Shared} {t : ℕ} {e : Entry} {w : Value} {u : ℕ} → get shared t ≡ Some (e, w) → LeadsTo shared w u → LeadsTo shared (shared_value t) u
by_name k (leads_at_once n) = leads_through (leads_at_once names_itself) k n
by_name k (leads_through l j n) = leads_through (by_name k l) j n

module _ (s : SchemaTable) (bytes : List ℕ) where
  -- an entry of the map, where its position was seen
  pub record Says (shared : Shared) (t : ℕ) (e : Entry) : Type 0 where
    pub read : Value
    pub filled : Value
    pub contents : Contents s bytes t e.pointee e.length read
    pub fills : Fills s bytes read filled
    pub known : get shared t ≡ Some (e, filled)

  pub says_at : (shared : Shared) (t : ℕ) (e : Entry) (seen : Option Entry) → IsSharedValue s bytes t seen (get shared t) → seen ≡ Some e → Says shared t e
  says_at shared t e None k is = let never : ⊥ = cc in absurd never
  says_at shared t e (Some f) (v, w, c, g, k) is = let same : f ≡ e = cc in rw (← same) (record { read = v; filled = w; contents = c; fills = g; known = k })

  -- and it was seen, where the map has an entry
  seen_at : (shared : Shared) (t : ℕ) (e : Entry) (w : Value) (seen : Option Entry) → IsSharedValue s bytes t seen (get shared t) → get shared t ≡ Some (e, w) → seen ≡ Some e
  seen_at shared t e w None k is = let never : ⊥ = cc in absurd never
  seen_at shared t e w (Some f) (v, x, c, g, k) is = let same : Some (f, x) ≡ Some (e, w) = sym k ∙ is in ap (λ z. Some (z.0)) (same_some same)

  -- each name that a meaning leads to is known
  pub names_known : {root : ℕ} {X : Shape} {m : Meaning} → Denotes s bytes root X m → (t : ℕ) → LeadsTo m.shared m.value t → (e : Entry) × (w : Value) × (get m.shared t ≡ Some (e, w))
  names_known {m = m} h t l = let k = seen t l in let r = says_at m.shared t k.entry (get h.accepted.seen t) (h.shared t) k.known in (k.entry, r.filled, r.known)
    where
      seen : (t : ℕ) → LeadsTo m.shared m.value t → KnownAt s bytes h.accepted.seen t
      seen t (leads_at_once n) = filled_known s bytes h.root_value (tour_known s bytes h.accepted.tour) (λ k. reads_no_names s bytes h.accepted.flat.reads k) n
      seen t (leads_through {t = u} {e = e} {w = w} l k n) =
          let here = seen_at m.shared u e w (get h.accepted.seen u) (h.shared u) k in
          let r = says_at m.shared u e (get h.accepted.seen u) (h.shared u) here in
          let both : Some (e, r.filled) ≡ Some (e, w) = sym r.known ∙ k in
          let same : r.filled ≡ w = ap (λ z. z.1) (same_some both) in
          tour_entries s bytes h.accepted.seen h.accepted.tour (λ t e k. k) (λ q f g. absurd (nothing_met q f g)) u e here r.read w r.contents (rw same at r.fills) t n

  -- what one of the pointers leads to leads to the name
  abbrev pub OneLeads : Shared → List Pointer → ℕ → Type 0
  OneLeads shared [] t = ⊥
  OneLeads shared (p ∷ O) t = ((w : Value) × Fills s bytes (hole p) w × LeadsTo shared w t) ⊎ OneLeads shared O t

  either : (shared : Shared) (O P : List Pointer) (t : ℕ) → OneLeads shared (O ++ P) t → OneLeads shared O t ⊎ OneLeads shared P t
  either shared [] P t h = inr h
  either shared (p ∷ O) P t (inl h) = inl (inl h)
  either shared (p ∷ O) P t (inr h) = by_part (either shared O P t h)
    where
      by_part : OneLeads shared O t ⊎ OneLeads shared P t → OneLeads shared (p ∷ O) t ⊎ OneLeads shared P t
      by_part (inl k) = inl (inr k)
      by_part (inr k) = inr k

  -- a part of a filled value leads to the name
  abbrev pub PartLeads : Shared → Value → ℕ → Type 0
  PartLeads shared w t = (x : Value) × LeadsTo shared x t × ((u : ℕ) → Names u x → Names u w)

  abbrev pub PartAmong : Shared → Values → ℕ → Type 0
  PartAmong shared ws t = (x : Value) × LeadsTo shared x t × ((u : ℕ) → Names u x → NamesAmong u ws)

  at_hole : (shared : Shared) (p : Pointer) (w : Value) (t : ℕ) → Fills s bytes (hole p) w → OneLeads shared (p ∷ []) t → PartLeads shared w t
  at_hole shared p w t f (inl (x, g, l)) = let same : x ≡ w = fills_one s bytes g f in (w, rw same at l, λ u n. n)
  at_hole shared p w t f (inr h) = absurd h

  by_mid : {A B : Type 0} (x : Option Entry) → ((e : Entry) → x ≡ Some e → A) → (x ≡ None → B) → A ⊎ B
  by_mid None f g = inr (g refl)
  by_mid (Some e) f g = inl (f e refl)

  by_place : {A : Type 0} (seen : Seen) (q t : ℕ) (e : Entry) → get seen t ≡ None → (t ≡ q → A) → (get (insert seen q e) t ≡ None → A) → A
  by_place {A} seen q t e unseen f g = by_key (eq_by_cmp nat_cmp t q) refl
    where
      by_key : (b : Bool) → eq_by_cmp nat_cmp t q ≡ b → A
      by_key true is = f (same_key t q is)
      by_key false is = g (rw (get-insert nat_cmp_total seen q e t, is) unseen)

  by_part : {A B : Type 0} (shared : Shared) (t : ℕ) (w : Value) (ws : Values) → (A → PartLeads shared w t) → (B → PartAmong shared ws t) → A ⊎ B → PartAmong shared (value w ws) t
  by_part shared t w ws f g (inl a) = let (x, l, h) = f a in (x, l, λ u n. names_first (h u n))
  by_part shared t w ws f g (inr b) = let (x, l, h) = g b in (x, l, λ u n. names_later (h u n))

  mutual
    filled_leads : (shared : Shared) (t : ℕ) {v w : Value} → Fills s bytes v w → OneLeads shared (pointers v) t → PartLeads shared w t
    filled_leads shared t fills_number h = absurd h
    filled_leads shared t (fills_product f) h = let (x, l, g) = filled_all_lead shared t f h in (x, l, λ u n. names_product (g u n))
    filled_leads shared t (fills_case f) h = let (x, l, g) = filled_all_lead shared t f h in (x, l, λ u n. names_case (g u n))
    filled_leads shared t (fills_list f) h = let (x, l, g) = filled_all_lead shared t f h in (x, l, λ u n. names_list (g u n))
    filled_leads shared t fills_text h = absurd h
    filled_leads shared t (fills_box f) h = let (x, l, g) = filled_leads shared t f h in (x, l, λ u n. names_box (g u n))
    filled_leads shared t fills_null h = absurd h
    filled_leads shared t fills_shared_value h = absurd h
    filled_leads shared t (fills_unique {p = p} a l f) h = at_hole shared p _ t (fills_unique a l f) h
    filled_leads shared t (fills_shared {p = p} a l) h = at_hole shared p _ t (fills_shared a l) h

    filled_all_lead : (shared : Shared) (t : ℕ) {vs ws : Values} → FillsAll s bytes vs ws → OneLeads shared (all_pointers vs) t → PartAmong shared ws t
    filled_all_lead shared t fills_no_value h = absurd h
    filled_all_lead shared t (fills_value {v = v} {w = w} {vs = vs} {ws = ws} f fs) h = by_part shared t w ws (λ k. filled_leads shared t f k) (λ k. filled_all_lead shared t fs k) (either shared (pointers v) (all_pointers vs) t h)

  abbrev pub AllSays : Shared → Seen → Type 0
  AllSays shared seen = (t : ℕ) (e : Entry) → get seen t ≡ Some e → Says shared t e

  -- what is first met on a tour, one of its pointers leads to
  tour_leads : {pending : List ℕ} {seen last : Seen} {O : List Pointer} {C : List Region} (shared : Shared) → Tour s bytes pending seen O C last → AllSays shared last
      → (t : ℕ) → get seen t ≡ None → (e : Entry) → get last t ≡ Some e → OneLeads shared O t
  tour_leads shared tour_end says t unseen e known = let never : ⊥ = cc in absurd never
  tour_leads shared (tour_unique {mid = mid} {v = v} a l i j) says t unseen e known = by_mid (get mid t)
      (λ f k. let r = fill s bytes v (tour_fills s bytes i) in
      let (x, y, g) = filled_leads shared t (r.1) (tour_leads shared i (λ q d m. says q d (tour_grows j q d m)) t unseen f k) in (r.0, fills_unique a l (r.1), lift y g))
      (λ k. tour_leads shared j says t k e known)
  tour_leads shared (tour_new {seen = seen} {mid = mid} {p = p} {t = q} {v = v} {flavor = flavor} a none l i j) says t unseen e known = by_mid (get mid t)
      (λ f k. by_place seen q t (entry flavor p) unseen
      (λ here. (shared_value q, fills_shared a l.target, rw here (leads_at_once names_itself)))
      (λ unmet.
      let r = fill s bytes v (tour_fills s bytes i) in
      let (x, y, g) = filled_leads shared t (r.1) (tour_leads shared i (λ q d m. says q d (tour_grows j q d m)) t unmet f k) in
      let w = says q (entry flavor p) (tour_grows j q (entry flavor p) (tour_grows i q (entry flavor p) (inserted_has seen q (entry flavor p)))) in
      let same : w.filled ≡ r.0 = fills_one s bytes (rw (contents_one_value w.contents l.contents) at w.fills) (r.1) in
      (shared_value q, fills_shared a l.target, by_name (rw same at w.known) (lift y g))))
      (λ k. tour_leads shared j says t k e known)
  tour_leads shared (tour_again a b met free j) says t unseen e known = inr (tour_leads shared j says t unseen e known)

  -- each name that a meaning knows is led to
  pub names_reached : {root : ℕ} {X : Shape} {m : Meaning} → Denotes s bytes root X m → (t : ℕ) (e : Entry) (w : Value) → get m.shared t ≡ Some (e, w) → LeadsTo m.shared m.value t
  names_reached {m = m} h t e w k =
      let says : AllSays m.shared h.accepted.seen = λ q f g. says_at m.shared q f (get h.accepted.seen q) (h.shared q) g in
      let first = tour_leads m.shared h.accepted.tour says t (get-empty {X = Entry} nat_cmp t) e (seen_at m.shared t e w (get h.accepted.seen t) (h.shared t) k) in
      let (x, l, g) = filled_leads m.shared t h.root_value first in lift l g

  -- so that the root says what the archive means, with its map
  pub root_reached_meaning : {root : ℕ} {X : Shape} {m : Meaning} → Denotes s bytes root X m → ReachedMeaning s bytes root X root (one X) 0 m
  root_reached_meaning {m = m} h = record { reached = root_reached s bytes h; archive = m; denotes = h; shared = λ t e w. (λ k. (names_reached h t e w k, k), λ r. r.1) }
