-- What is read in a region that no key leads to leads to such regions, but for keys, which lead to texts of their own.
use Rattle.std.proofs.Common.{◌≡◌, ℕ, ◌+◌, ◌≤◌, List, [], ◌∷◌, ◌++◌, length, Option, Some, None, is_some, Bool, true, false, cond, nat_cmp, Contains, refl, sym, ap, ◌∙◌, subst, ⊎_elim, append_assoc}
use Rattle.std.proofs.lemmas.List.{append-nil}
use Rattle.std.proofs.lemmas.List.Elements.{Contains-append_left, Contains-append_right, Contains-append_cases}
use Rattle.std.specs.FinMap.{get, insert, get-insert, get-empty}
use Rattle.std.specs.Cmp.{nat_cmp_total}
use Rattle.std.specs.Ordering.{eq_by_cmp}
use Rattle.archive_check.specs.Shape.{Flavor, Kind, Key, leaf_key, str_key, Shape, leaf, str, Pointee, text, key_shape, entry_of}
use Rattle.archive_check.specs.Value.{Pointer, Value, Values, pointers, all_pointers}
use Rattle.archive_check.specs.Reads.{SchemaTable, string_at, Reads, reads_leaf, reads_parts, reads_inline, reads_out_of_line, reads_no_part, reads_part, ReadsRun, reads_none, reads_element}
use Rattle.archive_check.specs.Keys.{order_of, IsInOrder, in_any_order, in_key_order}
use Rattle.archive_check.specs.Tour.{Region, region_at, region_of, root_region, pointee_size, Contents, contents_one, contents_run, contents_text, Leads, Entry, Seen, entry, Tour, tour_end, tour_unique, tour_new, tour_again, Accepted}
use Rattle.archive_check.proofs.Elements.{contains_first, contains_later, contains_cases}
use Rattle.archive_check.proofs.Tours.Seen.{same_key}
use Rattle.archive_check.proofs.Maps.Entries.{shared_ordered}
use Rattle.archive_check.proofs.Maps.FreeRegions.{marks, first_mark, later_marks, each_marked, marks_of_entries, AllMarked, Free, free_of, keys_of, none_in}

-- a key's pointer leads to a text of its own, in any order
abbrev pub IsText : Pointer → Type 0
IsText p = (p.sharing ≡ None) × (p.pointee ≡ text) × (order_of p ≡ None)

abbrev pub Any : Pointer → Type 0
Any p = Unit {0}

module _ (Q P : Pointer → Type 0) where
  marked_keys : (O : List Pointer) (M : List Bool) (R : List Pointer) → ((p : Pointer) → Contains O p → Q p) → AllMarked Q P M R → AllMarked Q P (each_marked true O ++ M) (O ++ R)
  marked_keys [] M R h k = k
  marked_keys (p ∷ O) M R h k = (λ e. h p (contains_first O p), λ e. cc e, marked_keys O M R (λ q c. h q (contains_later p O q c)) k)

  marked_values : (O : List Pointer) (M : List Bool) (R : List Pointer) → ((p : Pointer) → P p) → AllMarked Q P M R → AllMarked Q P (each_marked false O ++ M) (O ++ R)
  marked_values [] M R h k = k
  marked_values (p ∷ O) M R h k = (λ e. cc e, λ e. h p, marked_values O M R h k)

  pub marked_none : (O : List Pointer) → ((p : Pointer) → P p) → AllMarked Q P [] O
  marked_none [] h = tt
  marked_none (p ∷ O) h = (λ e. cc e, λ e. h p, marked_none O h)

module _ (s : SchemaTable) (bytes : List ℕ) where
  leaf_texts : {q : ℕ} {kind : Kind} {v : Value} → Reads s bytes q (leaf kind) v → (p : Pointer) → Contains (pointers v) p → IsText p
  leaf_texts (reads_leaf h) p c = none_in c

  str_texts : {q : ℕ} {v : Value} → Reads s bytes q str v → (p : Pointer) → Contains (pointers v) p → IsText p
  str_texts (reads_inline o h) p c = none_in c
  str_texts {q = q} (reads_out_of_line o h) p c = ⊎_elim (λ e. rw (← e) (refl, refl, refl)) (λ m. none_in m) (contains_cases (string_at bytes q) [] p c)

  key_texts : {q : ℕ} {v : Value} (K : Key) → Reads s bytes q (key_shape K) v → (p : Pointer) → Contains (pointers v) p → IsText p
  key_texts (leaf_key kind) r p c = leaf_texts r p c
  key_texts str_key r p c = str_texts r p c

  module _ (K : Key) (V : Shape) where
    entries_texts : {p n : ℕ} {vs : Values} → ReadsRun s bytes p n (entry_of K V) vs → AllMarked IsText Any (marks_of_entries vs) (all_pointers vs)
    entries_texts reads_none = tt
    entries_texts (reads_element {vs = vs} (reads_parts (reads_part {v = u} r (reads_part {v = w} r' reads_no_part))) rs) =
        let same : (pointers u ++ (pointers w ++ [])) ++ all_pointers vs ≡ pointers u ++ (pointers w ++ all_pointers vs)
        = append_assoc (pointers u) (pointers w ++ []) (all_pointers vs) ∙ ap (λ x. pointers u ++ (x ++ all_pointers vs)) (append-nil (pointers w)) in
        subst (λ O. AllMarked IsText Any (each_marked true (pointers u) ++ (each_marked false (pointers w) ++ marks_of_entries vs)) O) (sym same)
        (marked_keys IsText Any (pointers u) (each_marked false (pointers w) ++ marks_of_entries vs) (pointers w ++ all_pointers vs) (key_texts K r)
        (marked_values IsText Any (pointers w) (marks_of_entries vs) (all_pointers vs) (λ p. tt) (entries_texts rs)))

  -- the marked pointers of what a region says are keys'
  pub marks_texts : {t n : ℕ} {o : Option Key} {P : Pointee} {v : Value} → Contents s bytes t P n v → IsInOrder s bytes t n o P → AllMarked IsText Any (marks o v) (pointers v)
  marks_texts {v = v} c in_any_order = marked_none IsText Any (pointers v) (λ p. tt)
  marks_texts (contents_run r) (in_key_order {K = K} {V = V} h) = entries_texts K V r

  -- a text leads nowhere
  pub text_leads : {t n : ℕ} {P : Pointee} {v : Value} → P ≡ text → Contents s bytes t P n v → pointers v ≡ []
  text_leads e (contents_one r) = cc
  text_leads e (contents_run r) = cc
  text_leads e (contents_text u) = refl

  no_tour : {pending : List ℕ} {seen last : Seen} {O : List Pointer} {C : List Region} → O ≡ [] → Tour s bytes pending seen O C last → last ≡ seen
  no_tour e tour_end = refl
  no_tour e (tour_unique f h i j) = cc
  no_tour e (tour_new f none h i j) = cc
  no_tour e (tour_again f t known free j) = cc

  module _ (F : List Free) (Ks : List Region) where
    -- the pointer leads to a free region; a unique one that is a key's to one of the others
    abbrev pub LeadsFree : Pointer → Type 0
    LeadsFree q = (t : ℕ) × (v : Value) × Leads s bytes q t v × Contains F (region_of s q t, order_of q)

    abbrev pub LeadsKey : Pointer → Type 0
    LeadsKey q = q.sharing ≡ None → (t : ℕ) × (v : Value) × Leads s bytes q t v × Contains Ks (region_of s q t)

    -- the region says something, in its order, and leads to these
    abbrev pub IsClosed : Free → Type 0
    IsClosed f = (v : Value) × Contents s bytes (f.0).begin (f.0).pointee (f.0).length v × IsInOrder s bytes (f.0).begin (f.0).length (f.1) (f.0).pointee × AllMarked LeadsKey LeadsFree (marks (f.1) v) (pointers v)
        × ((f.0).size ≡ pointee_size s (f.0).pointee (f.0).length)

    abbrev AreClosed : List Free → Type 0
    AreClosed G = (f : Free) → Contains G f → IsClosed f

    abbrev FreeAmong : List Free → Type 0
    FreeAmong G = (f : Free) → Contains G f → Contains F f

    abbrev KeysAmong : List Region → Type 0
    KeysAmong C = (r : Region) → Contains C r → Contains Ks r

    -- the shared positions that were met are free regions
    abbrev SeenFree : Seen → Type 0
    SeenFree seen = (t : ℕ) (e : Entry) → get seen t ≡ Some e → (v : Value) × (t + pointee_size s e.pointee e.length ≤ length bytes) × Contents s bytes t e.pointee e.length v × Contains F (region_at s t e.pointee e.length true, None)

    inserted : (seen : Seen) (t : ℕ) (e : Entry) (v : Value) → t + pointee_size s e.pointee e.length ≤ length bytes → Contents s bytes t e.pointee e.length v → Contains F (region_at s t e.pointee e.length true, None) → SeenFree seen → SeenFree (insert seen t e)
    inserted seen t e v fits c i h q f g = by_key (eq_by_cmp nat_cmp q t) refl (rw (get-insert nat_cmp_total seen t e q) at g)
      where
        by_key : (b : Bool) → eq_by_cmp nat_cmp q t ≡ b → cond b (Some e) (get seen q) ≡ Some f → (v : Value) × (q + pointee_size s f.pointee f.length ≤ length bytes) × Contents s bytes q f.pointee f.length v × Contains F (region_at s q f.pointee f.length true, None)
        by_key true is g = let same : e ≡ f = cc in let here : q ≡ t = same_key q t is in rw (here, ← same) (v, fits, c, i)
        by_key false is g = h q f g

    -- a shared pointer's region, in any order
    shared_free : (p : Pointer) (t : ℕ) {flavor : Flavor} → p.sharing ≡ Some flavor → ◌≡◌ {A = Free} (region_of s p t, order_of p) (region_at s t p.pointee p.length true, None)
    shared_free p t e i = (region_at s t p.pointee p.length (is_some (e i)), cond (is_some (e i)) None p.order)

    left_free : (G H : List Free) → FreeAmong (G ++ H) → FreeAmong G
    left_free G H sub f c = sub f (Contains-append_left G H f c)

    this_free : (G H : List Free) (f : Free) → FreeAmong (G ++ f ∷ H) → Contains F f
    this_free G H f sub = sub f (Contains-append_right G (f ∷ H) f (contains_first H f))

    rest_free : (G H : List Free) (f : Free) → FreeAmong (G ++ f ∷ H) → FreeAmong H
    rest_free G H f sub g c = sub g (Contains-append_right G (f ∷ H) g (contains_later f H g c))

    seen_by : (mid seen : Seen) (mark : Bool) (own rest : List Free) (f : Free) → FreeAmong (cond mark rest (own ++ f ∷ rest)) → (mark ≡ true → SeenFree seen → SeenFree mid) → (FreeAmong own → SeenFree seen → SeenFree mid) → SeenFree seen → FreeAmong rest × SeenFree mid
    seen_by mid seen true own rest f sub key other h = (sub, key refl h)
    seen_by mid seen false own rest f sub key other h = (rest_free own rest f sub, other (left_free own (f ∷ rest) sub) h)

    pub tour_seen : {pending : List ℕ} {seen last : Seen} {O : List Pointer} {C : List Region} (M : List Bool) (i : Tour s bytes pending seen O C last) → AllMarked IsText Any M O → FreeAmong (free_of M i) → SeenFree seen → SeenFree last
    tour_seen M tour_end texts sub h = h
    tour_seen {seen = seen} M (tour_unique {mid = mid} {p = p} {t = t} {v = v} e l i j) texts sub h =
        let known = seen_by mid seen (first_mark M) (free_of (marks (order_of p) v) i) (free_of (later_marks M) j) (region_of s p t, order_of p) sub
        (λ is z. let none : mid ≡ seen = no_tour (text_leads ((texts.0 is).1) l.contents) i in subst (λ x. SeenFree x) (sym none) z)
        (λ left z. tour_seen (marks (order_of p) v) i (marks_texts l.contents l.ordered) left z) h in
        tour_seen (later_marks M) j (texts.2) (known.0) (known.1)
    tour_seen M (tour_new {seen = seen} {p = p} {t = t} {v = v} {flavor = flavor} e none l i j) texts sub h =
        let own = free_of (marks (order_of p) v) i in
        let rest = free_of (later_marks M) j in
        let here = this_free own rest (region_of s p t, order_of p) sub in
        tour_seen (later_marks M) j (texts.2) (rest_free own rest (region_of s p t, order_of p) sub)
        (tour_seen (marks (order_of p) v) i (marks_texts l.contents l.ordered) (left_free own ((region_of s p t, order_of p) ∷ rest) sub)
        (inserted seen t (entry flavor p) v l.fits l.contents (rw (shared_free p t e) at here) h))
    tour_seen M (tour_again e t known free j) texts sub h = tour_seen (later_marks M) j (texts.2) sub h

    closed_join : (G H : List Free) (f : Free) → AreClosed G → IsClosed f → AreClosed H → AreClosed (G ++ f ∷ H)
    closed_join G H f h c k g m = ⊎_elim (λ l. h g l) (λ l. ⊎_elim (λ e. rw (← e) c) (λ o. k g o) (contains_cases f H g l)) (Contains-append_cases G (f ∷ H) g m)

    -- what comes of a unique pointer, by its mark
    unique_by : (O : List Pointer) {p : Pointer} {t : ℕ} {v : Value} (M : List Bool) (mark : Bool) → first_mark M ≡ mark → (own rest : List Free) (kown krest : List Region) → p.sharing ≡ None → Leads s bytes p t v
        → FreeAmong (cond mark rest (own ++ (region_of s p t, order_of p) ∷ rest)) → KeysAmong (cond mark (region_of s p t ∷ krest) (kown ++ krest))
        → (FreeAmong own → KeysAmong kown → AllMarked LeadsKey LeadsFree (marks (order_of p) v) (pointers v) × AreClosed own)
        → (FreeAmong rest → KeysAmong krest → AllMarked LeadsKey LeadsFree (later_marks M) O × AreClosed rest)
        → AllMarked LeadsKey LeadsFree M (p ∷ O) × AreClosed (cond mark rest (own ++ (region_of s p t, order_of p) ∷ rest))
    unique_by O {p = p} {t = t} {v = v} M true is own rest kown krest e l sub ksub inner outer =
        let o = outer sub (λ r c. ksub r (contains_later (region_of s p t) krest r c)) in
        ((λ z f. (t, v, l, ksub (region_of s p t) (contains_first krest (region_of s p t))), λ z. (let never : true ≡ false = sym is ∙ z in cc), o.0), o.1)
    unique_by O {p = p} {t = t} {v = v} M false is own rest kown krest e l sub ksub inner outer =
        let n = inner (left_free own ((region_of s p t, order_of p) ∷ rest) sub) (λ r c. ksub r (Contains-append_left kown krest r c)) in
        let o = outer (rest_free own rest (region_of s p t, order_of p) sub) (λ r c. ksub r (Contains-append_right kown krest r c)) in (
          (λ z. (let never : true ≡ false = sym z ∙ is in cc), λ z. (t, v, l, this_free own rest (region_of s p t, order_of p) sub), o.0),
          closed_join own rest (region_of s p t, order_of p) (n.1) (v, l.contents, l.ordered, n.0, refl) (o.1),
        )

    pub tour_closed : {pending : List ℕ} {seen last : Seen} {O : List Pointer} {C : List Region} (M : List Bool) (i : Tour s bytes pending seen O C last) → AllMarked IsText Any M O → FreeAmong (free_of M i) → KeysAmong (keys_of M i) → SeenFree seen
        → AllMarked LeadsKey LeadsFree M O × AreClosed (free_of M i)
    tour_closed M tour_end texts sub ksub h = (tt, λ f c. none_in c)
    tour_closed {seen = seen} M (tour_unique {mid = mid} {p = p} {ps = O} {t = t} {v = v} e l i j) texts sub ksub h =
        let own = free_of (marks (order_of p) v) i in
        let rest = free_of (later_marks M) j in
        let known = seen_by mid seen (first_mark M) own rest (region_of s p t, order_of p) sub
        (λ is z. let none : mid ≡ seen = no_tour (text_leads ((texts.0 is).1) l.contents) i in subst (λ x. SeenFree x) (sym none) z)
        (λ left z. tour_seen (marks (order_of p) v) i (marks_texts l.contents l.ordered) left z) h in
        unique_by O M (first_mark M) refl own rest (keys_of (marks (order_of p) v) i) (keys_of (later_marks M) j) e l sub ksub
        (λ left kleft. tour_closed (marks (order_of p) v) i (marks_texts l.contents l.ordered) left kleft h)
        (λ right kright. tour_closed (later_marks M) j (texts.2) right kright (known.1))
    tour_closed M (tour_new {seen = seen} {p = p} {ps = O} {t = t} {v = v} {flavor = flavor} e none l i j) texts sub ksub h =
        let own = free_of (marks (order_of p) v) i in
        let rest = free_of (later_marks M) j in
        let kown = keys_of (marks (order_of p) v) i in
        let krest = keys_of (later_marks M) j in
        let here = this_free own rest (region_of s p t, order_of p) sub in
        let left = left_free own ((region_of s p t, order_of p) ∷ rest) sub in
        let met = inserted seen t (entry flavor p) v l.fits l.contents (rw (shared_free p t e) at here) h in
        let inner = tour_closed (marks (order_of p) v) i (marks_texts l.contents l.ordered) left (λ r c. ksub r (Contains-append_left kown krest r c)) met in
        let outer = tour_closed (later_marks M) j (texts.2) (rest_free own rest (region_of s p t, order_of p) sub) (λ r c. ksub r (Contains-append_right kown krest r c))
        (tour_seen (marks (order_of p) v) i (marks_texts l.contents l.ordered) left met) in
        ((λ z f. (let never : Some flavor ≡ None = sym e ∙ f in cc), λ z. (t, v, l, here), outer.0), closed_join own rest (region_of s p t, order_of p) (inner.1) (v, l.contents, l.ordered, inner.0, refl) (outer.1))
    tour_closed M (tour_again {p = p} {ps = O} {t = t} {flavor = flavor} e g known free j) texts sub ksub h =
        let (v, fits, c, here) = h t (entry flavor p) known in
        let rest = tour_closed (later_marks M) j (texts.2) sub ksub h in
        let there : Contains F (region_of s p t, order_of p) = rw (shared_free p t e) here in
        ((λ z f. (let never : Some flavor ≡ None = sym e ∙ f in cc), λ z. (t, v, record { target = g; fits = fits; contents = c; ordered = shared_ordered p e }, there), rest.0), rest.1)

  -- of a whole archive, whose root no key leads to
  abbrev pub free_regions : {root : ℕ} {X : Shape} → Accepted s bytes root X → List Free
  free_regions {root = root} {X = X} a = free_of [] a.tour ++ (root_region s root X, None) ∷ []

  abbrev pub key_regions : {root : ℕ} {X : Shape} → Accepted s bytes root X → List Region
  key_regions a = keys_of [] a.tour

  pub accepted_closed : {root : ℕ} {X : Shape} (a : Accepted s bytes root X) (f : Free) → Contains (free_regions a) f → IsClosed (free_regions a) (key_regions a) f
  accepted_closed {root = root} {X = X} a =
      let texts = marked_none IsText Any (pointers a.value) (λ p. tt) in
      let h = tour_closed (free_regions a) (key_regions a) [] a.tour texts (λ f c. Contains-append_left (free_of [] a.tour) ((root_region s root X, None) ∷ []) f c) (λ r c. c) (λ t e g. cc (get-empty {X = Entry} nat_cmp t)) in
      closed_join (free_regions a) (key_regions a) (free_of [] a.tour) [] (root_region s root X, None) (h.1) (a.value, contents_one a.flat.reads, in_any_order, h.0, refl) (λ f c. none_in c)
