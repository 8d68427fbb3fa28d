-- What has no pointer to a region of its own, and writes nothing, is written so wherever it stands: its plan has no step, its tour no region.
use Rattle.std.proofs.Common.{◌≡◌, inl, inr, ℕ, suc, ◌+◌, ◌<◌, ◌≤◌, List, [], ◌∷◌, ◌++◌, refl, sym, ap, subst, ◌∙◌, arith, true, Some, None, Contains}
use Rattle.std.specs.Prelude.{is_some}
use Rattle.std.proofs.lemmas.List.Elements.{Contains-append_left, Contains-append_right}
use Rattle.archive_check.specs.Shape.{Shape, Parts, Pointee, Flavor}
use Rattle.archive_check.specs.Value.{Pointer, Value, Values, shared_value, pointers, all_pointers}
use Rattle.archive_check.specs.Reads.{SchemaTable, LaidOut}
use Rattle.archive_check.specs.Tour.{Region, Seen, Tour, tour_end, tour_unique, tour_new, tour_again, region_of, pointee_size, pointee_align}
use Rattle.archive_check.specs.Denotes.{Fills, fills_number, fills_product, fills_case, fills_list, fills_text, fills_box, fills_null, fills_shared_value, fills_unique, fills_shared, FillsAll, fills_no_value, fills_value}
use Rattle.archive_check.specs.Reached.{names_itself, names_product, names_case, names_list, names_box, names_first, names_later}
use Rattle.archive_check.specs.Tightness.{Tight, after}
use Rattle.archive_check.specs.WriterState.{KeyStates}
use Rattle.archive_check.proofs.Elements.{contains_first, contains_later}
use Rattle.archive_check.proofs.Tours.JoinedTours.{rising_le}
use Rattle.archive_check.proofs.Tours.PartsInside.{up_le}
use Rattle.archive_check.proofs.Tours.Tightness.{ArePositive, tour_positive, tight_rises}
use Rattle.archive_types.specs.Writing.{NameMap, AreFinished, AllFinished, to_pointee}
use Rattle.archive_types.specs.ItemsWritten.{AllShared}
use Rattle.archive_types.specs.Plans.{Cursor, begun, Step, Plans, plans_leaf, plans_parts, plans_choice, plans_array, plans_boxed, plans_vec, plans_map, plans_inline, plans_out_of_line, plans_shared, plans_null, plans_weak, plans_named, PlansParts, plans_no_part, plans_part, PlansRun, plans_none, plans_element, PlansRegion, plans_region, PlansShared, plans_new, plans_finished, plans_pending}
use Rattle.archive_types.proofs.Planning.PlansForward.{plans_forward, parts_forward, run_forward, pointee_forward, region_forward, region_ends, ends_behind, pointee_align_low}

-- pointers of parts

pub shared_left : (ps qs : List Pointer) → AllShared (ps ++ qs) → AllShared ps
shared_left ps qs h p c = h p (Contains-append_left ps qs p c)

pub shared_right : (ps qs : List Pointer) → AllShared (ps ++ qs) → AllShared qs
shared_right ps qs h p c = h p (Contains-append_right ps qs p c)

-- a pointer to a region of its own is none
not_shared : (p : Pointer) (ps : List Pointer) → p.sharing ≡ None → AllShared (p ∷ ps) → ⊥
not_shared p ps own h = (let there = (h p (contains_first ps p)).1 in cc)

-- tours

tight_le : (a : ℕ) (C : List Region) (b : ℕ) → ArePositive C → Tight a C b → a ≤ b
tight_le a C b p h = rising_le a C b (tight_rises a C b p h)

-- a shared region ends behind where the list begins
tight_grows : (a : ℕ) (C : List Region) (r : Region) (D : List Region) (b : ℕ) → ArePositive (C ++ r ∷ D) → r.shared ≡ true → Tight a (C ++ r ∷ D) b → a < b
tight_grows a [] r D b p e h =
    let begins : a ≤ r.begin = omega (arith, h.0, up_le a r.align p.0) in
    let ends : r.begin < after r = rw e (ends_behind r.begin r.size) in
    omega (arith, begins, ends, tight_le (after r) D b p.1 h.1)
tight_grows a (q ∷ C) r D b p e h =
    let begins : a ≤ q.begin = omega (arith, h.0, up_le a q.align p.0) in
    let ends : q.begin ≤ after q = grind arith in
    omega (arith, begins, ends, tight_grows (after q) C r D b p.1 e h.1)

-- the tour of shared pointers that ends where it begins meets none anew, whatever the bytes
pub shared_tour : (s : SchemaTable) (l : LaidOut s) {bytes pending : List ℕ} {seen last : Seen} {O : List Pointer} {C : List Region} → Tour s bytes pending seen O C last
    → AllShared O → (a b : ℕ) → Tight a C b → b ≤ a → (others : List ℕ) → Tour s others pending seen O [] seen
shared_tour s l tour_end shared a b h le others = tour_end
shared_tour s l (tour_unique {p = p} {ps = ps} own leads i j) shared a b h le others = absurd (not_shared p ps own shared)
shared_tour s l (tour_new {p = p} {t = t} {C = C} {D = D} e none leads i j) shared a b h le others =
    let region : (region_of s p t).shared ≡ true = rw e refl in
    absurd (omega (arith, le, tight_grows a C (region_of s p t) D b (tour_positive s l (tour_new e none leads i j)) region h))
shared_tour s l (tour_again {p = p} {ps = ps} e t known free j) shared a b h le others =
    tour_again e t known free (shared_tour s l j (λ q c. shared q (contains_later p ps q c)) a b h le others)

-- what fills shared pointers does so whatever the bytes
mutual
  pub fills_elsewhere : (s : SchemaTable) (others : List ℕ) {bytes : List ℕ} {v w : Value} → Fills s bytes v w → AllShared (pointers v) → Fills s others v w
  fills_elsewhere s others fills_number h = fills_number
  fills_elsewhere s others (fills_product f) h = fills_product (all_elsewhere s others f h)
  fills_elsewhere s others (fills_case f) h = fills_case (all_elsewhere s others f h)
  fills_elsewhere s others (fills_list f) h = fills_list (all_elsewhere s others f h)
  fills_elsewhere s others fills_text h = fills_text
  fills_elsewhere s others (fills_box f) h = fills_box (fills_elsewhere s others f h)
  fills_elsewhere s others fills_null h = fills_null
  fills_elsewhere s others fills_shared_value h = fills_shared_value
  fills_elsewhere s others (fills_unique {p = p} own leads f) h = absurd (not_shared p [] own h)
  fills_elsewhere s others (fills_shared e t) h = fills_shared e t

  pub all_elsewhere : (s : SchemaTable) (others : List ℕ) {bytes : List ℕ} {vs ws : Values} → FillsAll s bytes vs ws → AllShared (all_pointers vs) → FillsAll s others vs ws
  all_elsewhere s others fills_no_value h = fills_no_value
  all_elsewhere s others (fills_value {v = v} {vs = vs} f g) h =
      fills_value (fills_elsewhere s others f (shared_left (pointers v) (all_pointers vs) h)) (all_elsewhere s others g (shared_right (pointers v) (all_pointers vs) h))

-- a plan that ends where it begins, of finished keys, has no step, and is one from anywhere

abbrev cursor_at : ℕ → KeyStates → Cursor
cursor_at q states = record { position = q; states = states }

region_begins : (s : SchemaTable) (l : LaidOut s) (names : NameMap) {P : Pointee} {n t : ℕ} {v : Value} {a b : Cursor} {C : List Step} → PlansRegion s names true P n v a t C b → a.position ≤ t
region_begins s l names (plans_region {P = P} {b = b} h here) = omega (arith, here, pointee_forward s l names h, up_le b.position (pointee_align s P) (pointee_align_low s l P))

mutual
  pub plans_anywhere : (s : SchemaTable) (l : LaidOut s) (names : NameMap) {X : Shape} {v w : Value} {a b : Cursor} {C : List Step} → Plans s names X v a w C b → b.position ≤ a.position
      → AreFinished a.states v → AllShared (pointers w) → (b.states ≡ a.states) × ((q : ℕ) → Plans s names X v (cursor_at q a.states) w [] (cursor_at q a.states))
  plans_anywhere s l names plans_leaf le f h = (refl, λ q. plans_leaf)
  plans_anywhere s l names (plans_parts i) le f h = (let r = parts_anywhere s l names i le (λ k n. f k (names_product n)) h in (r.0, λ q. plans_parts (r.1 q)))
  plans_anywhere s l names (plans_choice is i) le f h = (let r = parts_anywhere s l names i le (λ k n. f k (names_case n)) h in (r.0, λ q. plans_choice is (r.1 q)))
  plans_anywhere s l names (plans_array i) le f h = (let r = run_anywhere s l names i le (λ k n. f k (names_list n)) h in (r.0, λ q. plans_array (r.1 q)))
  plans_anywhere s l names (plans_boxed i) le f h = absurd (not_shared _ [] refl h)
  plans_anywhere s l names (plans_vec i) le f h = absurd (not_shared _ [] refl h)
  plans_anywhere s l names (plans_map i) le f h = absurd (not_shared _ [] refl h)
  plans_anywhere s l names (plans_inline few) le f h = (refl, λ q. plans_inline few)
  plans_anywhere s l names (plans_out_of_line long i) le f h = absurd (not_shared _ [] refl h)
  plans_anywhere s l names (plans_shared i) le f h = (let r = key_anywhere s l names i le f in (r.0, λ q. plans_shared (r.1 q)))
  plans_anywhere s l names plans_null le f h = (refl, λ q. plans_null)
  plans_anywhere s l names (plans_weak i) le f h = (let r = key_anywhere s l names i le f in (r.0, λ q. plans_weak (r.1 q)))
  plans_anywhere s l names (plans_named is i) le f h = (let r = plans_anywhere s l names i le f h in (r.0, λ q. plans_named is (r.1 q)))

  pub parts_anywhere : (s : SchemaTable) (l : LaidOut s) (names : NameMap) {ps : Parts} {vs ws : Values} {a b : Cursor} {C : List Step} → PlansParts s names ps vs a ws C b → b.position ≤ a.position
      → AllFinished a.states vs → AllShared (all_pointers ws) → (b.states ≡ a.states) × ((q : ℕ) → PlansParts s names ps vs (cursor_at q a.states) ws [] (cursor_at q a.states))
  parts_anywhere s l names plans_no_part le f h = (refl, λ q. plans_no_part)
  parts_anywhere s l names (plans_part {X = X} {ps = ps} {v = v} {w = w} {vs = vs} {ws = ws} {a = a} {b = b} {c = c} i j) le f h =
      let first = plans_anywhere s l names i (omega (arith, le, parts_forward s l names j)) (λ k n. f k (names_first n)) (shared_left (pointers w) (all_pointers ws) h) in
      let later = parts_anywhere s l names j (omega (arith, le, plans_forward s l names i)) (subst (λ z. AllFinished z vs) (sym first.0) (λ k n. f k (names_later n))) (shared_right (pointers w) (all_pointers ws) h) in
      (later.0 ∙ first.0, λ q. plans_part (first.1 q) (subst (λ z. PlansParts s names ps vs (cursor_at q z) ws [] (cursor_at q z)) first.0 (later.1 q)))

  pub run_anywhere : (s : SchemaTable) (l : LaidOut s) (names : NameMap) {n : ℕ} {X : Shape} {vs ws : Values} {a b : Cursor} {C : List Step} → PlansRun s names n X vs a ws C b → b.position ≤ a.position
      → AllFinished a.states vs → AllShared (all_pointers ws) → (b.states ≡ a.states) × ((q : ℕ) → PlansRun s names n X vs (cursor_at q a.states) ws [] (cursor_at q a.states))
  run_anywhere s l names plans_none le f h = (refl, λ q. plans_none)
  run_anywhere s l names (plans_element {n = n} {X = X} {v = v} {w = w} {vs = vs} {ws = ws} {a = a} {b = b} {c = c} i j) le f h =
      let first = plans_anywhere s l names i (omega (arith, le, run_forward s l names j)) (λ k n. f k (names_first n)) (shared_left (pointers w) (all_pointers ws) h) in
      let later = run_anywhere s l names j (omega (arith, le, plans_forward s l names i)) (subst (λ z. AllFinished z vs) (sym first.0) (λ k n. f k (names_later n))) (shared_right (pointers w) (all_pointers ws) h) in
      (later.0 ∙ first.0, λ q. plans_element (first.1 q) (subst (λ z. PlansRun s names n X vs (cursor_at q z) ws [] (cursor_at q z)) first.0 (later.1 q)))

  pub key_anywhere : (s : SchemaTable) (l : LaidOut s) (names : NameMap) {flavor : Flavor} {P : Pointee} {key : ℕ} {w : Value} {a b : Cursor} {C : List Step} → PlansShared s names flavor P key a w C b → b.position ≤ a.position
      → AreFinished a.states (shared_value key) → (b.states ≡ a.states) × ((q : ℕ) → PlansShared s names flavor P key (cursor_at q a.states) w [] (cursor_at q a.states))
  key_anywhere s l names (plans_new {key = key} {a = a} none is i) le f = absurd (omega (arith, le, region_begins s l names i, region_ends s names i))
  key_anywhere s l names (plans_finished here is) le f = (refl, λ q. plans_finished here is)
  key_anywhere s l names (plans_pending {key = key} pending) le f = (let there = (f key names_itself).1 in cc)
