-- Along a tour one value at most is another one after a leaf is written over.
use Rattle.std.proofs.Common.{◌≡◌, ◌≢◌, ℕ, ◌+◌, ◌-◌, ◌≤◌, List, ◌∷◌, ◌++◌, Option, Some, None, Bool, true, false, cond, nat_cmp, arith, refl, sym, ap}
use Rattle.std.specs.FinMap.{get, insert, get-insert}
use Rattle.std.specs.Cmp.{nat_cmp_total}
use Rattle.std.specs.Ordering.{eq_by_cmp}
use Rattle.archive_check.specs.Value.{Pointer, Value, hole, pointers}
use Rattle.archive_check.specs.Reads.{SchemaTable, LaidOut}
use Rattle.archive_check.specs.Keys.{order_of, IsInOrder}
use Rattle.archive_check.proofs.Maps.KeptOrder.{StaysOrdered}
use Rattle.archive_check.specs.Tour.{Region, region_of, pointee_size, Rising, Contents, Leads, Entry, Seen, entry, Tour, tour_end, tour_unique, tour_new, tour_again}
use Rattle.archive_check.specs.Leaves.{PlacedLeaf, leaf_begin, leaf_size, leaves_of_contents, leaves_of_tour, Overwrites, Replaced}
use Rattle.archive_check.specs.Denotes.{Fills, fills_unique, fills_shared}
use Rattle.archive_check.proofs.Tours.Seen.{same_key, inserted_has, inserted_keeps}
use Rattle.archive_check.proofs.Tours.JoinedTours.{rising_le, rising_front, rising_back}
use Rattle.archive_check.proofs.Tours.RegionsApart.{Between, contents_between, tour_between}
use Rattle.archive_check.proofs.Tours.EqualBytes.{Agrees, agrees_part}
use Rattle.archive_check.proofs.Tours.EqualTours.{leads_agree}
use Rattle.archive_check.proofs.Editing.EditedBytes.{Edits}
use Rattle.archive_check.proofs.Editing.EditedArchives.{replaced_none, replaced_has, Split, in_first, in_later, split, overwrites_size, leads_renewed}
use Rattle.archive_check.proofs.Editing.RevisedValues.{Same, Turned, SameAll, TurnedOne, turned_here, turned_later, fill_same, fill_turned, fill_altered}

-- what is known of a shared position stays known
pub tour_grows : {s : SchemaTable} {bytes pending : List ℕ} {seen last : Seen} {O : List Pointer} {C : List Region} → Tour s bytes pending seen O C last → (t : ℕ) (e : Entry) → get seen t ≡ Some e → get last t ≡ Some e
tour_grows tour_end q f h = h
tour_grows (tour_unique e l i j) q f h = tour_grows j q f (tour_grows i q f h)
tour_grows (tour_new {seen = seen} {p = p} {t = t} {flavor = flavor} e none l i j) q f h = tour_grows j q f (tour_grows i q f (inserted_keeps seen t (entry flavor p) q f none h))
tour_grows (tour_again e g known free j) q f h = tour_grows j q f h

module _ (s : SchemaTable) (laid : LaidOut s) (bytes new b : List ℕ) (x y : PlacedLeaf) (o : Overwrites b x y) (d : Edits bytes new (leaf_begin x) b) where
  -- a shared position's value is as before
  abbrev pub SameAt : ℕ → Entry → Type 0
  SameAt t e = (v : Value) × (w : Value) × Contents s bytes t e.pointee e.length v × Fills s bytes v w × Contents s new t e.pointee e.length v × Fills s new v w

  abbrev pub TurnedAt : ℕ → Entry → Type 0
  TurnedAt t e = (v : Value) × (u : Value) × Contents s bytes t e.pointee e.length v × Contents s new t e.pointee e.length u × Turned s bytes new x y v u

  -- each shared position's value is as before, but perhaps that of one
  abbrev pub Known : Option ℕ → Seen → Type 0
  Known but seen = (t : ℕ) (e : Entry) → get seen t ≡ Some e → but ≢ Some t → SameAt t e

  known_same : (but : Option ℕ) (seen : Seen) (t : ℕ) (e : Entry) → SameAt t e → Known but seen → Known but (insert seen t e)
  known_same but seen t e here h q f g other = by_key (eq_by_cmp nat_cmp q t) refl (rw (get-insert nat_cmp_total seen t e q) at g)
    where
      by_key : (k : Bool) → eq_by_cmp nat_cmp q t ≡ k → cond k (Some e) (get seen q) ≡ Some f → SameAt q f
      by_key true is g = let same : e ≡ f = cc in let this : q ≡ t = same_key q t is in rw (this, ← same) here
      by_key false is g = h q f g other

  known_turned : (seen : Seen) (t : ℕ) (e : Entry) → Known None seen → Known (Some t) (insert seen t e)
  known_turned seen t e h q f g other = by_key (eq_by_cmp nat_cmp q t) refl (rw (get-insert nat_cmp_total seen t e q) at g)
    where
      by_key : (k : Bool) → eq_by_cmp nat_cmp q t ≡ k → cond k (Some e) (get seen q) ≡ Some f → SameAt q f
      by_key true is g = let this : q ≡ t = same_key q t is in absurd (other (ap Some (sym this)))
      by_key false is g = h q f g (λ z. cc z)

  -- the new bytes are the old ones from a position up to another
  abbrev pub Stay : ℕ → ℕ → Type 0
  Stay start stop = Agrees bytes new start (stop - start)

  pub stay_before : (start stop : ℕ) → start ≤ stop → stop ≤ leaf_begin x → Stay start stop
  stay_before start stop up h = d.before start (stop - start) (omega arith)

  pub stay_behind : (start stop : ℕ) → leaf_begin x + leaf_size x ≤ start → Stay start stop
  stay_behind start stop h = d.behind start (stop - start) (omega (arith, overwrites_size o))

  stay_part : (start stop a c : ℕ) → start ≤ a → c ≤ stop → a ≤ c → Stay start stop → Stay a c
  stay_part start stop a c low high up h = agrees_part bytes new a (c - a) low (omega arith) h

  leads_stay : {p : Pointer} {t : ℕ} {v : Value} → Leads s bytes p t v → Stay t (t + pointee_size s p.pointee p.length) → IsInOrder s new t p.length (order_of p) p.pointee → Leads s new p t v
  leads_stay {p = p} {t = t} h k led = (leads_agree bytes new s laid h (omega (arith, d.whole)) (agrees_part bytes new t (pointee_size s p.pointee p.length) (omega arith) (omega arith) k) led).0

  -- where no byte of a tour's regions is another one, no value is
  pub tour_same : {pending : List ℕ} {seen last : Seen} {O : List Pointer} {C : List Region} (i : Tour s bytes pending seen O C last) → StaysOrdered new i → (start stop : ℕ) → Rising start C stop → Stay start stop
      → SameAll s bytes new x y O × ((but : Option ℕ) → Known but seen → Known but last)
  tour_same tour_end f start stop rising stay = (tt, λ but h. h)
  tour_same (tour_unique {p = p} {t = t} {v = v} {C = C} {D = D} e h i j) k start stop rising stay =
      let size : ℕ = pointee_size s p.pointee p.length in
      let front = rising_front start C (region_of s p t) D stop rising in
      let back = rising_back start C (region_of s p t) D stop rising in
      let up = rising_le start C t front in let down = rising_le (t + pointee_size s p.pointee p.length) D stop back in
      let l = leads_stay h (stay_part start stop t (t + pointee_size s p.pointee p.length) up down (omega arith) stay) k.0 in
      let own = tour_same i k.1 start t front (stay_part start stop start t (omega arith) (omega arith) up stay) in
      let rest = tour_same j k.2 (t + pointee_size s p.pointee p.length) stop back (stay_part start stop (t + pointee_size s p.pointee p.length) stop (omega arith) (omega arith) down stay) in
      let f = fill_same s bytes new x y v (own.0) in
      (((f.0, fills_unique e h (f.1), fills_unique e l (f.2)), rest.0), λ but z. rest.1 but (own.1 but z))
  tour_same (tour_new {seen = seen} {p = p} {t = t} {v = v} {C = C} {D = D} {flavor = flavor} e none h i j) k start stop rising stay =
      let front = rising_front start C (region_of s p t) D stop rising in
      let back = rising_back start C (region_of s p t) D stop rising in
      let up = rising_le start C t front in let down = rising_le (t + pointee_size s p.pointee p.length) D stop back in
      let l = leads_stay h (stay_part start stop t (t + pointee_size s p.pointee p.length) up down (omega arith) stay) k.0 in
      let own = tour_same i k.1 start t front (stay_part start stop start t (omega arith) (omega arith) up stay) in
      let rest = tour_same j k.2 (t + pointee_size s p.pointee p.length) stop back (stay_part start stop (t + pointee_size s p.pointee p.length) stop (omega arith) (omega arith) down stay) in
      let f = fill_same s bytes new x y v (own.0) in
      (((_, fills_shared e h.target, fills_shared e h.target), rest.0), λ but z. rest.1 but (own.1 but (known_same but seen t (entry flavor p) (v, f.0, h.contents, f.1, l.contents, f.2) z)))
  tour_same (tour_again e g known free j) k start stop rising stay =
      let rest = tour_same j k start stop rising stay in (((_, fills_shared e g, fills_shared e g), rest.0), rest.1)

  -- what a tour finds that meets the leaf: it turns the value of one pointer, or of one shared position
  pub data Outcome (O : List Pointer) (seen last : Seen) : Type 0 where
    outcome_turned : TurnedOne s bytes new x y O → ((but : Option ℕ) → Known but seen → Known but last) → Outcome O seen last
    outcome_shared : {t : ℕ} {e : Entry} → SameAll s bytes new x y O → get last t ≡ Some e → TurnedAt t e → (Known None seen → Known (Some t) last) → Outcome O seen last

  -- a unique region's own tour meets it
  unique_own : {pending : List ℕ} {seen mid last : Seen} {p : Pointer} {O : List Pointer} {t : ℕ} {v : Value} {D : List Region} → p.sharing ≡ None → Leads s bytes p t v → Leads s new p t v → Tour s bytes pending mid O D last
      → Outcome (pointers v) seen mid → SameAll s bytes new x y O → ((but : Option ℕ) → Known but mid → Known but last) → Outcome (p ∷ O) seen last
  unique_own {v = v} e h l j (outcome_turned k f) same g =
      let r = fill_turned s bytes new x y v k in outcome_turned (turned_here (r.0, r.1, fills_unique e h (r.2), fills_unique e l (r.3), r.4) same) (λ but z. g but (f but z))
  unique_own {v = v} e h l j (outcome_shared {t = u} {e = en} k has turns f) same g =
      let r = fill_same s bytes new x y v k in outcome_shared ((r.0, fills_unique e h (r.1), fills_unique e l (r.2)), same) (tour_grows j u en has) turns (λ z. g (Some u) (f z))

  -- the tour of the rest meets it
  later : {seen mid last : Seen} {p : Pointer} {O : List Pointer} → Same s bytes new x y (hole p) → ((but : Option ℕ) → Known but seen → Known but mid) → Outcome O mid last → Outcome (p ∷ O) seen last
  later same f (outcome_turned k g) = outcome_turned (turned_later same k) (λ but z. g but (f but z))
  later same f (outcome_shared k has turns g) = outcome_shared (same, k) has turns (λ z. g (f None z))

  -- a shared region's own tour meets it
  shared_own : {pending : List ℕ} {seen mid last : Seen} {p : Pointer} {O : List Pointer} {t : ℕ} {v : Value} {D : List Region} (e : Entry) → Same s bytes new x y (hole p)
      → Contents s bytes t e.pointee e.length v → Contents s new t e.pointee e.length v → get mid t ≡ Some e → Tour s bytes pending mid O D last
      → Outcome (pointers v) (insert seen t e) mid → SameAll s bytes new x y O → ((but : Option ℕ) → Known but mid → Known but last) → Outcome (p ∷ O) seen last
  shared_own {seen = seen} {t = t} {v = v} e this c n met j (outcome_turned k f) same g =
      outcome_shared (this, same) (tour_grows j t e met) (v, v, c, n, fill_turned s bytes new x y v k) (λ z. g (Some t) (f (Some t) (known_turned seen t e z)))
  shared_own {seen = seen} {t = t} {v = v} e this c n met j (outcome_shared {t = u} {e = en} k has turns f) same g =
      let r = fill_same s bytes new x y v k in
      outcome_shared (this, same) (tour_grows j u en has) turns (λ z. g (Some u) (f (known_same None seen t e (v, r.0, c, r.1, n, r.2) z)))

  module _ {inner pending : List ℕ} {first mid last : Seen} {p : Pointer} {O : List Pointer} {t : ℕ} {v : Value} {C D : List Region}
      (h : Leads s bytes p t v) (i : Tour s bytes inner first (pointers v) C mid) (j : Tour s bytes pending mid O D last)
      (led : IsInOrder s new t p.length (order_of p) p.pointee) (stays : StaysOrdered new i) (goes_on : StaysOrdered new j)
      (start stop : ℕ) (front : Rising start C t) (back : Rising (t + pointee_size s p.pointee p.length) D stop) where
    -- what stays, where the leaf lies before, in or behind the region
    rest_same : leaf_begin x + leaf_size x ≤ t + pointee_size s p.pointee p.length → SameAll s bytes new x y O × ((but : Option ℕ) → Known but mid → Known but last)
    rest_same k = tour_same j goes_on (t + pointee_size s p.pointee p.length) stop back (stay_behind (t + pointee_size s p.pointee p.length) stop k)

    own_same : t ≤ leaf_begin x → SameAll s bytes new x y (pointers v) × ((but : Option ℕ) → Known but first → Known but mid)
    own_same k = tour_same i stays start t front (stay_before start t (rising_le start C t front) k)

    leads_behind : leaf_begin x + leaf_size x ≤ t → Leads s new p t v
    leads_behind k = leads_stay h (stay_behind t (t + pointee_size s p.pointee p.length) k) led

    leads_before : t + pointee_size s p.pointee p.length ≤ leaf_begin x → Leads s new p t v
    leads_before k = leads_stay h (stay_before t (t + pointee_size s p.pointee p.length) (omega arith) k) led

    in_own : {zs : List PlacedLeaf} → Replaced x y (leaves_of_tour i) zs → leaf_begin x + leaf_size x ≤ t
    in_own k = let there : Between start t x = replaced_has (Between start t) k (tour_between s laid bytes i start t front) in there.1

    in_this : {zs : List PlacedLeaf} → Replaced x y (leaves_of_contents h.contents) zs → Between t (t + pointee_size s p.pointee p.length) x
    in_this k = replaced_has (Between t (t + pointee_size s p.pointee p.length)) k (contents_between s laid bytes h.contents)

    in_rest : {zs : List PlacedLeaf} → Replaced x y (leaves_of_tour j) zs → t + pointee_size s p.pointee p.length ≤ leaf_begin x
    in_rest k = let there : Between (t + pointee_size s p.pointee p.length) stop x = replaced_has (Between (t + pointee_size s p.pointee p.length) stop) k (tour_between s laid bytes j (t + pointee_size s p.pointee p.length) stop back) in there.0

    unique_join : p.sharing ≡ None → {ms : List PlacedLeaf} → Split x y (leaves_of_tour i) (leaves_of_contents h.contents ++ leaves_of_tour j) ms
        → ((zs : List PlacedLeaf) → Replaced x y (leaves_of_tour i) zs → Outcome (pointers v) first mid) → ((zs : List PlacedLeaf) → Replaced x y (leaves_of_tour j) zs → Outcome O mid last) → Outcome (p ∷ O) first last
    unique_join e (in_first {ns = ns} k f) own rest =
        let q = rest_same (omega (arith, in_own k)) in unique_own e h (leads_behind (in_own k)) j (own ns k) (q.0) (q.1)
    unique_join e (in_later {ns = ns} k f) own rest = go (split (leaves_of_contents h.contents) k)
      where
        go : Split x y (leaves_of_contents h.contents) (leaves_of_tour j) ns → Outcome (p ∷ O) first last
        go (in_first {ns = zs} l g) =
            let there = in_this l in
            let q = leads_renewed s laid bytes new b h l o d led in
            let before = own_same (omega arith) in let behind = rest_same (omega arith) in
            let r = fill_altered s bytes new x y (q.4) (before.0) in
            outcome_turned (turned_here (r.0, r.1, fills_unique e h (r.2), fills_unique e (q.1) (r.3), r.4) (behind.0)) (λ but z. behind.1 but (before.1 but z))
        go (in_later {ns = zs} l g) =
            let before = own_same (omega (arith, in_rest l)) in
            let r = fill_same s bytes new x y v (before.0) in
            later (r.0, fills_unique e h (r.1), fills_unique e (leads_before (in_rest l)) (r.2)) (before.1) (rest zs l)

  module _ {inner pending : List ℕ} {seen mid last : Seen} {p : Pointer} {O : List Pointer} {t : ℕ} {v : Value} {C D : List Region} (en : Entry) (is : en.pointee ≡ p.pointee) (long : en.length ≡ p.length) (this : Same s bytes new x y (hole p))
      (h : Leads s bytes p t v) (i : Tour s bytes inner (insert seen t en) (pointers v) C mid) (j : Tour s bytes pending mid O D last)
      (led : IsInOrder s new t p.length (order_of p) p.pointee) (stays : StaysOrdered new i) (goes_on : StaysOrdered new j)
      (start stop : ℕ) (front : Rising start C t) (back : Rising (t + pointee_size s p.pointee p.length) D stop) where
    shared_join : {ms : List PlacedLeaf} → Split x y (leaves_of_tour i) (leaves_of_contents h.contents ++ leaves_of_tour j) ms
        → ((zs : List PlacedLeaf) → Replaced x y (leaves_of_tour i) zs → Outcome (pointers v) (insert seen t en) mid) → ((zs : List PlacedLeaf) → Replaced x y (leaves_of_tour j) zs → Outcome O mid last) → Outcome (p ∷ O) seen last
    shared_join (in_first {ns = ns} k f) own rest =
        let ends = in_own h i j led stays goes_on start stop front back k in
        let q = rest_same h i j led stays goes_on start stop front back (omega arith) in
        shared_own {t = t} {v = v} en this (rw (is, long) h.contents) (rw (is, long) (leads_behind h i j led stays goes_on start stop front back ends).contents) (tour_grows i t en (inserted_has seen t en)) j (own ns k) (q.0) (q.1)
    shared_join (in_later {ns = ns} k f) own rest = go (split (leaves_of_contents h.contents) k)
      where
        go : Split x y (leaves_of_contents h.contents) (leaves_of_tour j) ns → Outcome (p ∷ O) seen last
        go (in_first {ns = zs} l g) =
            let there = in_this h i j led stays goes_on start stop front back l in
            let q = leads_renewed s laid bytes new b h l o d led in
            let before = own_same h i j led stays goes_on start stop front back (omega arith) in let behind = rest_same h i j led stays goes_on start stop front back (omega arith) in
            let r = fill_altered s bytes new x y (q.4) (before.0) in
            outcome_shared (this, behind.0) (tour_grows j t en (tour_grows i t en (inserted_has seen t en))) (v, q.0, rw (is, long) h.contents, rw (is, long) (q.1.contents), r)
            (λ z. behind.1 (Some t) (before.1 (Some t) (known_turned seen t en z)))
        go (in_later {ns = zs} l g) =
            let begins = in_rest h i j led stays goes_on start stop front back l in
            let before = own_same h i j led stays goes_on start stop front back (omega arith) in
            let r = fill_same s bytes new x y v (before.0) in
            later this (λ but z. before.1 but (known_same but seen t en (v, r.0, rw (is, long) h.contents, r.1, rw (is, long) (leads_before h i j led stays goes_on start stop front back begins).contents, r.2) z)) (rest zs l)

  pub tour_turns : {pending : List ℕ} {seen last : Seen} {O : List Pointer} {C : List Region} (i : Tour s bytes pending seen O C last) → StaysOrdered new i → (start stop : ℕ) → Rising start C stop → {ms : List PlacedLeaf} → Replaced x y (leaves_of_tour i) ms → Outcome O seen last
  tour_turns tour_end f start stop rising k = absurd (replaced_none k)
  tour_turns (tour_unique {p = p} {t = t} {C = C} {D = D} e h i j) f start stop rising k =
      let front = rising_front start C (region_of s p t) D stop rising in
      let back = rising_back start C (region_of s p t) D stop rising in
      unique_join h i j f.0 f.1 f.2 start stop front back e (split (leaves_of_tour i) {zs = leaves_of_contents h.contents ++ leaves_of_tour j} k)
      (λ zs l. tour_turns i f.1 start t front l) (λ zs l. tour_turns j f.2 (t + pointee_size s p.pointee p.length) stop back l)
  tour_turns (tour_new {p = p} {t = t} {C = C} {D = D} {flavor = flavor} e none h i j) f start stop rising k =
      let front = rising_front start C (region_of s p t) D stop rising in
      let back = rising_back start C (region_of s p t) D stop rising in
      shared_join (entry flavor p) refl refl (_, fills_shared e h.target, fills_shared e h.target) h i j f.0 f.1 f.2 start stop front back (split (leaves_of_tour i) {zs = leaves_of_contents h.contents ++ leaves_of_tour j} k)
      (λ zs l. tour_turns i f.1 start t front l) (λ zs l. tour_turns j f.2 (t + pointee_size s p.pointee p.length) stop back l)
  tour_turns (tour_again e g known free j) f start stop rising k = later (_, fills_shared e g, fills_shared e g) (λ but z. z) (tour_turns j f start stop rising k)
