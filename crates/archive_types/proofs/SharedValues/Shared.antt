-- The law of a shared value.
use Rattle.std.proofs.Common.{◌≡◌, ◌⊎◌, inl, inr, ℕ, zero, suc, pos, ◌+◌, ◌<◌, ◌≤◌, List, [], ◌∷◌, ◌++◌, length, refl, sym, ap, ◌∙◌, append_assoc, length-append, arith, Option, Some, None, true, cond, ◌&&◌, nat_eq}
use Rattle.std.specs.FinMap.{get, insert}
use Rattle.archive_check.specs.Shape.{Flavor, Pointee}
use Rattle.archive_check.specs.Layout.{up}
use Rattle.archive_check.specs.Definitions.{Definitions}
use Rattle.archive_check.specs.Value.{Value, hole, shared_value, pointers}
use Rattle.archive_check.specs.Keys.{in_any_order}
use Rattle.archive_check.specs.Tour.{Region, Leads, Entry, entry, Seen, tour_end, tour_new, tour_again, region_of, pointee_size, pointee_align}
use Rattle.archive_check.specs.Denotes.{Naming, Fills, fills_shared, rename}
use Rattle.archive_check.specs.Reached.{names_itself}
use Rattle.archive_check.specs.Tightness.{after}
use Rattle.archive_check.specs.CleanRegions.{Occurs, AreZero, IsZeroed, CleanPointee}
use Rattle.archive_check.specs.WriterState.{KeyState, KeyStates, WriterState}
use Rattle.archive_write.specs.Sharing.{IsSet}
use Rattle.archive_check.proofs.Tours.StandingBytes.{stands_fits, stands_zero, stands_begun}
use Rattle.archive_check.proofs.Tours.Tightness.{tight_append, clean_regions_append}
use Rattle.archive_check.proofs.Elements.{contains_cases, contains_later}
use Rattle.archive_check.proofs.Tours.Seen.{same_some, inserted_has, inserted_apart}
use Rattle.archive_types.specs.Writing.{World, Covers, Known, Unseen, Found, Appends, FinishesKeys, AreFinished, Writes, LaysOutShared, to_shared}
use Rattle.archive_types.proofs.SharedValues.KeyStates.{set_here, set_other}
use Rattle.archive_types.proofs.Writing.Appending.{longer, finishes_nothing, finishes_wider}
use Rattle.archive_types.proofs.Writing.Denoting.{one_value, one_entry}
use Rattle.std.proofs.lemmas.Bool.{cases_eq}

sets_other : (key : ℕ) (x : KeyState) (old new : KeyStates) (k : ℕ) (y : Option ℕ) → IsSet old key x new → (k ≡ key → ⊥) → old k ≡ Some y → new k ≡ Some y
sets_other key x old new k y h n is = set_other old new key x h k n ∙ is

finished_by : (s t : KeyStates) (v : Value) → ((k q : ℕ) → s k ≡ Some (Some q) → t k ≡ Some (Some q)) → AreFinished s v → AreFinished t v
finished_by s t v kept h k n = (let (q, is) = h k n in (q, kept k q is))

finished_key : (s : KeyStates) (key t : ℕ) → s key ≡ Some (Some t) → AreFinished s (shared_value key)
finished_key s key t h k names_itself = (t, h)

module _ (a b c t key : ℕ) (old begun mid put new : KeyStates) (unknown : old key ≡ None) (start : IsSet old key (Some None) begun) (h : FinishesKeys a b begun mid) (same : put ≡ mid) (finish : IsSet put key (Some (Some t)) new) (le : a ≤ b) (lower : b ≤ t) (inside : t < c) where
  -- a key's state in the end, where it is another one
  in_the_middle : (k : ℕ) (y : Option (Option ℕ)) → (k ≡ key → ⊥) → new k ≡ y → mid k ≡ y
  in_the_middle k y n is = sym (ap (λ f. f k) same) ∙ sym (set_other put new key (Some (Some t)) finish k n) ∙ is

  later_kept : (k : ℕ) (y : Option ℕ) → old k ≡ Some y → new k ≡ Some y
  later_kept k y is = elim (cases_eq k key) [
    | inl eq ↦ (let no : old k ≡ None = rw eq unknown in cc)
    | inr n ↦ sets_other key (Some (Some t)) put new k y finish n (rw same (h.kept k y (sets_other key (Some None) old begun k y start n is)))
  ]

  later_settled : (k : ℕ) (y : Option ℕ) → old k ≡ None → new k ≡ Some y → (q : ℕ) × (y ≡ Some q) × (a ≤ q) × (q < c)
  later_settled k y none is = elim (cases_eq k key) [
    | inl eq ↦ (let there : new k ≡ Some (Some t) = rw eq (set_here put new key (Some (Some t)) finish) in (t, (let e : y ≡ Some t = cc in e), omega arith, inside))
    | inr n ↦ (let i = h.settled k y (set_other old begun key (Some None) start k n ∙ none) (in_the_middle k (Some y) n is) in (i.0, i.1, i.2, omega (arith, i.3)))
  ]

  other_before : (k q : ℕ) → (k ≡ key → ⊥) → old k ≡ None → new k ≡ Some (Some q) → q < b
  other_before k q n none is =
      let i = h.settled k (Some q) (set_other old begun key (Some None) start k n ∙ none) (in_the_middle k (Some (Some q)) n is) in
      let e : i.0 ≡ q = (let f = i.1 in cc) in omega (arith, i.3, e)

  the_key_at : (k q : ℕ) → k ≡ key → new k ≡ Some (Some q) → q ≡ t
  the_key_at k q eq is = (let there : new k ≡ Some (Some t) = rw eq (set_here put new key (Some (Some t)) finish) in cc)

  later_apart : (k l q : ℕ) → old k ≡ None → old l ≡ None → new k ≡ Some (Some q) → new l ≡ Some (Some q) → k ≡ l
  later_apart k l q m n is js = elim (cases_eq k key) [
    | inl eq ↦ elim (cases_eq l key) [
      | inl too ↦ eq ∙ sym too
      | inr unlike ↦ absurd (omega (arith, other_before l q unlike n js, the_key_at k q eq is))
    ]
    | inr unlike ↦ elim (cases_eq l key) [
      | inl too ↦ absurd (omega (arith, other_before k q unlike m is, the_key_at l q too js))
      | inr either ↦ h.apart k l q (set_other old begun key (Some None) start k unlike ∙ m) (set_other old begun key (Some None) start l either ∙ n) (in_the_middle k _ unlike is) (in_the_middle l _ either js)
    ]
  ]

  pub finishes_shared : FinishesKeys a c old new
  finishes_shared = record { kept = later_kept; settled = later_settled; apart = later_apart }

  pub finished_middle : (k q : ℕ) → mid k ≡ Some (Some q) → new k ≡ Some (Some q)
  finished_middle k q is = elim (cases_eq k key) [
    | inl eq ↦ (let no : mid k ≡ Some None = rw eq (h.kept key None (set_here old begun key (Some None) start)) in cc)
    | inr n ↦ sets_other key (Some (Some t)) put new k (Some q) finish n (rw same is)
  ]

  pub finished_which : (k q : ℕ) → new k ≡ Some (Some q) → ((k ≡ key) × (q ≡ t)) ⊎ (mid k ≡ Some (Some q))
  finished_which k q is = elim (cases_eq k key) [ inl eq ↦ inl (eq, the_key_at k q eq is) | inr n ↦ inr (in_the_middle k _ n is) ]

  pub begun_kept : (k q : ℕ) → old k ≡ Some (Some q) → begun k ≡ Some (Some q)
  begun_kept k q is = elim (cases_eq k key) [ inl eq ↦ (let no : old k ≡ None = rw eq unknown in cc) | inr n ↦ set_other old begun key (Some None) start k n ∙ is ]

  pub begun_which : (k q : ℕ) → begun k ≡ Some (Some q) → old k ≡ Some (Some q)
  begun_which k q is = elim (cases_eq k key) [ inl eq ↦ (let no : begun k ≡ Some None = rw eq (set_here old begun key (Some None) start) in cc) | inr n ↦ sym (set_other old begun key (Some None) start k n) ∙ is ]

-- what is known where a shared position is entered
pub known_entered : (w : World) (a c t : ℕ) (old begun : KeyStates) (seen : Seen) (pending : List ℕ) (e : Entry)
    → a ≤ t → t < c → ((k q : ℕ) → begun k ≡ Some (Some q) → old k ≡ Some (Some q)) → ((k q : ℕ) → old k ≡ Some (Some q) → begun k ≡ Some (Some q))
    → Unseen seen a c → Known w old a seen pending → Known w begun a (insert seen t e) (t ∷ pending)
known_entered w a c t old begun seen pending e le less which kept unseen known = record {
  inner = λ k q d v is names. finished_by old begun v kept (known.inner k q d v (which k q is) names);
  typed = λ k q d v is names. (
      let apart : q ≡ t → ⊥ = λ eq. omega (arith, known.below k q (which k q is), eq) in
      inserted_apart seen t q e apart ∙ known.typed k q d v (which k q is) names);
  closed = λ k q is among. elim (contains_cases t pending q among) [
    | inl eq ↦ omega (arith, known.below k q (which k q is), eq)
    | inr there ↦ known.closed k q (which k q is) there
  ];
  below = λ k q is. known.below k q (which k q is);
  opened = λ q among. elim (contains_cases t pending q among) [
    | inl eq ↦ (e, rw (← eq) (inserted_has seen t e))
    | inr there ↦ (let o = known.opened q there in (o.0, inserted_apart seen t q e (λ eq. (let no : get seen q ≡ None = rw eq (unseen.unseen t le less) in let yes = o.1 in cc)) ∙ o.1))
  ];
}

pub unseen_entered : (a b c t : ℕ) (seen : Seen) (e : Entry) → b ≤ t → b ≤ c → Unseen seen a c → Unseen (insert seen t e) a b
unseen_entered a b c t seen e le ge h = record { unseen = λ q l m. inserted_apart seen t q e (λ eq. omega (arith, eq)) ∙ h.unseen q l (omega arith) }

found_in : (w : World) (s u : KeyStates) (q : ℕ) (e : Entry) → ((k q : ℕ) → s k ≡ Some (Some q) → u k ≡ Some (Some q)) → Found w s q e → Found w u q e
found_in w s u q e kept h = record { key = h.key; flat = h.flat; value = h.value; finished = kept h.key q h.finished; names = h.names; contents = h.contents; fills = h.fills }

pub appends_shared : (w : World) (a b c t key : ℕ) (old mid new : KeyStates) (pending : List ℕ) (seen : Seen) (flavor : Flavor) (P : Pointee) (n : ℕ) (v x : Value)
    → a ≤ b → b ≤ t → t < c → Leads w.schema w.bytes (to_shared t flavor P n) t v
    → t ≡ up b (pointee_align w.schema P) → AreZero w.bytes b t → CleanPointee w.schema w.bytes t P n
    → c ≡ after (region_of w.schema (to_shared t flavor P n) t) → AreZero w.bytes (t + pointee_size w.schema P n) (after (region_of w.schema (to_shared t flavor P n) t))
    → Known w old a seen pending → Unseen seen a c → Appends w a b mid (t ∷ pending) (insert seen t (entry flavor (to_shared t flavor P n))) (pointers v)
    → ((k q : ℕ) → new k ≡ Some (Some q) → ((k ≡ key) × (q ≡ t)) ⊎ (mid k ≡ Some (Some q))) → ((k q : ℕ) → mid k ≡ Some (Some q) → new k ≡ Some (Some q))
    → new key ≡ Some (Some t) → get w.names key ≡ Some (entry flavor (to_shared t flavor P n), x) → Fills w.schema w.bytes v (rename w.position x) → AreFinished mid x
    → Appends w a c new pending seen (to_shared t flavor P n ∷ [])
appends_shared w a b c t key old mid new pending seen flavor P n v x le ge less leads aligned zeros clean ends behind known unseen h which kept finished names fills all =
    let e : Entry = entry flavor (to_shared t flavor P n) in
    let r : Region = region_of w.schema (to_shared t flavor P n) t in
    let fresh : get seen t ≡ None = unseen.unseen t (omega arith) less in
    let at : get h.last t ≡ Some e = h.above t ge ∙ inserted_has seen t e in
    record {
      regions = h.regions ++ r ∷ [];
      last = h.last;
      tour = tour_new refl fresh leads h.tour tour_end;
      tight = tight_append a h.regions b (r ∷ []) c h.tight (aligned, ends);
      clean = clean_regions_append w.schema w.bytes a h.regions b (r ∷ []) h.tight h.clean (zeros, clean, behind, tt);
      known = record {
        inner = λ k q d y is named. elim (which k q is) [
          | inl eq ↦ (let there : get w.names k ≡ Some (e, x) = rw (eq.0) names in let same : y ≡ x = one_value (get w.names k) d e y x named there in rw same (finished_by mid new x kept all))
          | inr there ↦ finished_by mid new y kept (h.known.inner k q d y there named)
        ];
        typed = λ k q d y is named. elim (which k q is) [
          | inl eq ↦ (let there : get w.names k ≡ Some (e, x) = rw (eq.0) names in let same : d ≡ e = one_entry (get w.names k) d e y x named there in rw (eq.1, same) at)
          | inr there ↦ h.known.typed k q d y there named
        ];
        closed = λ k q is among. elim (which k q is) [
          | inl eq ↦ (let o = known.opened q among in let no : get seen q ≡ None = rw (eq.1) fresh in let yes = o.1 in cc)
          | inr there ↦ h.known.closed k q there (contains_later t pending q among)
        ];
        below = λ k q is. elim (which k q is) [ inl eq ↦ omega (arith, eq.1) | inr there ↦ omega (arith, h.known.below k q there) ];
        opened = λ q among. h.known.opened q (contains_later t pending q among);
      };
      below = λ q l. h.below q l ∙ inserted_apart seen t q e (λ eq. omega (arith, eq));
      above = λ q l. h.above q (omega arith) ∙ inserted_apart seen t q e (λ eq. omega (arith, eq));
      found = λ q d is. elim (h.found q d is) [
        | inl early ↦ elim (cases_eq q t) [
          | inl eq ↦ (let there : get (insert seen t e) q ≡ Some e = rw eq (inserted_has seen t e) in let same : d ≡ e = same_some (sym early ∙ there) in
              inr (rw (eq, same) (record { key = key; flat = v; value = x; finished = finished; names = names; contents = leads.contents; fills = fills })))
          | inr unlike ↦ inl (sym (inserted_apart seen t q e unlike) ∙ early)
        ]
        | inr later ↦ inr (found_in w mid new q d kept later)
      ];
    }

after_shared : (n t : ℕ) → t + n + cond (nat_eq n 0) 1 0 ≡ t + cond (true && nat_eq n 0) 1 n
after_shared n t = grind arith

-- A shared value under a new key: a byte of 0 follows a region of no size.
pub writes_shared_new : (D : Definitions) (old mid new : WriterState) (ks : List Naming) (x : Value) (P : Pointee) (n : ℕ) (flavor : Flavor) (t key : ℕ) (tail : List ℕ)
    → LaysOutShared D old mid key ks t P n x → new.bytes ≡ mid.bytes ++ tail → IsZeroed tail → length tail ≡ cond (nat_eq (length mid.bytes) t) 1 0 → new.states ≡ mid.states
    → Writes D old new ((key, (entry flavor (to_shared t flavor P n), x)) ∷ ks) (hole (to_shared t flavor P n)) (shared_value key)
writes_shared_new D old mid new ks x P n flavor t key tail s more tailz taill same_states =
    let h = s.lays in
    let o = h.owned in
    let m = h.mid in
    let v = h.flat in
    let e : Entry = entry flavor (to_shared t flavor P n) in
    let whole : new.bytes ≡ m.bytes ++ ((h.zeros ++ h.region) ++ tail) = more ∙ ap (λ z. z ++ tail) h.grown ∙ append_assoc m.bytes (h.zeros ++ h.region) tail in
    let le : length old.bytes ≤ length m.bytes = longer old.bytes m.bytes o.added o.grown in
    let lower : length m.bytes ≤ t = omega (arith, h.at) in
    let mid_len : length mid.bytes ≡ t + length h.region = omega (arith, ap length h.grown, length-append m.bytes (h.zeros ++ h.region), length-append h.zeros h.region, h.at) in
    let new_len : length new.bytes ≡ t + length h.region + length tail = omega (arith, ap length more, length-append mid.bytes tail, mid_len) in
    let tail_len : length tail ≡ cond (nat_eq (length h.region) 0) 1 0 = taill ∙ by_size t (length h.region) (length mid.bytes) mid_len in
    let inside : t < length new.bytes = behind (length h.region) (length tail) t tail_len new_len in
    let finish : IsSet m.states key (Some (Some t)) new.states = rw (← h.states, same_states) s.ends in
    let pending_mid : m.states key ≡ Some None = o.states.kept key None (set_here old.states s.begun key (Some None) s.begins) in
    let kept_finished : (k q : ℕ) → m.states k ≡ Some (Some q) → new.states k ≡ Some (Some q)
    = finished_middle (length old.bytes) (length m.bytes) (length new.bytes) t key old.states s.begun m.states m.states new.states s.unknown s.begins o.states refl finish le lower inside in
    let early : (w : World) → Covers w D new.bytes new.states ((key, (e, x)) ∷ ks) → Covers w D m.bytes m.states ks
    = λ w k. record {
      knows = k.knows;
      rest = ((h.zeros ++ h.region) ++ tail) ++ k.rest;
      begins = k.begins ∙ ap (λ z. z ++ k.rest) whole ∙ append_assoc m.bytes ((h.zeros ++ h.region) ++ tail) k.rest;
      placed = λ l q is. k.placed l q (kept_finished l q is);
      named = k.named.1;
    } in
    let apart : (w : World) → (k : Covers w D new.bytes new.states ((key, (e, x)) ∷ ks)) → w.bytes ≡ (m.bytes ++ h.zeros) ++ (h.region ++ (tail ++ k.rest))
    = λ w k. k.begins ∙ ap (λ z. z ++ k.rest) (more ∙ ap (λ z. z ++ tail) (h.grown ∙ sym (append_assoc m.bytes h.zeros h.region))) ∙ append_assoc (((m.bytes ++ h.zeros) ++ h.region)) tail k.rest
    ∙ append_assoc (m.bytes ++ h.zeros) h.region (tail ++ k.rest) in
    let stands : (w : World) → Covers w D new.bytes new.states ((key, (e, x)) ∷ ks) → Occurs w.bytes t h.region
    = λ w k. record { before = m.bytes ++ h.zeros; behind = tail ++ k.rest; is = apart w k; at = length-append m.bytes h.zeros ∙ sym h.at } in
    let leads : (w : World) → Covers w D new.bytes new.states ((key, (e, x)) ∷ ks) → Leads w.schema w.bytes (to_shared t flavor P n) t v
    = λ w k. record { target = refl; fits = omega (arith, h.sized w.schema k.knows, stands_fits _ _ _ (stands w k)); contents = h.contents w.schema w.bytes k.knows (stands w k); ordered = in_any_order } in
    record {
      added = o.added ++ ((h.zeros ++ h.region) ++ tail);
      grown = whole ∙ ap (λ z. z ++ ((h.zeros ++ h.region) ++ tail)) o.grown ∙ append_assoc old.bytes o.added ((h.zeros ++ h.region) ++ tail);
      states = finishes_shared (length old.bytes) (length m.bytes) (length new.bytes) t key old.states s.begun m.states m.states new.states s.unknown s.begins o.states refl finish le lower inside;
      finished = finished_key new.states key t (set_here m.states new.states key (Some (Some t)) finish);
      appends = λ w pending seen k known unseen. (
          let size : length h.region ≡ pointee_size w.schema P n = h.sized w.schema k.knows in
          let which = begun_which (length old.bytes) (length m.bytes) (length new.bytes) t key old.states s.begun m.states m.states new.states s.unknown s.begins o.states refl finish le lower inside in
          let held = begun_kept (length old.bytes) (length m.bytes) (length new.bytes) t key old.states s.begun m.states m.states new.states s.unknown s.begins o.states refl finish le lower inside in
          let first = o.appends w (t ∷ pending) (insert seen t e) (early w k)
          (known_entered w (length old.bytes) (length new.bytes) t old.states s.begun seen pending e (omega arith) inside which held unseen known)
          (unseen_entered (length old.bytes) (length m.bytes) (length new.bytes) t seen e lower (omega arith) unseen) in
          let ends : length new.bytes ≡ t + cond (true && nat_eq (length h.region) 0) 1 (length h.region) = new_len ∙ ap (λ z. t + length h.region + z) tail_len ∙ after_shared (length h.region) t in
          let ends2 : length new.bytes ≡ t + cond (true && nat_eq (pointee_size w.schema P n) 0) 1 (pointee_size w.schema P n) = ends ∙ ap (λ z. t + cond (true && nat_eq z 0) 1 z) size in
          appends_shared w (length old.bytes) (length m.bytes) (length new.bytes) t key old.states m.states new.states pending seen flavor P n v x
          le lower inside (leads w k)
          (h.aligned w.schema k.knows)
          (stands_zero w.bytes _ t h.zeros h.zeroed h.at (stands_begun w.bytes m.bytes h.zeros (h.region ++ (tail ++ k.rest)) _ (apart w k) refl))
          (h.clean w.schema w.bytes k.knows (stands w k))
          ends2
          (rw (← ends2) (stands_zero w.bytes _ (length new.bytes) tail tailz (omega (arith, new_len, size))
          (record {
            before = (m.bytes ++ h.zeros) ++ h.region;
            behind = k.rest;
            is = apart w k ∙ sym (append_assoc (m.bytes ++ h.zeros) h.region (tail ++ k.rest));
            at = omega (arith, length-append (m.bytes ++ h.zeros) h.region, length-append m.bytes h.zeros, h.at, size);
          })))
          known unseen first
          (finished_which (length old.bytes) (length m.bytes) (length new.bytes) t key old.states s.begun m.states m.states new.states s.unknown s.begins o.states refl finish le lower inside)
          kept_finished (set_here m.states new.states key (Some (Some t)) finish) k.named.0 (o.fills w (early w k)) o.finished);
      fills = λ w k. fills_shared refl (ap pos (sym (k.placed key t (set_here m.states new.states key (Some (Some t)) finish))));
    }
  where
    behind : (size n t : ℕ) → n ≡ cond (nat_eq size 0) 1 0 → {l : ℕ} → l ≡ t + size + n → t < l
    behind zero n t e f = omega (arith, e)
    behind (suc size) n t e f = omega (arith, e)

    by_size : (t size l : ℕ) → l ≡ t + size → ◌≡◌ {A = ℕ} (cond (nat_eq l t) 1 0) (cond (nat_eq size 0) 1 0)
    by_size t size l e = grind arith

-- A shared value whose key is finished: nothing is written, unless the states are none that a writer can have.
pub writes_shared_again : (D : Definitions) (old new : WriterState) (ks : List Naming) (x : Value) (P : Pointee) (n : ℕ) (flavor : Flavor) (t key : ℕ) (tail : List ℕ)
    → old.states key ≡ Some (Some t) → new.bytes ≡ old.bytes ++ tail → length tail ≡ cond (nat_eq (length old.bytes) t) 1 0 → new.states ≡ old.states
    → Writes D old new ((key, (entry flavor (to_shared t flavor P n), x)) ∷ ks) (hole (to_shared t flavor P n)) (shared_value key)
writes_shared_again D old new ks x P n flavor t key tail finished grown few same =
    let there : new.states key ≡ Some (Some t) = rw same finished in
    record {
      added = tail;
      grown = grown;
      states = rw same (finishes_wider (length old.bytes) (length old.bytes) (length new.bytes) old.states old.states (longer old.bytes new.bytes tail grown) (finishes_nothing _ old.states));
      finished = finished_key new.states key t there;
      appends = λ w pending seen k known unseen. (
          let end : length new.bytes ≡ length old.bytes = stays (length old.bytes) (length new.bytes) (length tail) t (ap length grown ∙ length-append old.bytes tail) few (known.below key t finished) in
          rw (same, end) (record {
            regions = [];
            last = seen;
            tour = tour_again refl refl (known.typed key t (entry flavor (to_shared t flavor P n)) x finished k.named.0) (inl (known.closed key t finished)) tour_end;
            tight = refl;
            clean = tt;
            known = known;
            below = λ q l. refl;
            above = λ q l. refl;
            found = λ q e h. inl h;
          }));
      fills = λ w k. fills_shared refl (ap pos (sym (k.placed key t there)));
    }
  where
    stays : (a b l t : ℕ) → b ≡ a + l → l ≡ cond (nat_eq a t) 1 0 → t < a → b ≡ a
    stays a b l t e f less = grind arith
