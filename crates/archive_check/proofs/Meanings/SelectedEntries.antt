-- The entries that a value leads to, as a map of their own.
use Rattle.std.proofs.Common.{◌≡◌, ◌⊎◌, inl, inr, ℕ, zero, suc, ◌-◌, ◌<◌, ◌≤◌, List, [], ◌∷◌, ◌++◌, Option, Some, None, cond, is_some, nat_cmp, arith, refl, sym, ap, ◌∙◌}
use Rattle.std.specs.FinMap.{empty, get, insert, remove, len, get-remove, get-empty, len-remove, empty_of_len}
use Rattle.std.specs.Cmp.{nat_cmp_total, eq_by_cmp_equiv}
use Rattle.std.specs.Ordering.{eq_by_cmp}
use Rattle.archive_check.specs.Value.{Value, Values, number, product, case, list, text_value, box, null, shared_value, hole, no_value, value}
use Rattle.archive_check.specs.Tour.{Entry}
use Rattle.archive_check.specs.Reached.{Names, names_itself, names_product, names_case, names_list, names_box, NamesAmong, names_first, names_later, LeadsTo, leads_at_once, leads_through}
use Rattle.archive_check.proofs.Tours.Seen.{same_key, same_some, inserted_has, inserted_apart}
use Rattle.archive_check.proofs.Meanings.NamesReached.{Shared}
use Rattle.std.proofs.lemmas.Bool.{cases_eq, false_from_ne_true}

-- a name is one of those
abbrev Among : ℕ → List ℕ → Type 0
Among t [] = ⊥
Among t (u ∷ L) = (t ≡ u) ⊎ Among t L

among_left : (t : ℕ) (L K : List ℕ) → Among t L → Among t (L ++ K)
among_left t [] K h = absurd h
among_left t (u ∷ L) K (inl e) = inl e
among_left t (u ∷ L) K (inr h) = inr (among_left t L K h)

among_right : (t : ℕ) (L K : List ℕ) → Among t K → Among t (L ++ K)
among_right t [] K h = h
among_right t (u ∷ L) K h = inr (among_right t L K h)

among_either : (t : ℕ) (L K : List ℕ) → Among t (L ++ K) → Among t L ⊎ Among t K
among_either t [] K h = inr h
among_either t (u ∷ L) K (inl e) = inl (inl e)
among_either t (u ∷ L) K (inr h) = go (among_either t L K h)
  where
    go : Among t L ⊎ Among t K → Among t (u ∷ L) ⊎ Among t K
    go (inl k) = inl (inr k)
    go (inr k) = inr k

-- the names in a value
abbrev mutual
  names_in : Value → List ℕ
  names_in (number z) = []
  names_in (product vs) = names_among vs
  names_in (case tag vs) = names_among vs
  names_in (list vs) = names_among vs
  names_in (text_value text) = []
  names_in (box v) = names_in v
  names_in null = []
  names_in (shared_value t) = t ∷ []
  names_in (hole p) = []

  names_among : Values → List ℕ
  names_among no_value = []
  names_among (value v vs) = names_in v ++ names_among vs

mutual
  listed : {t : ℕ} {v : Value} → Names t v → Among t (names_in v)
  listed names_itself = inl refl
  listed (names_product n) = listed_among n
  listed (names_case n) = listed_among n
  listed (names_list n) = listed_among n
  listed (names_box n) = listed n

  listed_among : {t : ℕ} {vs : Values} → NamesAmong t vs → Among t (names_among vs)
  listed_among {t = t} (names_first {v = v} {vs = vs} n) = among_left t (names_in v) (names_among vs) (listed n)
  listed_among {t = t} (names_later {v = v} {vs = vs} n) = among_right t (names_in v) (names_among vs) (listed_among n)

by_part : {A B : Type 0} (t : ℕ) (v : Value) (vs : Values) → (A → Names t v) → (B → NamesAmong t vs) → A ⊎ B → NamesAmong t (value v vs)
by_part t v vs f g (inl a) = names_first (f a)
by_part t v vs f g (inr b) = names_later (g b)

mutual
  names_listed : (t : ℕ) (v : Value) → Among t (names_in v) → Names t v
  names_listed t (number z) h = absurd h
  names_listed t (product vs) h = names_product (names_listed_among t vs h)
  names_listed t (case tag vs) h = names_case (names_listed_among t vs h)
  names_listed t (list vs) h = names_list (names_listed_among t vs h)
  names_listed t (text_value text) h = absurd h
  names_listed t (box v) h = names_box (names_listed t v h)
  names_listed t null h = absurd h
  names_listed t (shared_value u) (inl e) = rw e names_itself
  names_listed t (shared_value u) (inr h) = absurd h
  names_listed t (hole p) h = absurd h

  names_listed_among : (t : ℕ) (vs : Values) → Among t (names_among vs) → NamesAmong t vs
  names_listed_among t no_value h = absurd h
  names_listed_among t (value v vs) h = by_part t v vs (λ k. names_listed t v k) (λ k. names_listed_among t vs k) (among_either t (names_in v) (names_among vs) h)

-- Where a name is, while entries are taken as the names in `next` are followed.
data Where (all taken : Shared) (next : List ℕ) (t : ℕ) : Type 0 where
  is_taken : (x : Entry × Value) → get taken t ≡ Some x → Where all taken next t
  is_next : Among t next → Where all taken next t
  is_unknown : get all t ≡ None → Where all taken next t

-- An entry is among the rest, or is taken.
data Side (all rest taken : Shared) (t : ℕ) : Type 0 where
  at_rest : get taken t ≡ None → get rest t ≡ get all t → Side all rest taken t
  at_taken : get rest t ≡ None → get taken t ≡ get all t → Side all rest taken t

record State (all : Shared) (w : Value) (rest taken : Shared) (next : List ℕ) : Type 0 where
  side : (t : ℕ) → Side all rest taken t
  led : (t : ℕ) (x : Entry × Value) → get taken t ≡ Some x → LeadsTo all w t
  next_led : (t : ℕ) → Among t next → LeadsTo all w t
  first : (t : ℕ) → Names t w → Where all taken next t
  closed : (t u : ℕ) (x : Entry × Value) → get taken t ≡ Some x → Names u (x.1) → Where all taken next u

-- the map of the entries that a value leads to
pub record Selected (all : Shared) (w : Value) : Type 0 where
  pub entries : Shared
  pub same : (t : ℕ) (x : Entry × Value) → get entries t ≡ Some x → LeadsTo all w t × (get all t ≡ Some x)
  pub whole : (t : ℕ) (x : Entry × Value) → LeadsTo all w t → get all t ≡ Some x → get entries t ≡ Some x

out_here : (m : Shared) (t : ℕ) → get (remove m t) t ≡ None
out_here m t = get-remove nat_cmp_total m t t ∙ ap (λ b. cond b None (get m t)) ((eq_by_cmp_equiv nat_cmp_total).refl t)

out_apart : (m : Shared) (t u : ℕ) → (u ≡ t → ⊥) → get (remove m t) u ≡ get m u
out_apart m t u other = get-remove nat_cmp_total m t u ∙ ap (λ b. cond b None (get m u)) (false_from_ne_true (eq_by_cmp nat_cmp u t) (λ s. other (same_key u t s)))

not_both : {A B : Type 0} {x : A} (o : Option A) → o ≡ None → o ≡ Some x → B
not_both o e f = let never : ⊥ = cc in absurd never

by_option : {A B : Type 0} (o : Option A) → (o ≡ None → B) → ((x : A) → o ≡ Some x → B) → B
by_option None f g = f refl
by_option (Some x) f g = g x refl

fewer : (m : Shared) (t : ℕ) (x : Entry × Value) → get m t ≡ Some x → len (remove m t) < len m
fewer m t x k =
    let shorter : len (remove m t) ≡ len m - 1 = len-remove nat_cmp_total m t ∙ ap (λ o. cond (is_some o) (len m - 1) (len m)) k in
    by_size (len m) refl shorter
  where
    by_size : (n : ℕ) → len m ≡ n → len (remove m t) ≡ len m - 1 → len (remove m t) < len m
    by_size zero e shorter = not_both (get m t) (ap (λ z. get z t) (empty_of_len m e) ∙ get-empty nat_cmp t) k
    by_size (suc n) e shorter = omega arith

module _ (all : Shared) (w : Value) where
  known_all : {rest taken : Shared} {t : ℕ} {x : Entry × Value} → Side all rest taken t → get taken t ≡ Some x → get all t ≡ Some x
  known_all {taken = taken} {t = t} (at_rest a b) k = not_both (get taken t) a k
  known_all (at_taken a b) k = sym b ∙ k

  rest_all : {rest taken : Shared} {t : ℕ} {x : Entry × Value} → Side all rest taken t → get rest t ≡ Some x → get all t ≡ Some x
  rest_all (at_rest a b) k = sym b ∙ k
  rest_all {rest = rest} {t = t} (at_taken a b) k = not_both (get rest t) a k

  through : {rest taken : Shared} {t u : ℕ} {e : Entry} {v : Value} → State all w rest taken [] → Where all taken [] t → get all t ≡ Some (e, v) → Names u v → Where all taken [] u
  through {t = t} {u = u} {e = e} {v = v} st (is_taken x g) k n =
      let same : x ≡ (e, v) = same_some (sym (known_all (st.side t) g) ∙ k) in st.closed t u x g (rw (ap (λ z. z.1) same) n)
  through st (is_next h) k n = absurd h
  through {t = t} st (is_unknown g) k n = not_both (get all t) g k

  complete : {rest taken : Shared} {t : ℕ} → State all w rest taken [] → LeadsTo all w t → Where all taken [] t
  complete st (leads_at_once n) = st.first _ n
  complete st (leads_through l k n) = through st (complete st l) k n

  found : {rest taken : Shared} {t : ℕ} {x : Entry × Value} → State all w rest taken [] → Where all taken [] t → get all t ≡ Some x → get taken t ≡ Some x
  found {t = t} st (is_taken y g) k = g ∙ sym (known_all (st.side t) g) ∙ k
  found st (is_next h) k = absurd h
  found {t = t} st (is_unknown g) k = not_both (get all t) g k

  finish : {rest taken : Shared} → State all w rest taken [] → Selected all w
  finish {taken = taken} st = record {
    entries = taken;
    same = λ t x k. (st.led t x k, known_all (st.side t) k);
    whole = λ t x l k. found st (complete st l) k;
  }

  -- a name that is taken already, or is unknown
  skip : {rest taken : Shared} {L : List ℕ} (t : ℕ) → get rest t ≡ None → State all w rest taken (t ∷ L) → State all w rest taken L
  skip {rest} {taken} {L} t none st = record {
    side = st.side;
    led = st.led;
    next_led = λ u h. st.next_led u (inr h);
    first = λ u n. move u (st.first u n);
    closed = λ v u x g n. move u (st.closed v u x g n);
  }
    where
      here : Side all rest taken t → Where all taken L t
      here (at_rest a b) = is_unknown (sym b ∙ none)
      here (at_taken a b) = by_option (get taken t) (λ e. is_unknown (sym b ∙ e)) (λ x e. is_taken x e)

      move : (u : ℕ) → Where all taken (t ∷ L) u → Where all taken L u
      move u (is_taken x g) = is_taken x g
      move u (is_next (inl e)) = rw e (here (st.side t))
      move u (is_next (inr h)) = is_next h
      move u (is_unknown g) = is_unknown g

  -- a name whose entry is taken, and whose names are followed next
  take : {rest taken : Shared} {L : List ℕ} (t : ℕ) (x : Entry × Value) → get rest t ≡ Some x → State all w rest taken (t ∷ L) → State all w (remove rest t) (insert taken t x) (names_in (x.1) ++ L)
  take {rest} {taken} {L} t x k st = record {
    side = λ u. side_of u (cases_eq u t) (st.side u);
    led = λ u y g. led_of u y (cases_eq u t) g;
    next_led = λ u h. next_of u (among_either u (names_in (x.1)) L h);
    first = λ u n. move u (st.first u n);
    closed = λ v u y g n. closed_of v u y (cases_eq v t) g n;
  }
    where
      at_all : get all t ≡ Some x
      at_all = rest_all (st.side t) k

      side_of : (u : ℕ) → (u ≡ t) ⊎ (u ≡ t → ⊥) → Side all rest taken u → Side all (remove rest t) (insert taken t x) u
      side_of u (inl e) s = rw e (at_taken (out_here rest t) (inserted_has taken t x ∙ sym at_all))
      side_of u (inr is) (at_rest a b) = at_rest (inserted_apart taken t u x is ∙ a) (out_apart rest t u is ∙ b)
      side_of u (inr is) (at_taken a b) = at_taken (out_apart rest t u is ∙ a) (inserted_apart taken t u x is ∙ b)

      led_of : (u : ℕ) (y : Entry × Value) → (u ≡ t) ⊎ (u ≡ t → ⊥) → get (insert taken t x) u ≡ Some y → LeadsTo all w u
      led_of u y (inl e) g = rw e (st.next_led t (inl refl))
      led_of u y (inr is) g = st.led u y (sym (inserted_apart taken t u x is) ∙ g)

      next_of : (u : ℕ) → Among u (names_in (x.1)) ⊎ Among u L → LeadsTo all w u
      next_of u (inl h) = leads_through (st.next_led t (inl refl)) at_all (names_listed u (x.1) h)
      next_of u (inr h) = st.next_led u (inr h)

      moved : (u : ℕ) (y : Entry × Value) → (u ≡ t) ⊎ (u ≡ t → ⊥) → get taken u ≡ Some y → Where all (insert taken t x) (names_in (x.1) ++ L) u
      moved u y (inl e) g = is_taken x (rw e (inserted_has taken t x))
      moved u y (inr is) g = is_taken y (inserted_apart taken t u x is ∙ g)

      move : (u : ℕ) → Where all taken (t ∷ L) u → Where all (insert taken t x) (names_in (x.1) ++ L) u
      move u (is_taken y g) = moved u y (cases_eq u t) g
      move u (is_next (inl e)) = is_taken x (rw e (inserted_has taken t x))
      move u (is_next (inr h)) = is_next (among_right u (names_in (x.1)) L h)
      move u (is_unknown g) = is_unknown g

      closed_of : (v u : ℕ) (y : Entry × Value) → (v ≡ t) ⊎ (v ≡ t → ⊥) → get (insert taken t x) v ≡ Some y → Names u (y.1) → Where all (insert taken t x) (names_in (x.1) ++ L) u
      closed_of v u y (inl e) g n =
          let same : y ≡ x = same_some (sym g ∙ ap (λ z. get (insert taken t x) z) e ∙ inserted_has taken t x) in
          is_next (among_left u (names_in (x.1)) L (listed (rw (ap (λ z. z.1) same) at n)))
      closed_of v u y (inr is) g n = move u (st.closed v u y (sym (inserted_apart taken t v x is) ∙ g) n)

  scan : (bound : ℕ) → ((rest taken : Shared) (L : List ℕ) → State all w rest taken L → len rest < bound → Selected all w) → (L : List ℕ) (rest taken : Shared) → State all w rest taken L → len rest ≤ bound → Selected all w
  scan bound more [] rest taken st le = finish st
  scan bound more (t ∷ L) rest taken st le = by_option (get rest t)
      (λ e. scan bound more L rest taken (skip t e st) le)
      (λ x k. let less = fewer rest t x k in more (remove rest t) (insert taken t x) (names_in (x.1) ++ L) (take t x k st) (omega arith))

  search_all : (bound : ℕ) (rest taken : Shared) (L : List ℕ) → State all w rest taken L → len rest ≤ bound → Selected all w
  search_all zero rest taken L st le = scan 0 (λ r q K s less. absurd (omega arith)) L rest taken st le
  search_all (suc n) rest taken L st le = scan (suc n) (λ r q K s less. search_all n r q K s (omega arith)) L rest taken st le

  pub selected : Selected all w
  selected = search_all (len all) all empty (names_in w) (record {
    side = λ t. at_rest (get-empty nat_cmp t) refl;
    led = λ t x k. not_both (get {R = nat_cmp} empty t) (get-empty nat_cmp t) k;
    next_led = λ t h. leads_at_once (names_listed t w h);
    first = λ t n. is_next (listed n);
    closed = λ t u x k n. not_both (get {R = nat_cmp} empty t) (get-empty nat_cmp t) k;
  }) (omega arith)
