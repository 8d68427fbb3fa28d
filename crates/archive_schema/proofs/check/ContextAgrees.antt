-- What a context met agrees with what is seen, call by call.
use Rattle.std.proofs.Common.{◌≡◌, ◌≢◌, ◌⊎◌, inl, inr, ℕ, ℤ, pos, negsuc, refl, sym, ap, ◌∙◌, ◌+◌, ◌-◌, ◌<◌, Bool, true, false, arith, List, [], ◌∷◌, Option, Some, None, option_map, Contains}
use Rattle.std.proofs.lemmas.Bool.Decides.{Decides-int_eq}
use Rattle.std.proofs.lemmas.Map.{update_same, update_other}
use Rattle.std.proofs.lemmas.Map.Made.{Contains-tail}
use Rattle.std.proofs.lemmas.Bool.{cases_eq, false_from_ne_true}
use Rattle.std.specs.Map.{update}
use Rattle.std.specs.Ordering.{nat_cmp, int_eq}
use Rattle.std.specs.FinMap.{get, insert, empty, get-empty}
use Rattle.archive_check.specs.Depth.{Allows, inside}
use Rattle.archive_check.specs.context.Ranges.{RangeState, one_more}
use Rattle.archive_check.specs.context.PositionStates.{PositionState, Positions, started_at, started, finished}
use Rattle.archive_check.specs.Tour.{Seen, Entry}
use Rattle.archive_check.specs.context.FreshContexts.{HasLevels, IsFresh}
use Rattle.archive_schema.specs.check.LoopInvariant.{Agrees}
use Rattle.archive_check.proofs.Elements.{contains_later}
use Rattle.archive_check.proofs.Tours.Seen.{same_some, inserted_has, inserted_apart}
use Rattle.archive_check.proofs.Checks.Depths.{levels_allow}

-- lists

contains_or_not : (ts : List ℕ) (q : ℕ) → Contains ts q ⊎ (Contains ts q → ⊥)
contains_or_not [] q = inr (λ h. let lt = h.1 in omega arith)
contains_or_not (t ∷ ts) q = elim (cases_eq t q) [
  | inl e ↦ inl (0, omega arith, e)
  | inr other ↦ elim (contains_or_not ts q) [ inl h ↦ inl (contains_later t ts q h) | inr none ↦ inr (λ h. none (Contains-tail t ts q other h)) ]
]

-- positions

pub update_here : (met : Positions) (k : ℤ) (w : Option PositionState) → update int_eq met k w k ≡ w
update_here met k w = update_same int_eq met k w k ((Decides-int_eq k k).1 refl)

pub update_apart : (met : Positions) (k q : ℤ) (w : Option PositionState) → k ≢ q → update int_eq met k w q ≡ met q
update_apart met k q w other = update_other int_eq met k w q (false_from_ne_true (int_eq k q) (λ e. other ((Decides-int_eq k q).0 e)))

pub pos_apart : (t q : ℕ) → t ≢ q → pos t ≢ pos q
pos_apart t q other e = let same : t ≡ q = cc in other same

signs_apart : (t n : ℕ) → pos t ≢ negsuc n
signs_apart t n e = cc

int_or_not : (t q : ℤ) → (t ≡ q) ⊎ (t ≢ q)
int_or_not t q = elim (int_eq t q) as (λ b. int_eq t q ≡ b → (t ≡ q) ⊎ (t ≢ q)) [ true ↦ λ e. inl ((Decides-int_eq t q).0 e) | false ↦ λ e. inr (λ s. let yes = (Decides-int_eq t q).1 s in cc) ] refl

-- a position that was met before stays
pub started_again : (met : Positions) (t : ℤ) (e : Entry) (m : PositionState) → met t ≡ Some m → (q : ℤ) → started met t e q ≡ met q
started_again met t e m is q =
    elim (int_or_not t q) [
      | inl same ↦ ap (started met t e) (sym same) ∙ update_here met t (Some (started_at (met t) e)) ∙ ap (λ o. Some (started_at o e)) is ∙ sym is ∙ ap met same
      | inr other ↦ update_apart met t q (Some (started_at (met t) e)) other
    ]

-- levels

pub deeper_levels : (o : Option ℕ) → Allows o 1 → inside o ≢ Some 0
deeper_levels None a e = cc
deeper_levels (Some n) a e = let zeroed : n - 1 ≡ 0 = cc in omega arith

pub deeper_few : (r : ℕ) (o : Option ℕ) (n : ℕ) → Allows o 1 → ((k : ℕ) → o ≡ Some k → k + r < 18446744073709551616) → inside o ≡ Some n → n + (1 + r) < 18446744073709551616
deeper_few r None n a few e = cc
deeper_few r (Some k) n a few e = let less : k - 1 ≡ n = cc in let most = few k refl in omega arith

pub higher_levels : (o : Option ℕ) → one_more o ≢ Some 0
higher_levels None e = cc
higher_levels (Some n) e = let zeroed : n + 1 ≡ 0 = cc in omega arith

pub higher_few : (r : ℕ) (o : Option ℕ) (n : ℕ) → ((k : ℕ) → o ≡ Some k → k + (1 + r) < 18446744073709551616) → one_more o ≡ Some n → n + r < 18446744073709551616
higher_few r None n few e = cc
higher_few r (Some k) n few e = let more : k + 1 ≡ n = cc in let most = few k refl in omega arith

-- agreement

pub agrees_same : {d : Option ℕ} {met met' : Positions} {pd : List ℕ} {r : ℕ} {seen : Seen} → ((q : ℤ) → met' q ≡ met q) → Agrees d met pd r seen → Agrees d met' pd r seen
agrees_same same h = record {
  before = λ n. same (negsuc n) ∙ h.before n;
  new = λ t e. same (pos t) ∙ h.new t e;
  begun = λ t e is here. same (pos t) ∙ h.begun t e is here;
  over = λ t e is gone. same (pos t) ∙ h.over t e is gone;
  known = h.known;
  once = h.once;
  levels = h.levels;
  few = h.few;
}

pub levels_of : {d : Option ℕ} {met : Positions} {pd : List ℕ} {r : ℕ} {seen : Seen} → Agrees d met pd r seen → HasLevels d
levels_of a = record { levels = a.levels; few = λ k is. let most = a.few k is in omega arith }

pub agrees_fresh : (s : RangeState) (met : Positions) → IsFresh s met → Agrees s.depth met [] 0 empty
agrees_fresh s met f = record {
  before = λ n. f.nothing (negsuc n);
  new = λ t e. f.nothing (pos t);
  begun = λ t e is here. absurd (let lt = here.1 in omega arith);
  over = λ t e is gone. absurd (let none = get-empty {X = Entry} nat_cmp t in cc);
  known = λ t here. absurd (let lt = here.1 in omega arith);
  once = tt;
  levels = f.levels.levels;
  few = λ d is. let few = f.levels.few d is in omega arith;
}

module _ {d : Option ℕ} {met : Positions} {pd : List ℕ} {r : ℕ} {seen : Seen} (h : Agrees d met pd r seen) where
  -- what is met at a position says what is seen there
  pub record SeenAs (t : ℕ) (e : Entry) (over : Bool) : Type 0 where
    pub is : get seen t ≡ Some e
    pub here : over ≡ false → Contains pd t
    pub gone : over ≡ true → Contains pd t → ⊥

  met_not : (t : ℕ) (e : Entry) (b : Bool) → met (pos t) ≡ Some (record { entry = e; finished = b }) → get seen t ≡ None → ⊥
  met_not t e b is none = let nothing = h.new t none in cc

  entry_same : (t : ℕ) (e old : Entry) (b c : Bool) → met (pos t) ≡ Some (record { entry = e; finished = b }) → met (pos t) ≡ Some (record { entry = old; finished = c }) → (old ≡ e) × (c ≡ b)
  entry_same t e old b c x y =
      let same : ◌≡◌ {A = PositionState} (record { entry = old; finished = c }) (record { entry = e; finished = b }) = cc in
      (ap (λ q. q.entry) same, ap (λ q. q.finished) same)

  pub seen_as : (t : ℕ) (e : Entry) (b : Bool) → met (pos t) ≡ Some (record { entry = e; finished = b }) → SeenAs t e b
  seen_as t e b is =
      elim (get seen t) as (λ g. get seen t ≡ g → SeenAs t e b) [
        | None ↦ λ none. absurd (met_not t e b is none)
        | Some old ↦ λ some. elim (contains_or_not pd t) [
          | inl inside ↦ let same = entry_same t e old b false is (h.begun t old some inside) in
              record { is = some ∙ ap Some same.0; here = λ q. inside; gone = λ q. absurd (let c = same.1 in cc) }
          | inr outside ↦ let same = entry_same t e old b true is (h.over t old some outside) in
              record { is = some ∙ ap Some same.0; here = λ q. absurd (let c = same.1 in cc); gone = λ q. outside }
        ]
      ] refl

  pub met_none : (t : ℕ) → met (pos t) ≡ None → get seen t ≡ None
  met_none t is =
      elim (get seen t) as (λ g. get seen t ≡ g → get seen t ≡ None) [
        | None ↦ λ none. none
        | Some old ↦ λ some. elim (contains_or_not pd t) [
          | inl inside ↦ absurd (let x = h.begun t old some inside in cc)
          | inr outside ↦ absurd (let x = h.over t old some outside in cc)
        ]
      ] refl

  -- a new position is started
  pub agrees_new : (t : ℕ) (e : Entry) → met (pos t) ≡ None → Agrees d (started met (pos t) e) (t ∷ pd) r (insert seen t e)
  agrees_new t e none =
      let there = met_none t none in
      record {
        before = λ n. update_apart met (pos t) (negsuc n) (Some (started_at (met (pos t)) e)) (signs_apart t n) ∙ h.before n;
        new = λ q is. elim (cases_eq t q) [
          | inl same ↦ absurd (let here = inserted_has seen t e in let gone : get (insert seen t e) t ≡ None = ap (λ k. get (insert seen t e) k) same ∙ is in cc)
          | inr other ↦ update_apart met (pos t) (pos q) (Some (started_at (met (pos t)) e)) (pos_apart t q other) ∙ h.new q (sym (inserted_apart seen t q e (λ s. other (sym s))) ∙ is)
        ];
        begun = λ q old is inside. elim (cases_eq t q) [
          | inl same ↦
              let here : get (insert seen t e) q ≡ Some e = rw (← same) (inserted_has seen t e) in
              let equal : ◌≡◌ {A = Entry} e old = same_some (sym here ∙ is) in
              ap (λ k. started met (pos t) e (pos k)) (sym same) ∙ update_here met (pos t) (Some (started_at (met (pos t)) e)) ∙ ap (λ o. Some (started_at o e)) none ∙ ap (λ k. Some (record { entry = k; finished = false })) equal
          | inr other ↦ update_apart met (pos t) (pos q) (Some (started_at (met (pos t)) e)) (pos_apart t q other) ∙ h.begun q old (sym (inserted_apart seen t q e (λ s. other (sym s))) ∙ is) (Contains-tail t pd q other inside)
        ];
        over = λ q old is outside. elim (cases_eq t q) [
          | inl same ↦ absurd (outside (0, omega arith, same))
          | inr other ↦ update_apart met (pos t) (pos q) (Some (started_at (met (pos t)) e)) (pos_apart t q other) ∙ h.over q old (sym (inserted_apart seen t q e (λ s. other (sym s))) ∙ is) (λ k. outside (contains_later t pd q k))
        ];
        known = λ q inside is. elim (cases_eq t q) [
          | inl same ↦ let here : get (insert seen t e) q ≡ Some e = rw (← same) (inserted_has seen t e) in cc
          | inr other ↦ h.known q (Contains-tail t pd q other inside) (sym (inserted_apart seen t q e (λ s. other (sym s))) ∙ is)
        ];
        once = (λ inside. h.known t inside there, h.once);
        levels = h.levels;
        few = h.few;
      }

  -- a level less, in a region more
  pub allows : (d ≡ Some 1 → ⊥) → Allows d 1
  allows not = levels_allow d h.levels not

  pub agrees_inside : Allows d 1 → Agrees (inside d) met pd (1 + r) seen
  agrees_inside deep = record {
    before = h.before;
    new = h.new;
    begun = h.begun;
    over = h.over;
    known = h.known;
    once = h.once;
    levels = deeper_levels d deep;
    few = λ n is. deeper_few r d n deep h.few is;
  }

module _ {d : Option ℕ} {met : Positions} {t : ℕ} {rest : List ℕ} {r : ℕ} {seen : Seen} (h : Agrees d met (t ∷ rest) r seen) where
  -- the shared position that was started last is finished
  pub agrees_finished : Agrees d (finished met (pos t)) rest r seen
  agrees_finished = record {
    before = λ n. update_apart met (pos t) (negsuc n) (option_map (λ old. record { entry = old.entry; finished = true }) (met (pos t))) (signs_apart t n) ∙ h.before n;
    new = λ q is. elim (cases_eq t q) [
      | inl same ↦ absurd (h.known q (0, omega arith, same) is)
      | inr other ↦ update_apart met (pos t) (pos q) (option_map (λ old. record { entry = old.entry; finished = true }) (met (pos t))) (pos_apart t q other) ∙ h.new q is
    ];
    begun = λ q e is inside. elim (cases_eq t q) [
      | inl same ↦ absurd (h.once.0 (rw (← same) at inside))
      | inr other ↦ update_apart met (pos t) (pos q) (option_map (λ old. record { entry = old.entry; finished = true }) (met (pos t))) (pos_apart t q other) ∙ h.begun q e is (contains_later t rest q inside)
    ];
    over = λ q e is outside. elim (cases_eq t q) [
      | inl same ↦
          ap (λ k. finished met (pos t) (pos k)) (sym same)
          ∙ update_here met (pos t) (option_map (λ old. record { entry = old.entry; finished = true }) (met (pos t)))
          ∙ ap (option_map (λ old. record { entry = old.entry; finished = true })) (ap (λ k. met (pos k)) same ∙ h.begun q e is (0, omega arith, same))
      | inr other ↦ update_apart met (pos t) (pos q) (option_map (λ old. record { entry = old.entry; finished = true }) (met (pos t))) (pos_apart t q other) ∙ h.over q e is (λ k. outside (Contains-tail t rest q other k))
    ];
    known = λ q inside. h.known q (contains_later t rest q inside);
    once = h.once.1;
    levels = h.levels;
    few = h.few;
  }

-- a level more, in a region less
pub agrees_outside : (r : ℕ) {d : Option ℕ} {met : Positions} {pd : List ℕ} {seen : Seen} → Agrees d met pd (1 + r) seen → Agrees (one_more d) met pd r seen
agrees_outside r {d = d} h = record {
  before = h.before;
  new = h.new;
  begun = h.begun;
  over = h.over;
  known = h.known;
  once = h.once;
  levels = higher_levels d;
  few = λ n is. higher_few r d n h.few is;
}

pub inside_more : (d : Option ℕ) → d ≡ inside (one_more d)
inside_more None = refl
inside_more (Some n) = let same : n ≡ n + 1 - 1 = omega arith in ap Some same
