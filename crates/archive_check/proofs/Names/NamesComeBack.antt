-- Following the names that definitions hold: among few names one comes back, so one holds itself.
use Rattle.std.proofs.Common.{◌≡◌, ◌⊎◌, inl, inr, ⊎_elim, ℕ, zero, suc, ◌≤◌, List, [], ◌∷◌, length, get_or, Some, Contains, arith, refl}
use Rattle.std.proofs.lemmas.List.Elements.{Contains-get_or}
use Rattle.archive_check.specs.Shape.{Name, Shape, Table, definition}
use Rattle.archive_check.specs.Defined.{Holds, HeldIn, held, held_through}
use Rattle.archive_check.proofs.Elements.{contains_cases, contains_first, contains_later}

-- a list without one item
pub record Rest {X : Type 0} (xs : List X) (x : X) : Type 0 where
  pub rest : List X
  pub shorter : length xs ≡ suc (length rest)
  pub others : (y : X) → Contains xs y → (x ≡ y) ⊎ Contains rest y
  pub kept : (y : X) → Contains rest y → Contains xs y

pub rest_of : {X : Type 0} (xs : List X) (x : X) → Contains xs x → Rest xs x
rest_of [] x (k, l, e) = absurd (omega arith)
rest_of (y ∷ ys) x c = go (contains_cases y ys x c) (rest_of ys x)
  where
    go : (y ≡ x) ⊎ Contains ys x → (Contains ys x → Rest ys x) → Rest (y ∷ ys) x
    go (inl same) more = record {
      rest = ys;
      shorter = refl;
      others = λ z d. ⊎_elim (λ here. inl cc) inr (contains_cases y ys z d);
      kept = contains_later y ys;
    }
    go (inr d) more =
        let r = more d in
        record {
          rest = y ∷ r.rest;
          shorter = omega (arith, r.shorter);
          others = λ z i. ⊎_elim (λ here. inr (rw here (contains_first r.rest z))) (λ j. ⊎_elim inl (λ k. inr (contains_later y r.rest z k)) (r.others z j)) (contains_cases y ys z i);
          kept = λ z i. ⊎_elim (λ here. rw here (contains_first ys z)) (λ j. contains_later y ys z (r.kept z j)) (contains_cases y r.rest z i);
        }

-- the name's definition holds the other
pub record DefinitionHolds (table : Table) (name other : Name) : Type 0 where
  pub shape : Shape
  pub defined : definition table name ≡ Some shape
  pub holds : Holds other shape

-- itself or through other definitions
pub record LeadsTo (table : Table) (name other : Name) : Type 0 where
  pub shape : Shape
  pub defined : definition table name ≡ Some shape
  pub held : HeldIn table other shape

held_next : {table : Table} {name other : Name} {X : Shape} → HeldIn table name X → DefinitionHolds table name other → HeldIn table other X
held_next (held h) d = held_through h d.defined (held d.holds)
held_next (held_through h e r) d = held_through h e (held_next r d)

leads_next : {table : Table} {name other last : Name} → LeadsTo table name other → DefinitionHolds table other last → LeadsTo table name last
leads_next l d = record { shape = l.shape; defined = l.defined; held = held_next l.held d }

leads_first : {table : Table} {name other : Name} → DefinitionHolds table name other → LeadsTo table name other
leads_first d = record { shape = d.shape; defined = d.defined; held = held d.holds }

-- after a visit, what was visited or fresh still is
still_all : {n : Name} (visited fresh : List Name) (r : Rest fresh n) (q : Name) → Contains visited q ⊎ Contains fresh q → Contains (n ∷ visited) q ⊎ Contains r.rest q
still_all {n = n} visited fresh r q (inl c) = inl (contains_later n visited q c)
still_all {n = n} visited fresh r q (inr c) = ⊎_elim (λ same. inl (rw same (contains_first visited q))) inr (r.others q c)

-- and what was visited leads to what the name's definition holds
still_leads : {table : Table} {n m : Name} (visited : List Name) → ((a : Name) → Contains visited a → LeadsTo table a n) → DefinitionHolds table n m → (a : Name) → Contains (n ∷ visited) a → LeadsTo table a m
still_leads {n = n} visited leads h a c = ⊎_elim (λ same. rw (← same) (leads_first h)) (λ d. leads_next (leads a d) h) (contains_cases n visited a c)

-- What holds of each name that leads to itself, and of each name where, one less deep, it holds of the names that the definition holds, holds of few names.
module _ (table : Table) (Of : Name → Type 0) (R : ℕ → Name → Type 0)
    (comes_back : (k : ℕ) (n : Name) → Of n → LeadsTo table n n → R k n)
    (goes_on : (k : ℕ) (n : Name) → Of n → ((m : Name) → Of m → DefinitionHolds table n m → R k m) → R (suc k) n) where
  descend : (k : ℕ) (visited fresh : List Name) → length fresh ≤ k → ((q : Name) → Of q → Contains visited q ⊎ Contains fresh q)
      → (n : Name) → Of n → ((a : Name) → Contains visited a → LeadsTo table a n) → R k n
  descend zero visited fresh few all n o leads = ⊎_elim (λ c. comes_back zero n o (leads n c)) (λ (c : Contains fresh n). absurd (omega (arith, c.1))) (all n o)
  descend (suc k) visited fresh few all n o leads =
      let on = λ (c : Contains fresh n). λ (m : Name). λ (i : Of m). λ (h : DefinitionHolds table n m).
      let r = rest_of fresh n c in descend k (n ∷ visited) r.rest (omega (arith, r.shorter)) (λ q j. still_all visited fresh r q (all q j)) m i (still_leads visited leads h) in
      ⊎_elim (λ c. comes_back (suc k) n o (leads n c)) (λ c. goes_on k n o (on c)) (all n o)

  pub by_descent : (names : List Name) → ((q : Name) → Of q → Contains names q) → (n : Name) → Of n → R (length names) n
  by_descent names all n o = descend (length names) [] names (omega arith) (λ q j. inr (all q j)) n o (λ a c. absurd (omega (arith, c.1)))

-- one of the names leads to itself
abbrev pub OneComesBack : Table → List Name → Type 0
OneComesBack table names = (q : Name) × Contains names q × LeadsTo table q q

-- Where each definition of a list of names holds a name of the list, one of the names leads to itself.
pub one_comes_back : (table : Table) (names : List Name) → ((n : Name) → Contains names n → (m : Name) × Contains names m × DefinitionHolds table n m)
    → (n : Name) → Contains names n → OneComesBack table names
one_comes_back table names next =
    by_descent table (Contains names) (λ k n. OneComesBack table names)
    (λ k n c l. (n, c, l))
    (λ k n c on. let (m, d, h) = next n c in on m d h)
    names (λ q c. c)

-- so it is in each list of a name or more
pub some_comes_back : (table : Table) (names : List Name) → 1 ≤ length names → ((n : Name) → Contains names n → (m : Name) × Contains names m × DefinitionHolds table n m)
    → OneComesBack table names
some_comes_back table names some next = one_comes_back table names next (get_or names 0 []) (Contains-get_or names 0 [] some)
