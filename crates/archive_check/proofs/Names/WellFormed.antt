-- A shape is well formed exactly where its definitions can be collected and put in order.
use Rattle.std.proofs.Common.{◌≡◌, ⊎_elim, ℕ, zero, suc, ◌+◌, ◌<◌, ◌≤◌, [], ◌∷◌, ◌++◌, length, take, get_or, sym, ap, ◌∙◌, arith, true, false, Some, None, Contains}
use Rattle.std.proofs.lemmas.List.{take_more, take_all, get_or_default}
use Rattle.std.proofs.lemmas.List.Elements.{Contains-get_or}
use Rattle.archive_check.specs.Shape.{Name, Shape, str, Table, definition}
use Rattle.archive_check.specs.Defined.{Holds, Reaches, reaches, reaches_through, Involves, involves, involves_through, HeldIn, held, held_through, AllDefined, WellFormed}
use Rattle.archive_check.specs.Definitions.{Definitions, listed, Extended}
use Rattle.archive_check.specs.MissingNames.{missing, Collected, Arranged}
use Rattle.archive_check.proofs.Names.Named.{names_decided, definition_here, definition_other}
use Rattle.archive_check.proofs.Names.MissingNames.{IsDefined, held_defined, mentioned_defined}
use Rattle.archive_check.proofs.Elements.{contains_cases, contains_later}
use Rattle.archive_check.proofs.Names.LaidOutNames.{DefinedInOrder, ordered_none, ordered_next, ordered_never, names_of, names_of-push, names_of-nil, defined_named}

-- a definition that is found stands in the table, and one that stands there is found, or another one
pub found_stands : (table : Table) (n : Name) (X : Shape) → definition table n ≡ Some X → Contains table (n, X)
found_stands [] n X e = cc
found_stands ((a, Y) ∷ ds) n X e = ⊎_elim
    (λ s. (0, omega arith, cc (s, sym (definition_here a n Y ds s) ∙ e)))
    (λ o. contains_later (a, Y) ds (n, X) (found_stands ds n X (sym (definition_other a n Y ds o) ∙ e)))
    (names_decided a n)

pub stands_found : (table : Table) (n : Name) (X : Shape) → Contains table (n, X) → IsDefined table n
stands_found [] n X c = absurd (omega (arith, c.1))
stands_found ((a, Y) ∷ ds) n X c = ⊎_elim
    (λ s. (Y, definition_here a n Y ds s))
    (λ o. ⊎_elim
    (λ here. absurd (o (ap (λ (p : Name × Shape). p.0) here)))
    (λ later. let f = stands_found ds n X later in (f.0, definition_other a n Y ds o ∙ f.1))
    (contains_cases (a, Y) ds (n, X) c))
    (names_decided a n)

-- what is reached, whichever definitions are taken, is reached in a table that has each of them
pub reached_there : (old new : Table) → ((n : Name) (Y : Shape) → Contains old (n, Y) → definition new n ≡ Some Y) → {n : Name} {X : Shape} → Involves old n X → Reaches new n X
reached_there old new has (involves m) = reaches m
reached_there old new has (involves_through m c i) = reaches_through m (has _ _ c) (reached_there old new has i)

-- where each name that is reached has one definition, no other one leads further
module _ (table : Table) (X : Shape) (all : AllDefined table X) where
  involved_below : {n : Name} {Y : Shape} → ((m : Name) → Reaches table m Y → Reaches table m X) → Involves table n Y → Reaches table n Y
  involved_below sub (involves m) = reaches m
  involved_below sub (involves_through {Y = Z} {n = k} m c i) =
      let (W, d, only) = all k (sub k (reaches m)) in
      let d' : definition table k ≡ Some Z = d ∙ ap Some (sym (only Z c)) in
      reaches_through m d' (involved_below (λ j r. sub j (reaches_through m d' r)) i)

  pub involved_reached : (n : Name) → Involves table n X → Reaches table n X
  involved_reached n i = involved_below (λ m r. r) i

-- what is reached stays so under more definitions
module _ (old new : Table) (more : (n : Name) (Y : Shape) → definition old n ≡ Some Y → definition new n ≡ Some Y) where
  pub reached_more : {n : Name} {X : Shape} → Reaches old n X → Reaches new n X
  reached_more (reaches h) = reaches h
  reached_more (reaches_through h d r) = reaches_through h (more _ _ d) (reached_more r)

  pub held_more : {n : Name} {X : Shape} → HeldIn old n X → HeldIn new n X
  held_more (held h) = held h
  held_more (held_through h d r) = held_through h (more _ _ d) (held_more r)

-- an order of definitions is an order of names
module _ (old new : Table) (h : Arranged old new) where
  module _ (k : ℕ) (l : k < length new) where
    abbrev here : Name × Shape
    here = get_or new k ([], str)

    here_stands : (here.0, here.1) ≡ get_or new k (here.0, here.1)
    here_stands = get_or_default new k ([], str) here l

    one_more : names_of (take (suc k) new) ≡ names_of (take k new) ++ here.0 ∷ []
    one_more = ap (λ j. names_of (take j new)) {x = suc k} {y = k + 1} (omega arith) ∙ ap names_of (take_more new k ([], str) l) ∙ names_of-push (take k new) here

    named_before : (m : Name) → Holds m here.1 → Contains (names_of (take k new)) m
    named_before m i = let (Y, e) = held_defined (take k new) false m i (h.earlier k here.0 here.1 l here_stands) in defined_named (take k new) m Y e

  ordered_to : (k : ℕ) → k ≤ length new → DefinedInOrder new (names_of (take k new))
  ordered_to zero l = rw names_of-nil ordered_none
  ordered_to (suc k) l =
      rw (one_more k l) (ordered_next (here k l).0 (ordered_to k (omega arith)) (h.once (here k l).0 (here k l).1 (Contains-get_or new k ([], str) l)) (named_before k l))

  pub arranged_ordered : DefinedInOrder new (names_of new)
  arranged_ordered = rw (ap names_of (take_all (length new) new (omega arith))) at (ordered_to (length new) (omega arith))

  -- and no name in it holds itself
  pub arranged_never : (n : Name) (Y : Shape) → definition new n ≡ Some Y → HeldIn new n Y → ⊥
  arranged_never n Y e i = ordered_never new arranged_ordered n (defined_named new n Y e) (record { shape = Y; defined = e; held = i })

-- what is held is held in a part of a table that has all it needs
held_within : (old new : Table) → ((n : Name) (Y : Shape) → definition new n ≡ Some Y → definition old n ≡ Some Y) → ((n : Name) (Y : Shape) → definition new n ≡ Some Y → missing true new Y ≡ None)
    → {n : Name} {X : Shape} → HeldIn old n X → missing true new X ≡ None → HeldIn new n X
held_within old new kept closed (held h) none = held h
held_within old new kept closed (held_through {Y = Y} {n = m} h d r) none =
    let (Z, e) = held_defined new true m h none in
    let same : Z ≡ Y = cc (sym (kept m Z e) ∙ d) in
    held_through h (e ∙ ap Some same) (held_within old new kept closed r (ap (missing true new) (sym same) ∙ closed m Z e))

-- and what is reached is defined there
pub reached_within : (old new : Table) → ((n : Name) (Y : Shape) → definition new n ≡ Some Y → definition old n ≡ Some Y) → ((n : Name) (Y : Shape) → definition new n ≡ Some Y → missing true new Y ≡ None)
    → {n : Name} {X : Shape} → Reaches old n X → missing true new X ≡ None → IsDefined new n
reached_within old new kept closed (reaches h) none = mentioned_defined new _ h none
reached_within old new kept closed (reaches_through {Y = Y} {n = m} h d r) none =
    let (Z, e) = mentioned_defined new m h none in
    let same : Z ≡ Y = cc (sym (kept m Z e) ∙ d) in
    reached_within old new kept closed r (ap (missing true new) (sym same) ∙ closed m Z e)

-- A type's definitions, put into a table of their own.
module _ (D : Definitions) (X : Shape) (table : Table) (added : Extended [] D table) where
  looked_up : (n : Name) (Y : Shape) → definition table n ≡ Some Y → definition (listed D) n ≡ Some Y
  looked_up n Y e = ⊎_elim (λ none. cc none)
      (λ c. let (Z, f) = stands_found (listed D) n Y c in f ∙ sym (added.has n Z (found_stands (listed D) n Z f)) ∙ e)
      (added.only n Y e)

  looked_back : (n : Name) (Y : Shape) → definition (listed D) n ≡ Some Y → definition table n ≡ Some Y
  looked_back n Y e = added.has n Y (found_stands (listed D) n Y e)

  -- a name that is reached and has no definition
  pub lost_not_defined : (n : Name) → Reaches table n X → definition table n ≡ None → AllDefined (listed D) X → ⊥
  lost_not_defined n r none all = let (Y, e, one) = all n (reached_more table (listed D) looked_up r) in cc (sym none ∙ looked_back n Y e)

  module _ (found : Table) (collected : Collected table X found) where
    listed_to_found : {n : Name} → Reaches (listed D) n X → (Y : Shape) × (definition found n ≡ Some Y)
    listed_to_found r = reached_within table found collected.kept collected.closed (reached_more (listed D) table looked_back r) collected.root

    pub all_defined : AllDefined (listed D) X
    all_defined n r =
        let (Y, e) = listed_to_found r in
        (Y, looked_up n Y (collected.kept n Y e), λ Z c. cc (sym (added.has n Z c) ∙ collected.kept n Y e))

    -- a name that holds itself
    pub held_not_well_formed : (n : Name) (Y : Shape) → definition found n ≡ Some Y → HeldIn found n Y → WellFormed (listed D) X → ⊥
    held_not_well_formed n Y e i well =
        well.finite n Y (reached_more table (listed D) looked_up (collected.reached n Y e)) (looked_up n Y (collected.kept n Y e))
        (held_more table (listed D) looked_up (held_more found table collected.kept i))

    module _ (placed : Table) (arranged : Arranged found placed) where
      placed_kept : (n : Name) (Y : Shape) → definition placed n ≡ Some Y → definition found n ≡ Some Y
      placed_kept n Y e = sym (arranged.same n) ∙ e

      placed_back : (n : Name) (Y : Shape) → definition found n ≡ Some Y → definition placed n ≡ Some Y
      placed_back n Y e = arranged.same n ∙ e

      pub well_formed : WellFormed (listed D) X
      well_formed = record {
        defined = all_defined;
        finite = λ n Y r e i.
            let (Z, f) = listed_to_found r in
            let same : Z ≡ Y = cc (sym (looked_up n Z (collected.kept n Z f)) ∙ e) in
            let here : definition found n ≡ Some Y = f ∙ ap Some same in
            arranged_never found placed arranged n Y (placed_back n Y here)
            (held_more found placed placed_back (held_within table found collected.kept collected.closed (held_more (listed D) table looked_back i) (collected.closed n Y here)));
      }

      -- the definitions in order are the type's
      pub placed_listed : (n : Name) (Y : Shape) → definition placed n ≡ Some Y → definition (listed D) n ≡ Some Y
      placed_listed n Y e = looked_up n Y (collected.kept n Y (placed_kept n Y e))

      -- and all that it reaches are there
      pub placed_reached : (n : Name) (Y : Shape) → Reaches (listed D) n X → definition (listed D) n ≡ Some Y → definition placed n ≡ Some Y
      placed_reached n Y r e =
          let (Z, f) = listed_to_found r in
          let same : Z ≡ Y = cc (sym (looked_up n Z (collected.kept n Z f)) ∙ e) in
          placed_back n Y (f ∙ ap Some same)
