-- Names whose definitions can be laid out in so many rounds: those that a well-formed shape reaches can, in one way.
use Rattle.std.proofs.Common.{◌≡◌, ⊎_elim, ℕ, zero, suc, ◌≤◌, List, [], ◌∷◌, ◌++◌, map, length, Bool, true, false, cond, Some, Contains, bytes_eq, arith, refl, sym, ap, ◌∙◌, length-append}
use Rattle.std.proofs.lemmas.List.Elements.{Contains-push_cases}
use Rattle.std.proofs.lemmas.Slice.Eq.{bytes_eq-Decides}
use Rattle.archive_check.specs.Shape.{Name, Shape, Table, definition}
use Rattle.archive_check.specs.Layout.{Layouts, layout}
use Rattle.archive_check.specs.Defined.{Holds, Mentions, mentions_held, Reaches, reaches, reaches_through, HeldIn, held, held_through, WellFormed, SolvesReached}
use Rattle.archive_check.proofs.Names.Rounds.{layout_or, rounds}
use Rattle.archive_check.proofs.Names.SameLayouts.{layout_same}
use Rattle.archive_check.proofs.Names.NamesComeBack.{DefinitionHolds, LeadsTo, by_descent}
use Rattle.archive_check.proofs.Elements.{contains_cases, contains_first, contains_later}

-- all that the name's definition holds can be laid out in one round less
pub data Placed (table : Table) : ℕ → Name → Type 0 where
  placed : {k : ℕ} {name : Name} {X : Shape} → definition table name ≡ Some X → ((m : Name) → Holds m X → Placed table k m) → Placed table (suc k) name

module _ (table : Table) where
  pub placed_later : {k : ℕ} {name : Name} (j : ℕ) → Placed table k name → k ≤ j → Placed table j name
  placed_later zero (placed e f) few = absurd (omega arith)
  placed_later (suc j) (placed e f) few = placed e (λ m h. placed_later j (f m h) (omega arith))

  -- the definition of a placed name
  record Opened (k : ℕ) (X : Shape) : Type 0 where
    pub less : ℕ
    pub one_less : k ≡ suc less
    pub all : (m : Name) → Holds m X → Placed table less m

  opened : {k : ℕ} {name : Name} {X : Shape} → Placed table k name → definition table name ≡ Some X → Opened k X
  opened {X = X} (placed {k = k} {X = Y} e f) d = let same : Y ≡ X = cc in record { less = k; one_less = refl; all = λ m h. f m (rw same h) }

  held_placed : {name : Name} {X : Shape} (k : ℕ) → HeldIn table name X → ((m : Name) → Holds m X → Placed table k m) → Placed table k name
  held_placed k (held h) f = f _ h
  held_placed k (held_through {n = n} h d r) f = let o = opened (f n h) d in placed_later k (held_placed o.less r o.all) (omega (arith, o.one_less))

  -- a placed name doesn't hold itself
  pub placed_never : (k : ℕ) (name : Name) → Placed table k name → LeadsTo table name name → ⊥
  placed_never zero name p l = let o = opened p l.defined in absurd (omega (arith, o.one_less))
  placed_never (suc k) name p l =
      let o = opened p l.defined in
      let same : o.less ≡ k = omega (arith, o.one_less) in
      placed_never k name (rw same at (held_placed o.less l.held o.all)) l

  -- after as many rounds its layout stays
  pub placed_stays : {k : ℕ} {name : Name} (j : ℕ) → Placed table k name → k ≤ j → rounds table j name ≡ rounds table (suc j) name
  placed_stays zero (placed e f) few = absurd (omega arith)
  placed_stays (suc j) (placed {X = X} e f) few =
      let step : layout (rounds table j) X ≡ layout (rounds table (suc j)) X = layout_same (rounds table j) (rounds table (suc j)) X (λ m h. placed_stays j (f m h) (omega arith)) in
      ap (layout_or (rounds table j)) e ∙ step ∙ sym (ap (layout_or (rounds table (suc j))) e)

  pub placed_solved : (k : ℕ) (name : Name) (X : Shape) → Placed table k name → definition table name ≡ Some X → rounds table k name ≡ layout (rounds table k) X
  placed_solved k name X p d = placed_stays k p (omega arith) ∙ ap (layout_or (rounds table k)) d

  -- what is held by a reached name's definition is reached, and what is mentioned there
  pub reaches_next : {name other : Name} {X Y : Shape} → Reaches table name X → definition table name ≡ Some Y → Mentions other Y → Reaches table other X
  reaches_next (reaches h) e g = reaches_through h e (reaches g)
  reaches_next (reaches_through h d r) e g = reaches_through h d (reaches_next r e g)

-- nothing is in order; and so is what is, with one more name whose definition holds only names that stand there
pub data DefinedInOrder (table : Table) : List Name → Type 0 where
  ordered_none : DefinedInOrder table []
  ordered_next : {names : List Name} (name : Name) {X : Shape}
      → DefinedInOrder table names
      → definition table name ≡ Some X
      → ((m : Name) → Holds m X → Contains names m)
      → DefinedInOrder table (names ++ name ∷ [])

module _ (table : Table) where
  -- a name in order can be laid out in as many rounds as there are names
  pub ordered_placed : {names : List Name} → DefinedInOrder table names → (name : Name) → Contains names name → Placed table (length names) name
  ordered_placed ordered_none q c = absurd (omega (arith, c.1))
  ordered_placed (ordered_next {names = names} name {X = X} o e only) q c =
      let more : length (names ++ name ∷ []) ≡ suc (length names) = omega (arith, length-append names (name ∷ [])) in
      ⊎_elim (λ d. placed_later table (length (names ++ name ∷ [])) (ordered_placed o q d) (omega arith))
      (λ same. rw (more, ← same) (placed e (λ m h. ordered_placed o m (only m h))))
      (Contains-push_cases names name q c)

  -- so it doesn't lead to itself
  pub ordered_never : {names : List Name} → DefinedInOrder table names → (name : Name) → Contains names name → LeadsTo table name name → ⊥
  ordered_never {names = names} o name c = placed_never table (length names) name (ordered_placed o name c)

-- the names of the definitions
pub names_of : Table → List Name
names_of table = map (λ d. d.0) table

pub names_of-push : (table : Table) (d : Name × Shape) → names_of (table ++ d ∷ []) ≡ names_of table ++ d.0 ∷ []
unfolding names_of
names_of-push [] d = refl
names_of-push (e ∷ es) d = ap (λ ns. e.0 ∷ ns) (names_of-push es d)

pub names_of-nil : names_of [] ≡ []
unfolding names_of
names_of-nil = refl

pub defined_named : (table : Table) (name : Name) (X : Shape) → definition table name ≡ Some X → Contains (names_of table) name
unfolding names_of
defined_named [] name X e = cc
defined_named (d ∷ ds) name X e = go (bytes_eq d.0 name) refl e (defined_named ds name X)
  where
    go : (b : Bool) → bytes_eq d.0 name ≡ b → cond b (Some d.1) (definition ds name) ≡ Some X → (definition ds name ≡ Some X → Contains (map (λ d. d.0) ds) name) → Contains (d.0 ∷ map (λ d. d.0) ds) name
    go true is f later = let same : d.0 ≡ name = (bytes_eq-Decides d.0 name).0 is in rw same (contains_first (map (λ d. d.0) ds) name)
    go false is f later = contains_later d.0 (map (λ d. d.0) ds) name (later f)

pub named_defined : (table : Table) (name : Name) → Contains (names_of table) name → (X : Shape) × (definition table name ≡ Some X)
unfolding names_of
named_defined [] name c = absurd (omega (arith, c.1))
named_defined (d ∷ ds) name c = go (bytes_eq d.0 name) refl (named_defined ds name)
  where
    go : (b : Bool) → bytes_eq d.0 name ≡ b → (Contains (map (λ d. d.0) ds) name → (X : Shape) × (definition ds name ≡ Some X)) → (X : Shape) × (cond b (Some d.1) (definition ds name) ≡ Some X)
    go true is later = (d.1, refl)
    go false is later = ⊎_elim (λ same. let is_same = (bytes_eq-Decides d.0 name).1 same in absurd cc) later (contains_cases d.0 (map (λ d. d.0) ds) name c)

module _ (table : Table) (X : Shape) (well : WellFormed table X) where
  holds_reached : (name other : Name) → Reaches table name X → DefinitionHolds table name other → Reaches table other X
  holds_reached name other r h = reaches_next table r h.defined (mentions_held h.holds)

  pub reached_placed : (name : Name) → Reaches table name X → Placed table (length (names_of table)) name
  reached_placed =
      by_descent table (λ n. Reaches table n X) (λ k n. Placed table k n)
      (λ k n r l. absurd (well.finite n l.shape r l.defined l.held))
      (λ k n r on. let (Y, e, one) = well.defined n r in
      placed e (λ m h. let d : DefinitionHolds table n m = record { shape = Y; defined = e; holds = h } in on m (holds_reached n m r d) d))
      (names_of table) (λ q r. let (Y, e, one) = well.defined q r in defined_named table q Y e)

  pub rounds_solve_reached : SolvesReached table X (rounds table (length (names_of table)))
  rounds_solve_reached name Y r e = placed_solved table (length (names_of table)) name Y (reached_placed name r) e

  module _ (f g : Layouts) (left : SolvesReached table X f) (right : SolvesReached table X g) where
    placed_one : {k : ℕ} {name : Name} → Placed table k name → Reaches table name X → f name ≡ g name
    placed_one {name = name} (placed {X = Y} e p) r =
        left name Y r e
        ∙ layout_same f g Y (λ m h. placed_one (p m h) (reaches_next table r e (mentions_held h)))
        ∙ sym (right name Y r e)

    pub reached_one_layout : (name : Name) → Reaches table name X → f name ≡ g name
    reached_one_layout name r = placed_one (reached_placed name r) r

    pub shape_one_layout : layout f X ≡ layout g X
    shape_one_layout = layout_same f g X (λ m h. reached_one_layout m (reaches (mentions_held h)))
