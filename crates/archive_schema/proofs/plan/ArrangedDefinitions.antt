-- Definitions are put in order one by one.
use Rattle.std.proofs.Common.{◌≡◌, ◌⊎◌, inl, inr, ⊎_elim, ℕ, zero, suc, ◌+◌, ◌<◌, ◌≤◌, List, [], ◌∷◌, ◌++◌, length, take, get_or, refl, sym, ap, ◌∙◌, subst, arith, length-append, true, false, Option, Some, None, option_map, is_some, Bor, Contains}
use Rattle.std.specs.List.{remove}
use Rattle.std.proofs.lemmas.List.{take-append-le}
use Rattle.std.proofs.Math.Seq.{take-append_seam, get_or-append_seam}
use Rattle.std.proofs.Math.ListN.{get_or-append}
use Rattle.std.proofs.lemmas.List.Elements.{Contains-push_cases}
use Rattle.archive_check.specs.declared.format.defs.Def.{Def}
use Rattle.archive_check.specs.Shape.{Name, Shape, Table, definition}
use Rattle.archive_check.specs.Expressions.{shape_of, entries_of}
use Rattle.archive_check.specs.Defined.{HeldIn}
use Rattle.archive_check.specs.MissingNames.{missing}
use Rattle.archive_schema.specs.plan.Names.{NotReady, NextReady, Complete}
use Rattle.archive_check.proofs.Names.Named.{append_known, append_unknown, definition_here, definition_other, names_decided, entries_of-append, push_some}
use Rattle.archive_schema.proofs.plan.Named.{definition-remove, push_none, contains-remove, contains-at, one_at}
use Rattle.archive_check.proofs.Names.MissingNames.{missed_held, held_defined}
use Rattle.archive_check.proofs.Names.NamesComeBack.{DefinitionHolds, some_comes_back}
use Rattle.archive_check.proofs.Names.LaidOutNames.{names_of, defined_named, named_defined}

below_or_last : (k n : ℕ) → k < n + 1 → (k < n) ⊎ (k ≡ n)
below_or_last zero zero h = inr refl
below_or_last zero (suc n) h = inl (omega arith)
below_or_last (suc k) zero h = absurd (omega arith)
below_or_last (suc k) (suc n) h = ⊎_elim (λ l. inl (omega (arith, l))) (λ e. inr (ap suc e)) (below_or_last k n (omega arith))

some_names : (ds : List Def) → 1 ≤ length ds → 1 ≤ length (names_of (entries_of ds))
some_names [] h = absurd (omega arith)
some_names (d ∷ ds) h =
    let there = defined_named (entries_of (d ∷ ds)) d.name.now (shape_of d.expr) (definition_here d.name.now d.name.now (shape_of d.expr) (entries_of ds) refl) in
    omega (arith, there.1)

-- where a name's definition stands
record Occurs (ds : List Def) (n : Name) (Y : Shape) : Type 0 where
  pub index : ℕ
  pub def : Def
  pub within : index < length ds
  pub is : def ≡ get_or ds index def
  pub same_name : def.name.now ≡ n
  pub same_shape : shape_of def.expr ≡ Y

stands : (ds : List Def) (n : Name) (Y : Shape) → definition (entries_of ds) n ≡ Some Y → Occurs ds n Y
stands [] n Y e = cc
stands (d ∷ ds) n Y e = ⊎_elim
    (λ s. record { index = 0; def = d; within = omega arith; is = refl; same_name = s; same_shape = cc (sym (definition_here d.name.now n (shape_of d.expr) (entries_of ds) s) ∙ e) })
    (λ o. let p = stands ds n Y (sym (definition_other d.name.now n (shape_of d.expr) (entries_of ds) o) ∙ e) in record { index = suc p.index; def = p.def; within = omega (arith, p.within); is = p.is; same_name = p.same_name; same_shape = p.same_shape })
    (names_decided d.name.now n)

missed_there : (r : Option (Bor Name)) (o : Option Name) → option_map (λ name. name.now) r ≡ o → is_some r ≡ true → (name : Name) × (o ≡ Some name)
missed_there None o e h = cc
missed_there (Some b) o e h = (b.now, sym e)

-- one more that isn't ready
pub not_ready : (table : Table) (rest : List Def) (i : ℕ) (x : Def) (r : Option (Bor Name)) → i < length rest → x ≡ get_or rest i x → option_map (λ name. name.now) r ≡ missing false table (shape_of x.expr) → is_some r ≡ true
    → NotReady table rest i
    → NotReady table rest (i + 1)
not_ready table rest i x r within is missed some before k d h e = ⊎_elim
    (λ below. before k d below e)
    (λ here.
    let same : d ≡ x = one_at rest i d x within (e ∙ ap (λ j. get_or rest j d) here) is in
    let (name, f) = missed_there r (missing false table (shape_of x.expr)) missed some in
    (name, ap (λ (y : Def). missing false table (shape_of y.expr)) same ∙ f))
    (below_or_last k i h)

-- definitions are moved from `rest` to `placed`
pub record Arranging (old : Table) (placed rest : List Def) : Type 0 where
  pub left : (n : Name) → definition (entries_of placed) n ≡ None → definition (entries_of rest) n ≡ definition old n
  pub kept : (n : Name) (Y : Shape) → definition (entries_of placed) n ≡ Some Y → definition old n ≡ Some Y
  pub once : (n : Name) (Y : Shape) → Contains (entries_of placed) (n, Y) → definition (entries_of placed) n ≡ Some Y
  pub from : (n : Name) (Y : Shape) → Contains (entries_of rest) (n, Y) → definition old n ≡ Some Y
  pub earlier : (k : ℕ) (n : Name) (Y : Shape) → k < length (entries_of placed) → (n, Y) ≡ get_or (entries_of placed) k (n, Y) → missing false (take k (entries_of placed)) Y ≡ None

module _ (old : Table) (placed rest : List Def) (g : Arranging old placed rest) where
  module _ (i : ℕ) (d : Def) (here : i < length rest) (is : d ≡ get_or rest i d) (ready : missing false (entries_of placed) (shape_of d.expr) ≡ None) where
    abbrev a : Name
    a = d.name.now

    abbrev X : Shape
    X = shape_of d.expr

    abbrev now : Table
    now = entries_of placed ++ (a, X) ∷ []

    old_here : definition old a ≡ Some X
    old_here = g.from a X (contains-at rest i d here is)

    pushed_left : (n : Name) → definition now n ≡ None → definition (entries_of (remove rest i)) n ≡ definition old n
    pushed_left n none =
        let p = push_none (entries_of placed) a X n none in
        definition-remove rest i d here is n (λ e. p.1 (sym e)) ∙ g.left n p.0

    pushed_kept : (n : Name) (Y : Shape) → definition now n ≡ Some Y → definition old n ≡ Some Y
    pushed_kept n Y e = ⊎_elim (g.kept n Y) (λ p. ap (definition old) (sym p.0) ∙ old_here ∙ ap Some p.1) (push_some (entries_of placed) a X n Y e)

    placed_or_new : (o : Option Shape) → definition (entries_of placed) a ≡ o → definition now a ≡ Some X
    placed_or_new None is = append_unknown (entries_of placed) ((a, X) ∷ []) a is ∙ definition_here a a X [] refl
    placed_or_new (Some Z) is = append_known (entries_of placed) ((a, X) ∷ []) a Z is ∙ sym (g.kept a Z is) ∙ old_here

    pushed_once : (n : Name) (Y : Shape) → Contains now (n, Y) → definition now n ≡ Some Y
    pushed_once n Y c = ⊎_elim
        (λ before. append_known (entries_of placed) ((a, X) ∷ []) n Y (g.once n Y before))
        (λ same. subst (λ (p : Name × Shape). definition now p.0 ≡ Some p.1) same (placed_or_new (definition (entries_of placed) a) refl))
        (Contains-push_cases (entries_of placed) (a, X) (n, Y) c)

    pushed_earlier : (k : ℕ) (n : Name) (Y : Shape) → k < length now → (n, Y) ≡ get_or now k (n, Y) → missing false (take k now) Y ≡ None
    pushed_earlier k n Y l e = ⊎_elim
        (λ below. ap (λ t. missing false t Y) (take-append-le k (entries_of placed) ((a, X) ∷ []) (omega (arith, below))) ∙ g.earlier k n Y below (e ∙ get_or-append (entries_of placed) ((a, X) ∷ []) (n, Y) k below))
        (λ last. ap (λ t. missing false t Y) (ap (λ j. take j now) last ∙ take-append_seam (entries_of placed) ((a, X) ∷ []))
        ∙ ap (missing false (entries_of placed)) (ap (λ (p : Name × Shape). p.1) (e ∙ ap (λ j. get_or now j (n, Y)) last ∙ get_or-append_seam (entries_of placed) (a, X) [] (n, Y))) ∙ ready)
        (below_or_last k (length (entries_of placed)) (omega (arith, l, length-append (entries_of placed) ((a, X) ∷ []))))

    pub arrange_next : Arranging old (placed ++ d ∷ []) (remove rest i)
    arrange_next = record {
      left = λ n e. pushed_left n (subst (λ es. definition es n ≡ None) (entries_of-append placed (d ∷ [])) e);
      kept = λ n Y e. pushed_kept n Y (subst (λ es. definition es n ≡ Some Y) (entries_of-append placed (d ∷ [])) e);
      once = λ n Y c. subst (λ es. definition es n ≡ Some Y) (sym (entries_of-append placed (d ∷ []))) (pushed_once n Y (subst (λ es. Contains es (n, Y)) (entries_of-append placed (d ∷ [])) c));
      from = λ n Y c. g.from n Y (contains-remove rest i (n, Y) c);
      earlier = subst (λ es. (k : ℕ) (n : Name) (Y : Shape) → k < length es → (n, Y) ≡ get_or es k (n, Y) → missing false (take k es) Y ≡ None) (sym (entries_of-append placed (d ∷ []))) pushed_earlier;
    }

  -- where none is ready a name holds itself
  module _ (complete : Complete old) (some : 1 ≤ length rest) (stuck : NextReady (entries_of placed) rest None) where
    -- a name that is left holds one that is left
    abbrev left_names : List Name
    left_names = names_of (entries_of rest)

    holds_other : (n : Name) (Y : Shape) → Occurs rest n Y → (m : Name) × Contains left_names m × DefinitionHolds old n m
    holds_other n Y p =
        let known : definition old n ≡ Some Y = g.from n Y (subst (λ (q : Name × Shape). Contains (entries_of rest) q) (cc (p.same_name, p.same_shape)) (contains-at rest p.index p.def p.within p.is)) in
        let (m, missed) = stuck p.index p.def p.within p.is in
        let h = missed_held (entries_of placed) Y m (ap (missing false (entries_of placed)) (sym p.same_shape) ∙ missed) in
        let (Z, e) = held_defined old false m h.0 (complete.closed n Y known) in
        (m, defined_named (entries_of rest) m Z (g.left m h.1 ∙ e), record { shape = Y; defined = known; holds = h.0 })

    holds_left : (n : Name) → Contains left_names n → (m : Name) × Contains left_names m × DefinitionHolds old n m
    holds_left n c = let (Y, e) = named_defined (entries_of rest) n c in holds_other n Y (stands rest n Y e)

    pub holds_itself : (n : Name) × (Y : Shape) × (definition old n ≡ Some Y) × HeldIn old n Y
    holds_itself =
        let (q, c, l) = some_comes_back old left_names (some_names rest some) holds_left in
        (q, l.shape, l.defined, l.held)

module _ (old : Table) (placed rest : List Def) (g : Arranging old placed rest) (ps rs : List Def) (same_placed : ps ≡ placed) (same_rest : rs ≡ rest) where
  pub arrange_ready : (i : ℕ) (d : Def) (after less : List Def) → NextReady (entries_of ps) rs (Some i) → d ≡ get_or rest i d → after ≡ placed ++ d ∷ [] → less ≡ remove rest i → Arranging old after less
  arrange_ready i d after less next is e f =
      let ready = subst (λ xs. NextReady (entries_of xs) rest (Some i)) same_placed (subst (λ xs. NextReady (entries_of ps) xs (Some i)) same_rest next) in
      subst (λ xs. Arranging old xs less) (sym e) (subst (λ xs. Arranging old (placed ++ d ∷ []) xs) (sym f) (arrange_next old placed rest g i d ready.0 is (ready.1 d is)))

  pub arrange_stuck : Complete old → 1 ≤ length rest → NextReady (entries_of ps) rs None → (n : Name) × (Y : Shape) × (definition old n ≡ Some Y) × HeldIn old n Y
  arrange_stuck complete some next =
      holds_itself old placed rest g complete some (subst (λ xs. NextReady (entries_of xs) rest None) same_placed (subst (λ xs. NextReady (entries_of ps) xs None) same_rest next))
