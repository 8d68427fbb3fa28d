-- The nodes of names, counted before the definitions are compiled.
use Rattle.std.proofs.Common.{◌≡◌, inl, inr, ⊎_elim, ℕ, zero, suc, refl, sym, ap, ◌∙◌, subst, ◌+◌, ◌<◌, ◌≤◌, arith, List, [], ◌∷◌, ◌++◌, length, take, drop, is_some, IsSome, Bool, true, false, cond, bytes_eq, Option, Some, None, length-append}
use Rattle.archive_check.specs.declared.format.defs.Def.{Def}
use Rattle.archive_schema.specs.declared.plan.growing.NamedNode.{NamedNode}
use Rattle.archive_check.specs.Shape.{Name, Shape, definition}
use Rattle.archive_check.specs.Expressions.{shape_of, entries_of}
use Rattle.archive_check.specs.Words.Elements.{IsAt}
use Rattle.archive_schema.specs.plan.PlanGrowth.{node_of}
use Rattle.archive_schema.specs.plan.NodeCounts.{count_of}
use Rattle.archive_schema.specs.plan.NodeNumbers.{def_shapes, start_of, FirstAt, IsDefinitionNode, IsExpressionNode, IsNumbered}
use Rattle.archive_schema.specs.plan.Compilable.{Can}
use Rattle.archive_schema.specs.plan.Planned.{DefsInOrder, InOrder, CanChain}
use Rattle.std.proofs.lemmas.List.{take-append-drop, length-take, length-take-le}
use Rattle.archive_schema.proofs.plan.GrowingPlans.{at_more, at_less}
use Rattle.archive_check.proofs.Elements.{at_last, at_taken, same_at, some_at}

at_tail : {A : Type 0} {x y : A} {xs : List A} {i : ℕ} → IsAt (y ∷ xs) (suc i) x → IsAt xs i x
at_tail h = record { below = omega (arith, h.below); is = h.is }

at_cons : {A : Type 0} {x : A} {xs : List A} {i : ℕ} (y : A) → IsAt xs i x → IsAt (y ∷ xs) (suc i) x
at_cons y h = record { below = omega (arith, h.below); is = h.is }

pub def_at : (ds : List Def) (i : ℕ) {d : Def} → IsAt ds i d → IsAt (def_shapes ds) i (shape_of d.expr)
def_at [] i h = absurd (omega (arith, h.below))
def_at (x ∷ ds) zero h = record { below = omega arith; is = ap (λ (y : Def). shape_of y.expr) h.is }
def_at (x ∷ ds) (suc i) h = at_cons (shape_of x.expr) (def_at ds i (at_tail h))

pub def_count : (ds : List Def) → length (def_shapes ds) ≡ length ds
def_count [] = refl
def_count (d ∷ ds) = ap suc (def_count ds)

pub def_shapes-append : (xs ys : List Def) → def_shapes (xs ++ ys) ≡ def_shapes xs ++ def_shapes ys
def_shapes-append [] ys = refl
def_shapes-append (x ∷ xs) ys = ap (λ l. shape_of x.expr ∷ l) (def_shapes-append xs ys)

-- where the next nodes begin
pub start_next : (Xs : List Shape) (i : ℕ) (X : Shape) → IsAt Xs i X → start_of Xs (i + 1) ≡ start_of Xs i + count_of X
start_next [] i X h = absurd (omega (arith, h.below))
start_next (Y ∷ Xs) zero X h = let e : X ≡ Y = h.is in let one : start_of (Y ∷ Xs) (suc zero) ≡ count_of Y + 0 = refl in omega (arith, one, ap count_of e)
start_next (Y ∷ Xs) (suc i) X h = let n : suc i + 1 ≡ suc (i + 1) = omega arith in omega (arith, start_next Xs i X (at_tail h), ap (start_of (Y ∷ Xs)) n)

pub start_later : (Xs : List Shape) (i k : ℕ) → i ≤ k → start_of Xs i ≤ start_of Xs k
start_later Xs zero k h = omega arith
start_later [] (suc i) zero h = omega arith
start_later [] (suc i) (suc k) h = omega arith
start_later (X ∷ Xs) (suc i) zero h = absurd (omega arith)
start_later (X ∷ Xs) (suc i) (suc k) h = omega (arith, start_later Xs i k (omega arith))

-- more shapes behind change nothing before
pub start_prefix : (Xs Ys : List Shape) (i : ℕ) → i ≤ length Xs → start_of (Xs ++ Ys) i ≡ start_of Xs i
start_prefix Xs Ys zero h = refl
start_prefix [] Ys (suc i) h = absurd (omega arith)
start_prefix (X ∷ Xs) Ys (suc i) h = ap (λ n. count_of X + n) (start_prefix Xs Ys i (omega arith))

pub start_behind : (Xs Ys : List Shape) (k : ℕ) → start_of (Xs ++ Ys) (length Xs + k) ≡ start_of Xs (length Xs) + start_of Ys k
start_behind [] Ys k = let e : 0 + k ≡ k = omega arith in omega (arith, ap (start_of Ys) e)
start_behind (X ∷ Xs) Ys k = let e : suc (length Xs) + k ≡ suc (length Xs + k) = omega arith in omega (arith, ap (start_of (X ∷ (Xs ++ Ys))) e, start_behind Xs Ys k)

-- what is looked for is found at its first entry
first_here : (k : NamedNode) (ks : List NamedNode) (name : Name) (j : ℕ) → bytes_eq k.name.now name ≡ true → Some k.node ≡ Some j → FirstAt (k ∷ ks) name 0 j
first_here k ks name j e f = record { known = k; at = record { below = omega arith; is = refl }; node_is = cc; same = e; others = λ p x h a. absurd (omega arith) }

first_there : (k : NamedNode) (ks : List NamedNode) (name : Name) (q j : ℕ) → bytes_eq k.name.now name ≡ false → FirstAt ks name q j → FirstAt (k ∷ ks) name (suc q) j
first_there k ks name q j e f = record { known = f.known; at = at_cons k f.at; node_is = f.node_is; same = f.same; others = others }
  where
    others : (p : ℕ) (x : NamedNode) → p < suc q → IsAt (k ∷ ks) p x → bytes_eq x.name.now name ≡ false
    others zero x h a = ap (λ (y : NamedNode). bytes_eq y.name.now name) a.is ∙ e
    others (suc p) x h a = f.others p x (omega arith) (at_tail a)

pub first_at : (names : List NamedNode) (name : Name) (j : ℕ) → node_of names name ≡ Some j → (q : ℕ) × FirstAt names name q j
first_at [] name j e = absurd (cc e)
first_at (k ∷ ks) name j e = by (λ f. first_at ks name j f) (bytes_eq k.name.now name) refl
  where
    by : (node_of ks name ≡ Some j → (q : ℕ) × FirstAt ks name q j) → (b : Bool) → bytes_eq k.name.now name ≡ b → (q : ℕ) × FirstAt (k ∷ ks) name q j
    by later true h = let f : Some k.node ≡ Some j = sym (ap (λ b. cond b (Some k.node) (node_of ks name)) h) ∙ e in (0, first_here k ks name j h f)
    by later false h = let f : node_of ks name ≡ Some j = sym (ap (λ b. cond b (Some k.node) (node_of ks name)) h) ∙ e in let r = later f in (suc r.0, first_there k ks name r.0 j h r.1)

pub node_of_first : (names : List NamedNode) (name : Name) (q j : ℕ) → FirstAt names name q j → node_of names name ≡ Some j
node_of_first [] name q j f = absurd (omega (arith, f.at.below))
node_of_first (k ∷ ks) name zero j f =
    let same : f.known ≡ k = f.at.is in
    let here : bytes_eq k.name.now name ≡ true = sym (ap (λ (y : NamedNode). bytes_eq y.name.now name) same) ∙ f.same in
    ap (λ b. cond b (Some k.node) (node_of ks name)) here ∙ ap Some (sym (ap (λ (y : NamedNode). y.node) same) ∙ f.node_is)
node_of_first (k ∷ ks) name (suc q) j f =
    let there : bytes_eq k.name.now name ≡ false = f.others 0 k (omega arith) (record { below = omega arith; is = refl }) in
    ap (λ b. cond b (Some k.node) (node_of ks name)) there
    ∙ node_of_first ks name q j (record { known = f.known; at = at_tail f.at; node_is = f.node_is; same = f.same; others = λ p x h a. f.others (suc p) x (omega arith) (at_cons k a) })

pub first_more : {names : List NamedNode} (more : List NamedNode) {name : Name} {q j : ℕ} → FirstAt names name q j → FirstAt (names ++ more) name q j
first_more {names} more f = record {
  known = f.known;
  at = at_more (record { more = more; is = refl }) f.at;
  node_is = f.node_is;
  same = f.same;
  others = λ p k h a. f.others p k h (at_less (record { more = more; is = refl }) (omega (arith, f.at.below)) a);
}

-- the definition of a name is that of its first entry
pub definition_is : (ds : List Def) (names : List NamedNode) → ((i : ℕ) (d : Def) (k : NamedNode) → IsAt ds i d → IsAt names i k → k.name.now ≡ d.name.now)
    → (name : Name) (q j : ℕ) (d : Def) → FirstAt names name q j → IsAt ds q d → definition (entries_of ds) name ≡ Some (shape_of d.expr)
definition_is [] names same name q j d f a = absurd (omega (arith, a.below))
definition_is (x ∷ ds) [] same name q j d f a = absurd (omega (arith, f.at.below))
definition_is (x ∷ ds) (k ∷ ks) same name zero j d f a =
    let here : bytes_eq x.name.now name ≡ true = sym (ap (λ n. bytes_eq n name) (same 0 x f.known (record { below = omega arith; is = refl }) f.at)) ∙ f.same in
    ap (λ b. cond b (Some (shape_of x.expr)) (definition (entries_of ds) name)) here ∙ ap (λ (y : Def). Some (shape_of y.expr)) (sym a.is)
definition_is (x ∷ ds) (k ∷ ks) same name (suc q) j d f a =
    let other : bytes_eq k.name.now name ≡ false = f.others 0 k (omega arith) (record { below = omega arith; is = refl }) in
    let there : bytes_eq x.name.now name ≡ false = sym (ap (λ n. bytes_eq n name) (same 0 x k (record { below = omega arith; is = refl }) (record { below = omega arith; is = refl }))) ∙ other in
    ap (λ b. cond b (Some (shape_of x.expr)) (definition (entries_of ds) name)) there
    ∙ definition_is ds ks (λ i y l h g. same (suc i) y l (at_cons x h) (at_cons k g)) name q j d
    (record { known = f.known; at = at_tail f.at; node_is = f.node_is; same = f.same; others = λ p y h g. f.others (suc p) y (omega arith) (at_cons k g) }) (at_tail a)

-- one definition more
root_more : {names : List NamedNode} (more : List NamedNode) (i start : ℕ) (X : Shape) (j : ℕ) → IsDefinitionNode names i start X j → IsDefinitionNode (names ++ more) i start X j
root_more more i start X j (inl h) = inl (h.0, h.1, (h.2.0, h.2.1, first_more more h.2.2))
root_more more i start X j (inr h) = inr h

found_root : (names : List NamedNode) (i start : ℕ) (X : Shape) (j : ℕ) → length names ≡ i → IsExpressionNode names start X j → IsDefinitionNode names i start X j
found_root names i start X j e (inl h) = let f = first_at names h.0 j h.2 in inl (h.0, h.1, (f.0, omega (arith, e, f.1.at.below), f.1))
found_root names i start X j e (inr h) = inr h

pub numbered_next : {defs : List Def} {names new : List NamedNode} {i start : ℕ} {d : Def} (k : NamedNode) → IsNumbered defs names i → start ≡ start_of (def_shapes defs) i → IsAt defs i d → k.name.now ≡ d.name.now
    → IsExpressionNode names start (shape_of d.expr) k.node → new ≡ names ++ k ∷ [] → IsNumbered defs new (i + 1)
numbered_next {defs} {names} {new} {i} {start} {d} k r es at en root e =
    subst (λ ks. IsNumbered defs ks (i + 1)) (sym e) (record {
      count = omega (arith, length-append names (k ∷ []), r.count);
      name_is = λ p x y h g. ⊎_elim
          (λ lt. r.name_is p x y h (at_less (record { more = k ∷ []; is = refl }) lt g))
          (λ q. let here : p ≡ i = q.0 ∙ r.count in
          let same : x ≡ d = same_at (subst (λ n. IsAt defs n x) here h) at in
          ap (λ (z : NamedNode). z.name.now) q.1 ∙ en ∙ ap (λ (z : Def). z.name.now) (sym same))
          (at_last names k y p g);
      root_is = λ p x y h g. ⊎_elim
          (λ lt. root_more (k ∷ []) p (start_of (def_shapes defs) p) (shape_of x.expr) y.node (r.root_is p x y h (at_less (record { more = k ∷ []; is = refl }) lt g)))
          (λ q. let here : p ≡ i = q.0 ∙ r.count in
          let same : x ≡ d = same_at (subst (λ n. IsAt defs n x) here h) at in
          let old : IsDefinitionNode names i start (shape_of d.expr) k.node = found_root names i start (shape_of d.expr) k.node r.count root in
          let here_root : IsDefinitionNode names p (start_of (def_shapes defs) p) (shape_of d.expr) k.node =
          subst (λ n. IsDefinitionNode names n (start_of (def_shapes defs) n) (shape_of d.expr) k.node) (sym here) (subst (λ n. IsDefinitionNode names i n (shape_of d.expr) k.node) es old) in
          root_more (k ∷ []) p (start_of (def_shapes defs) p) (shape_of x.expr) y.node
          (subst (λ (z : Def). IsDefinitionNode names p (start_of (def_shapes defs) p) (shape_of z.expr) y.node) (sym same) (subst (λ (z : NamedNode). IsDefinitionNode names p (start_of (def_shapes defs) p) (shape_of d.expr) z.node) (sym q.1) here_root)))
          (at_last names k y p g);
    })

-- a name that is defined by the first definitions has an entry among the first names
pub named_found : (ds : List Def) (ks : List NamedNode) (name : Name) → ((p : ℕ) (d : Def) (k : NamedNode) → IsAt ds p d → IsAt ks p k → k.name.now ≡ d.name.now) → length ds ≤ length ks
    → IsSome (definition (entries_of ds) name) → IsSome (node_of ks name)
named_found [] ks name same le h = let f : false ≡ true = h in absurd (cc f)
named_found (d ∷ ds) [] name same le h = absurd (omega (arith, le))
named_found (d ∷ ds) (k ∷ ks) name same le h =
    by (named_found ds ks name (λ p x l at kt. same (suc p) x l (at_cons d at) (at_cons k kt)) (omega arith)) (bytes_eq d.name.now name) refl
  where
    same_test : bytes_eq k.name.now name ≡ bytes_eq d.name.now name
    same_test = ap (λ n. bytes_eq n name) (same 0 d k (record { below = omega arith; is = refl }) (record { below = omega arith; is = refl }))

    by : (IsSome (definition (entries_of ds) name) → IsSome (node_of ks name)) → (b : Bool) → bytes_eq d.name.now name ≡ b → IsSome (node_of (k ∷ ks) name)
    by rest true e = ap is_some (ap (λ b. cond b (Some k.node) (node_of ks name)) (same_test ∙ e))
    by rest false e =
        let there : IsSome (definition (entries_of ds) name) = sym (ap is_some (ap (λ b. cond b (Some (shape_of d.expr)) (definition (entries_of ds) name)) e)) ∙ h in
        ap is_some (ap (λ b. cond b (Some k.node) (node_of ks name)) (same_test ∙ e)) ∙ rest there

-- what the first i definitions define is found as soon as there are i names
pub prefix_found : {defs : List Def} {names : List NamedNode} (i : ℕ) (name : Name) → IsNumbered defs names i → IsSome (definition (entries_of (take i defs)) name) → IsSome (node_of names name)
prefix_found {defs} {names} i name num h =
    named_found (take i defs) names name (λ p d k at kt. num.name_is p d k (at_taken i defs p d at).1 kt) (omega (arith, length-take i defs, num.count)) h

some_of : (o : Option ℕ) → IsSome o → (j : ℕ) × (o ≡ Some j)
some_of None h = let f : false ≡ true = h in absurd (cc f)
some_of (Some j) h = (j, refl)

module _ {names : List NamedNode} {defs : List Def} (num : IsNumbered defs names (length defs)) where
  -- no name's node comes after its definition's
  pub first_below : (r : ℕ) (name : Name) (q j : ℕ) → q < r → FirstAt names name q j → j < start_of (def_shapes defs) (q + 1)
  first_below zero name q j lt f = absurd (omega (arith, lt))
  first_below (suc r) name q j lt f =
      let d = some_at defs q (omega (arith, f.at.below, num.count)) in ⊎_elim
      (λ h.
      let before = first_below r h.0 h.2.0 f.known.node (omega (arith, lt, h.2.1)) h.2.2 in
      omega (arith, before, start_later (def_shapes defs) (h.2.0 + 1) (q + 1) (omega (arith, h.2.1)), f.node_is))
      (λ h. omega (arith, h.0, start_next (def_shapes defs) q (shape_of d.0.expr) (def_at defs q d.1), f.node_is))
      (num.root_is q d.0 f.known d.1 f.at)

  -- and the node of one that is defined before i, before the nodes of i
  pub placed_before : (i : ℕ) (name : Name) (j : ℕ) → i ≤ length defs → IsSome (definition (entries_of (take i defs)) name) → node_of names name ≡ Some j → j < start_of (def_shapes defs) i
  placed_before i name j le h e =
      let size = length-take-le i names (omega (arith, num.count, le)) in
      let found : IsSome (node_of (take i names) name) =
      named_found (take i defs) (take i names) name (λ p d k at kt. num.name_is p d k (at_taken i defs p d at).1 (at_taken i names p k kt).1) (omega (arith, length-take i defs, size)) h in
      let there = some_of (node_of (take i names) name) found in
      let f = first_at (take i names) name there.0 there.1 in
      let whole : FirstAt names name f.0 there.0 = subst (λ ks. FirstAt ks name f.0 there.0) (take-append-drop i names) (first_more (drop i names) f.1) in
      let same : Some there.0 ≡ Some j = sym (node_of_first names name f.0 there.0 whole) ∙ e in
      let same_node : there.0 ≡ j = cc in
      omega (arith, same_node, first_below (suc f.0) name f.0 there.0 (omega arith) whole, start_later (def_shapes defs) (f.0 + 1) i (omega (arith, f.1.at.below, size)))

  pub all_before : (name : Name) (j : ℕ) → node_of names name ≡ Some j → j < start_of (def_shapes defs) (length defs)
  all_before name j e =
      let f = first_at names name j e in
      omega (arith, first_below (suc f.0) name f.0 j (omega arith) f.1, start_later (def_shapes defs) (f.0 + 1) (length defs) (omega (arith, f.1.at.below, num.count)))

  -- so where the definitions are in order, each can be compiled in its turn
  pub can_defs : DefsInOrder defs → (i : ℕ) (d : Def) → IsAt defs i d → Can names (start_of (def_shapes defs) i) (shape_of d.expr)
  can_defs o i d at = record {
    known = λ name m. named_found defs names name num.name_is (omega (arith, num.count)) (o.defined i d at name m);
    placed = λ name j h e. placed_before i name j (omega (arith, at.below)) (o.earlier i d at name h) e;
  }

  pub can_chain : DefsInOrder defs → CanChain names (def_shapes defs)
  can_chain o i X at =
      let d = some_at defs i (omega (arith, at.below, def_count defs)) in
      subst (λ Y. Can names (start_of (def_shapes defs) i) Y) (same_at (def_at defs i d.1) at) (can_defs o i d.0 d.1)

  pub can_root : {X : Shape} → InOrder defs X → Can names (start_of (def_shapes defs) (length defs)) X
  can_root o = record {
    known = λ name m. named_found defs names name num.name_is (omega (arith, num.count)) (o.root name m);
    placed = λ name j h e. all_before name j e;
  }

-- the names are those that are defined
pub numbered_known : (ds : List Def) (names : List NamedNode) → length names ≡ length ds → ((i : ℕ) (d : Def) (k : NamedNode) → IsAt ds i d → IsAt names i k → k.name.now ≡ d.name.now)
    → (name : Name) → is_some (node_of names name) ≡ is_some (definition (entries_of ds) name)
numbered_known [] [] e same name = refl
numbered_known [] (k ∷ ks) e same name = absurd (omega (arith, e))
numbered_known (d ∷ ds) [] e same name = absurd (omega (arith, e))
numbered_known (d ∷ ds) (k ∷ ks) e same name =
    let here = same 0 d k (record { below = omega arith; is = refl }) (record { below = omega arith; is = refl }) in
    let rest = numbered_known ds ks (omega (arith, e)) (λ i y l h g. same (suc i) y l (at_cons d h) (at_cons k g)) name in
    ap (λ n. is_some (cond (bytes_eq n name) (Some k.node) (node_of ks name))) here ∙ either (bytes_eq d.name.now name) rest
  where
    either : (b : Bool) → is_some (node_of ks name) ≡ is_some (definition (entries_of ds) name)
        → is_some (cond b (Some k.node) (node_of ks name)) ≡ is_some (cond b (Some (shape_of d.expr)) (definition (entries_of ds) name))
    either true r = refl
    either false r = r
