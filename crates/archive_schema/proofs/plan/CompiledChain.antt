-- Expressions that are compiled one after another.
use Rattle.std.proofs.Common.{◌≡◌, inl, inr, ⊎_elim, ℕ, zero, suc, refl, sym, ap, ap₂, ◌∙◌, subst, ◌+◌, ◌-◌, ◌<◌, ◌≤◌, arith, List, [], ◌∷◌, ◌++◌, length, take, drop, Some, length-append, append_assoc}
use Rattle.archive_check.specs.declared.format.defs.Def.{Def}
use Rattle.archive_schema.specs.declared.plan.growing.NamedNode.{NamedNode}
use Rattle.archive_schema.specs.declared.plan.queue.Waiting.{Waiting}
use Rattle.archive_check.specs.Shape.{Shape, named}
use Rattle.archive_check.specs.Expressions.{shape_of}
use Rattle.archive_check.specs.Measure.{measure_of}
use Rattle.archive_schema.specs.plan.NodeCounts.{count_of}
use Rattle.archive_check.specs.Words.Elements.{IsAt}
use Rattle.archive_schema.specs.plan.PlanGrowth.{node_of, PlanLists, no_lists, IsPrefix}
use Rattle.archive_schema.specs.plan.CompileQueue.{Wait, Waits, no_waits, waits_in, wait_shapes, measure_of_waits}
use Rattle.archive_schema.specs.plan.Compilable.{Can}
use Rattle.std.proofs.lemmas.List.{take-append-drop, length-take-le}
use Rattle.archive_schema.specs.plan.Compiled.{Compiled}
use Rattle.archive_schema.specs.plan.NodeNumbers.{def_shapes, start_of, IsDefinitionNode}
use Rattle.archive_schema.specs.plan.Planned.{CompiledFrom, Chained, CanFinish, Finishes, FinishesTo}
use Rattle.archive_schema.proofs.plan.GrowingPlans.{at_less, at_more, prefix_longer, grows_refl, grows_trans}
use Rattle.archive_check.proofs.Elements.{at_last, at_end}
use Rattle.archive_schema.proofs.plan.AddedNodes.{given_first, given_second, adds_refl, adds_trans}
use Rattle.archive_schema.proofs.plan.NodeNumbers.{def_count, def_shapes-append, start_next, start_prefix, node_of_first}
use Rattle.archive_schema.proofs.plan.WaitingExpressions.{wait_shapes-append, measure_of_waits-append}

-- nothing yet
pub chained_start : (names : List NamedNode) (Xs : List Shape) (base : ℕ) (w : Waits) (b : PlanLists) → Xs ≡ [] → w ≡ no_waits base → b ≡ no_lists → Chained names Xs base w b
chained_start names Xs base w b eX ew eb =
    let none : Chained names [] base (no_waits base) no_lists = record {
      gives = [];
      gives_count = refl;
      adds = adds_refl names (no_waits base) no_lists;
      each = λ i X at. absurd (omega (arith, at.below));
      all_known = λ can. record { each = λ k x at. absurd (omega (arith, at.below)) };
    } in
    subst (λ x. Chained names Xs base w x) (sym eb) (subst (λ x. Chained names Xs base x no_lists) (sym ew) (subst (λ x. Chained names x base (no_waits base) no_lists) (sym eX) none))

-- one more
pub chained_next : {names : List NamedNode} {Xs : List Shape} {base : ℕ} {v w : Waits} {b c : PlanLists} {X : Shape} {j : ℕ} → Chained names Xs base v b → Compiled names (length b.nodes) X v w b c j → Chained names (Xs ++ X ∷ []) base w c
chained_next {names} {Xs} {base} {v} {w} {b} {c} {X} {j} r f =
    let here : length b.nodes ≡ 0 + length r.gives = r.adds.count in
    let whole : start_of (Xs ++ X ∷ []) (length Xs + 1) ≡ start_of (Xs ++ X ∷ []) (length Xs) + count_of X = start_next (Xs ++ X ∷ []) (length Xs) X (at_end Xs X) in
    let front : start_of (Xs ++ X ∷ []) (length Xs) ≡ start_of Xs (length Xs) = start_prefix Xs (X ∷ []) (length Xs) (omega arith) in
    let size : length (Xs ++ X ∷ []) ≡ length Xs + 1 = length-append Xs (X ∷ []) in
    record {
      gives = r.gives ++ f.gives;
      gives_count = length-append r.gives f.gives ∙ ap₂ (λ x y. x + y) (r.gives_count ∙ sym front) f.gives_count ∙ sym whole ∙ ap (start_of (Xs ++ X ∷ [])) (sym size);
      adds = adds_trans r.adds f.adds;
      each = λ p x at. ⊎_elim
          (λ q.
          let k = r.each p x (at_less (record { more = X ∷ []; is = refl }) q at) in
          let same : start_of Xs p ≡ start_of (Xs ++ X ∷ []) p = sym (start_prefix Xs (X ∷ []) p (omega (arith, q))) in
          record {
            before = k.before;
            after = k.after;
            waits = k.waits;
            later = k.later;
            node = k.node;
            compiled = k.compiled;
            starts = k.starts ∙ same;
            grows = grows_trans k.grows f.adds.grows;
            given = λ shapes given. k.given shapes (given_first f.gives given);
          })
          (λ q.
          let new : CompiledFrom names X (start_of (Xs ++ X ∷ []) p) w c (r.gives ++ f.gives) = record {
            before = b;
            after = c;
            waits = v;
            later = w;
            node = j;
            compiled = f;
            starts = here ∙ (let z : 0 + length r.gives ≡ length r.gives = omega arith in z) ∙ r.gives_count ∙ sym front ∙ ap (start_of (Xs ++ X ∷ [])) (sym q.0);
            grows = grows_refl c;
            given = λ shapes given. given_second r.gives (length b.nodes) here given;
          } in
          subst (λ y. CompiledFrom names y (start_of (Xs ++ X ∷ []) p) w c (r.gives ++ f.gives)) (sym q.1) new)
          (at_last Xs X x p at);
      all_known = λ can.
          let begins : start_of (Xs ++ X ∷ []) (length Xs) ≡ length b.nodes = omega (arith, here, r.gives_count, front) in
          f.known
          (r.all_known (λ i Y at. subst (λ n. Can names n Y) (start_prefix Xs (X ∷ []) i (omega (arith, at.below))) (can i Y (at_more (record { more = X ∷ []; is = refl }) at))))
          (subst (λ n. Can names n X) begins (can (length Xs) X (at_end Xs X)));
    }

-- the first i + 1
pub take_next : {A : Type 0} (xs : List A) (i : ℕ) (x : A) → IsAt xs i x → take (i + 1) xs ≡ take i xs ++ x ∷ []
take_next [] i x h = absurd (omega (arith, h.below))
take_next (y ∷ xs) zero x h = ap (λ z. z ∷ []) (sym h.is)
take_next (y ∷ xs) (suc i) x h = let n : suc i + 1 ≡ suc (i + 1) = omega arith in ap (λ k. take k (y ∷ xs)) n ∙ ap (λ l. y ∷ l) (take_next xs i x (record { below = omega (arith, h.below); is = h.is }))

pub take_more : {A : Type 0} (xs ys : List A) (i : ℕ) → i ≤ length xs → take i (xs ++ ys) ≡ take i xs
take_more xs ys zero h = refl
take_more [] ys (suc i) h = absurd (omega arith)
take_more (x ∷ xs) ys (suc i) h = ap (λ l. x ∷ l) (take_more xs ys i (omega arith))

pub take_all : {A : Type 0} (xs : List A) (i : ℕ) → length xs ≤ i → take i xs ≡ xs
take_all [] zero h = refl
take_all [] (suc i) h = refl
take_all (x ∷ xs) zero h = absurd (omega arith)
take_all (x ∷ xs) (suc i) h = ap (λ l. x ∷ l) (take_all xs i (omega arith))

-- the definitions, one after another
pub defs_next : {names : List NamedNode} {defs : List Def} {base i : ℕ} {v w : Waits} {b c : PlanLists} {d : Def} {j : ℕ} → Chained names (def_shapes (take i defs)) base v b → IsAt defs i d
    → Compiled names (length b.nodes) (shape_of d.expr) v w b c j → Chained names (def_shapes (take (i + 1) defs)) base w c
defs_next {names} {defs} {base} {i} {v} {w} {b} {c} {d} r at f =
    let e : def_shapes (take (i + 1) defs) ≡ def_shapes (take i defs) ++ shape_of d.expr ∷ [] = ap def_shapes (take_next defs i d at) ∙ def_shapes-append (take i defs) (d ∷ []) in
    subst (λ Xs. Chained names Xs base w c) (sym e) (chained_next r f)

-- what waits, one after another
pub waits_at : (xs : List Waiting) (i : ℕ) (x : Waiting) → IsAt xs i x → IsAt (waits_in xs) i (record { shape = shape_of x.expr.now; node = x.node })
waits_at [] i x h = absurd (omega (arith, h.below))
waits_at (y ∷ xs) zero x h = record { below = omega arith; is = ap (λ (z : Waiting). record { shape = shape_of z.expr.now; node = z.node }) h.is }
waits_at (y ∷ xs) (suc i) x h = let a = waits_at xs i x (record { below = omega (arith, h.below); is = h.is }) in record { below = omega (arith, a.below); is = a.is }

pub waits_count : (xs : List Waiting) → length (waits_in xs) ≡ length xs
waits_count [] = refl
waits_count (x ∷ xs) = ap suc (waits_count xs)

pub later_take : {vs ws : List Wait} (i : ℕ) (x : Wait) → IsPrefix vs ws → IsAt vs i x → take (i + 1) ws ≡ take i vs ++ x ∷ []
later_take {vs} {ws} i x g at = ap (take (i + 1)) g.is ∙ take_more vs g.more (i + 1) (omega (arith, at.below)) ∙ take_next vs i x at

pub waits_next : {names : List NamedNode} {base : ℕ} {v w : Waits} {b c : PlanLists} {j : ℕ} (Xs : List Shape) (i : ℕ) (x : Wait) → Chained names (Xs ++ wait_shapes (take i v.items)) base v b → IsAt v.items i x
    → Compiled names (length b.nodes) x.shape v w b c j → Chained names (Xs ++ wait_shapes (take (i + 1) w.items)) base w c
waits_next {names} {base} {v} {w} {b} {c} Xs i x r at f =
    let e : Xs ++ wait_shapes (take (i + 1) w.items) ≡ (Xs ++ wait_shapes (take i v.items)) ++ x.shape ∷ [] =
    ap (λ l. Xs ++ l) (ap wait_shapes (later_take i x f.adds.waits_go at) ∙ wait_shapes-append (take i v.items) (x ∷ [])) ∙ sym (append_assoc Xs (wait_shapes (take i v.items)) (x.shape ∷ [])) in
    subst (λ Ys. Chained names Ys base w c) (sym e) (chained_next r f)

-- less is left to compile
take_size : (xs : List Wait) (i : ℕ) → measure_of_waits (take i xs) ≤ measure_of_waits xs
take_size xs zero = omega arith
take_size [] (suc i) = omega arith
take_size (x ∷ xs) (suc i) = omega (arith, take_size xs i)

pub waits_fall : {names : List NamedNode} {done i : ℕ} {v w : Waits} {b c : PlanLists} {x : Wait} {j : ℕ} → IsAt v.items i x → Compiled names done x.shape v w b c j
    → measure_of_waits w.items - measure_of_waits (take (i + 1) w.items) < measure_of_waits v.items - measure_of_waits (take i v.items)
waits_fall {i = i} {v = v} {w = w} {x = x} at f =
    let e : measure_of_waits (take (i + 1) w.items) ≡ measure_of_waits (take i v.items) + (measure_of x.shape + 1) =
    ap measure_of_waits (later_take i x f.adds.waits_go at) ∙ measure_of_waits-append (take i v.items) (x ∷ []) ∙ (let z : measure_of_waits (take i v.items) + (measure_of x.shape + 1 + 0) ≡ measure_of_waits (take i v.items) + (measure_of x.shape + 1) = omega arith in z) in
    let old : measure_of_waits (take (i + 1) v.items) ≡ measure_of_waits (take i v.items) + (measure_of x.shape + 1) =
    ap measure_of_waits (take_next v.items i x at) ∙ measure_of_waits-append (take i v.items) (x ∷ []) ∙ (let z : measure_of_waits (take i v.items) + (measure_of x.shape + 1 + 0) ≡ measure_of_waits (take i v.items) + (measure_of x.shape + 1) = omega arith in z) in
    omega (arith, e, old, take_size v.items (i + 1), f.waits_few)

-- the node that was counted is the one that was compiled
pub root_same : {names : List NamedNode} {done : ℕ} {v w : Waits} {a b : PlanLists} {j : ℕ} (i start : ℕ) (X : Shape) (k : ℕ) → Compiled names done X v w a b j → length a.nodes ≡ start → IsDefinitionNode names i start X k → k ≡ j
root_same {names} {a = a} {b = b} {j = j} i start X k c e (inl h) = ⊎_elim
    (λ r. let same : h.0 ≡ r.0 = (let both : named h.0 ≡ named r.0 = sym h.1 ∙ r.1 in cc) in
    let found : Some k ≡ Some j = sym (node_of_first names h.0 h.2.0 k h.2.2) ∙ ap (node_of names) same ∙ r.2 in cc)
    (λ r. absurd (omega (arith, r.0, r.1, c.adds.count, c.gives_count, ap count_of h.1)))
    c.root
root_same {names} {a = a} {b = b} {j = j} i start X k c e (inr h) = ⊎_elim
    (λ r. absurd (omega (arith, h.0, h.1, ap count_of r.1)))
    (λ r. omega (arith, h.0, r.0, c.adds.count, c.gives_count, e))
    c.root

-- an expression that is compiled from one node on has one node
pub compiled_same : {names : List NamedNode} {done n : ℕ} {v w v' w' : Waits} {a b c d : PlanLists} {j k : ℕ} (X : Shape) → Compiled names done X v w a b j → Compiled names n X v' w' c d k → length a.nodes ≡ length c.nodes → j ≡ k
compiled_same {names} {a = a} {b = b} {c = c} {d = d} {j = j} {k = k} X f g e = ⊎_elim
    (λ h. ⊎_elim
    (λ r. let same : h.0 ≡ r.0 = (let both : named h.0 ≡ named r.0 = sym h.1 ∙ r.1 in cc) in
    let found : Some j ≡ Some k = sym h.2 ∙ ap (node_of names) same ∙ r.2 in cc)
    (λ r. absurd (omega (arith, r.0, r.1, g.adds.count, g.gives_count, ap count_of h.1)))
    g.root)
    (λ h. ⊎_elim
    (λ r. absurd (omega (arith, h.0, h.1, f.adds.count, f.gives_count, ap count_of r.1)))
    (λ r. omega (arith, h.0, r.0, f.adds.count, f.gives_count, g.adds.count, g.gives_count, e))
    g.root)
    f.root

pub finishes_next : {names : List NamedNode} {u v w : Waits} {a b c : PlanLists} {j : ℕ} (i : ℕ) (x : Wait) → FinishesTo names i u v a b → IsAt v.items i x → Compiled names (length b.nodes) x.shape v w b c j → FinishesTo names (i + 1) u w a c
finishes_next i x r at f = record {
  can_to = λ c. let o = r.can_to c in record {
    known = f.known o.known (record { known = (o.known.each i x at).shape_known; placed = λ name j h e. o.below name j e });
    below = λ name j e. omega (arith, o.below name j e, prefix_longer f.adds.grows.nodes);
  };
  grows_to = grows_trans r.grows_to f.adds.grows;
  chained_to = λ Xs base k. waits_next Xs i x (r.chained_to Xs base k) at f;
}

-- what waits first can be compiled next
pub finishes_can : {names : List NamedNode} {u v : Waits} {a b : PlanLists} {i done : ℕ} (x : Wait) → FinishesTo names i u v a b → CanFinish names u a → IsAt v.items i x → done ≡ length b.nodes → Can names done x.shape
finishes_can {names} {i = i} x r c at e = let o = r.can_to c in record { known = (o.known.each i x at).shape_known; placed = λ name j h n. omega (arith, o.below name j n, e) }

-- where the next definition's nodes begin
pub defs_begin : {names : List NamedNode} {base : ℕ} {v : Waits} {b : PlanLists} (defs : List Def) (i : ℕ) → i ≤ length defs → Chained names (def_shapes (take i defs)) base v b → length b.nodes ≡ start_of (def_shapes defs) i
defs_begin {b = b} defs i le r =
    let size : length (def_shapes (take i defs)) ≡ i = def_count (take i defs) ∙ length-take-le i defs le in
    let front : start_of (def_shapes (take i defs) ++ def_shapes (drop i defs)) i ≡ start_of (def_shapes (take i defs)) i = start_prefix (def_shapes (take i defs)) (def_shapes (drop i defs)) i (omega (arith, size)) in
    let whole : def_shapes (take i defs) ++ def_shapes (drop i defs) ≡ def_shapes defs = sym (def_shapes-append (take i defs) (drop i defs)) ∙ ap def_shapes (take-append-drop i defs) in
    let count : length b.nodes ≡ start_of (def_shapes (take i defs)) (length (def_shapes (take i defs))) = omega (arith, r.adds.count, r.gives_count) in
    count ∙ ap (start_of (def_shapes (take i defs))) size ∙ sym front ∙ ap (λ Xs. start_of Xs i) whole

pub finishes_end : {names : List NamedNode} {u v : Waits} {a b : PlanLists} (i : ℕ) → FinishesTo names i u v a b → length v.items ≤ i → Finishes names u v a b
finishes_end {names} {u} {v} {a} {b} i r h = record {
  grows = r.grows_to;
  chained = λ Xs base k. subst (λ ws. Chained names (Xs ++ wait_shapes ws) base v b) (take_all v.items i h) (r.chained_to Xs base k);
}
