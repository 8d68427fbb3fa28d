-- Nodes that are added to a plan.
use Rattle.std.proofs.Common.{◌≡◌, ◌≢◌, ◌⊎◌, inl, inr, ⊎_elim, ℕ, zero, suc, refl, sym, ap, ◌∙◌, subst, ◌+◌, ◌<◌, ◌≤◌, arith, List, [], ◌∷◌, ◌++◌, length, Bool, true, false, cond, Option, Some, None, length-append}
use Rattle.std.proofs.lemmas.Bool.{cases_lt}
use Rattle.std.proofs.Math.Dec.{eqb-suc-zero}
use Rattle.archive_schema.specs.declared.plan.NodeKind.{NodeKind}
use Rattle.archive_schema.specs.declared.plan.NodeKind.TheVariants.{Free}
use Rattle.archive_schema.specs.declared.plan.Node.{Node}
use Rattle.archive_schema.specs.declared.check.Checker.{Checker}
use Rattle.archive_schema.specs.declared.plan.growing.NamedNode.{NamedNode}
use Rattle.archive_check.specs.Shape.{Shape}
use Rattle.archive_check.specs.Layout.{Layouts, size_of, align_of}
use Rattle.archive_check.specs.Reads.{SchemaTable}
use Rattle.archive_check.specs.Words.Elements.{IsAt}
use Rattle.archive_schema.specs.plan.SoundPlans.{NodeKindFits}
use Rattle.archive_schema.specs.plan.Represents.{NodeStandsFor, stands, Made}
use Rattle.archive_check.specs.Words.BoundedSizes.{fits}
use Rattle.archive_schema.specs.plan.PlanGrowth.{PlanLists, IsPrefix, Grows, IsPushed, nothing_to_check, IsMade}
use Rattle.archive_schema.specs.plan.Compiled.{GrowsInto, Below, NamesSized, SoundTo, Settled, Given, MadeTo, Adds, Compiled}
use Rattle.archive_schema.specs.plan.NodeCounts.{count_of}
use Rattle.archive_check.specs.Measure.{measure_of}
use Rattle.archive_schema.specs.plan.Compilable.{Can, AllKnown}
use Rattle.archive_schema.specs.plan.CompileQueue.{Wait, Waits, measure_of_waits}
use Rattle.archive_check.proofs.BoundedSizes.{some_is}
use Rattle.archive_schema.proofs.plan.GrowingPlans.{at_more, prefix_refl, prefix_trans, grows_refl, grows_trans, pushed_grows, pushed_count, pushed_at, pushed_is}
use Rattle.archive_check.proofs.Elements.{at_behind, at_end, same_at}

-- the shapes of nodes are those of the first, and of the others
pub given_first : {shapes : ℕ → Shape} {from : ℕ} {xs : List Shape} (ys : List Shape) → Given shapes from (xs ++ ys) → Given shapes from xs
given_first ys g = record { are = λ k X h. g.are k X (at_more (record { more = ys; is = refl }) h) }

pub given_second : {shapes : ℕ → Shape} {from : ℕ} {ys : List Shape} (xs : List Shape) (to : ℕ) → to ≡ from + length xs → Given shapes from (xs ++ ys) → Given shapes to ys
given_second {shapes} {from} {ys} xs to e g = record { are = λ k X h. let i : to + k ≡ from + (length xs + k) = omega (arith, e) in ap shapes i ∙ g.are (length xs + k) X (at_behind xs k h) }

pub given_last : {shapes : ℕ → Shape} {from : ℕ} {X : Shape} (xs : List Shape) (j : ℕ) → j ≡ from + length xs → Given shapes from (xs ++ X ∷ []) → shapes j ≡ X
given_last {shapes} {from} {X} xs j e g = ap shapes e ∙ g.are (length xs) X (at_end xs X)

pub knows_settled : {names : List NamedNode} {ws : List Wait} {s : SchemaTable} {shapes : ℕ → Shape} {m : Checker} (done : ℕ) → Settled names ws s shapes m → NamesSized names s.layouts done m
knows_settled done t name j e h = t.sized name j e

-- fewer wait
pub settled_less : {names : List NamedNode} {us ws : List Wait} {s : SchemaTable} {shapes : ℕ → Shape} {m : Checker} → IsPrefix ws us → Settled names us s shapes m → Settled names ws s shapes m
settled_less g t = record {
  laid_out = t.laid_out;
  waits_sized = λ k x at. t.waits_sized k x (at_more g at);
  waits_stand = λ k x at. t.waits_stand k x (at_more g at);
  sized = t.sized;
  stand = t.stand;
}

below_less : {names : List NamedNode} {us ws : List Wait} {m : Checker} → IsPrefix ws us → Below names us m → Below names ws m
below_less g t = record { names_below = t.names_below; waits_below = λ k x at. t.waits_below k x (at_more g at) }

pub adds_refl : (names : List NamedNode) (v : Waits) (a : PlanLists) → Adds names [] v v a a
adds_refl names v a = record { grows = grows_refl a; waits_go = prefix_refl v.items; reserved = λ base r. r; count = omega arith; sound = λ m g w c. c; made = λ s shapes m g t given h. h }

pub adds_trans : {names : List NamedNode} {g h : List Shape} {v w u : Waits} {a b c : PlanLists} → Adds names g v w a b → Adds names h w u b c → Adds names (g ++ h) v u a c
adds_trans {g = g} {h = h} f k = record {
  grows = grows_trans f.grows k.grows;
  waits_go = prefix_trans f.waits_go k.waits_go;
  reserved = λ base r. k.reserved base (f.reserved base r);
  count = omega (arith, f.count, k.count, length-append g h);
  sound = λ m r w c. k.sound m r w (f.sound m (grows_trans k.grows r) (below_less k.waits_go w) c);
  made = λ s shapes m r t given c. k.made s shapes m r t (given_second g _ f.count given) (f.made s shapes m (grows_trans k.grows r) (settled_less k.waits_go t) (given_first h given) c);
}

-- no node more
pub adds_same : {names : List NamedNode} {g : List Shape} {v w : Waits} {a b c : PlanLists} → Adds names g v w a b → Grows b c → c.nodes ≡ b.nodes → Adds names g v w a c
adds_same f r e = record {
  grows = grows_trans f.grows r;
  waits_go = f.waits_go;
  reserved = f.reserved;
  count = ap length e ∙ f.count;
  sound = λ m k w c. subst (λ xs. SoundTo m (length xs)) (sym e) (f.sound m (grows_trans r k) w c);
  made = λ s shapes m k t given c. subst (λ xs. MadeTo s shapes m (length xs)) (sym e) (f.made s shapes m (grows_trans r k) t given c);
}

-- one node more
module _ {b c : PlanLists} {size : Option ℕ} {align j : ℕ} {kind : NodeKind} (p : IsPushed b c size align kind j) (m : Checker) (g : GrowsInto c m) where
  new_node : (i : ℕ) (node : Node) → i < length c.nodes → length b.nodes ≤ i → IsAt m.nodes.now i node → (i ≡ length b.nodes) × (node ≡ p.node)
  new_node i node lt le at =
      let e : i ≡ length b.nodes = omega (arith, lt, le, pushed_count p) in
      let here : IsAt m.nodes.now j node = subst (λ k. IsAt m.nodes.now k node) (e ∙ sym p.is) at in
      (e, same_at here (at_more g.nodes (pushed_at p)))

  push_sound : ((z : ℕ) → size ≡ Some z → NodeKindFits m (length b.nodes) z kind) → SoundTo m (length b.nodes) → SoundTo m (length c.nodes)
  push_sound f k = record {
    fits = λ i node z lt at e. ⊎_elim
        (λ h. k.fits i node z h at e)
        (λ h. let q = new_node i node lt h at in
        let there = f z (sym p.size_is ∙ ap (λ (n : Node). n.size) (sym q.1) ∙ e) in
        subst (λ w. NodeKindFits m i z w) (sym p.kind_is ∙ ap (λ (n : Node). n.kind) (sym q.1)) (subst (λ w. NodeKindFits m w z kind) (sym q.0) there))
        (cases_lt i (length b.nodes));
  }

  push_made : {s : SchemaTable} {shapes : ℕ → Shape} (X : Shape) → shapes (length b.nodes) ≡ X → size ≡ fits (size_of s.layouts X) → ((z : ℕ) → size ≡ Some z → Made s shapes m kind X)
      → (size ≡ Some 0 → kind ≡ Free) → MadeTo s shapes m (length b.nodes) → MadeTo s shapes m (length c.nodes)
  push_made {s} {shapes} X is lay make empty k = record {
    made = λ i node z lt at e. ⊎_elim
        (λ h. k.made i node z h at e)
        (λ h. let q = new_node i node lt h at in
        let sized = sym p.size_is ∙ ap (λ (n : Node). n.size) (sym q.1) ∙ e in
        let here : X ≡ shapes i = sym is ∙ ap shapes (sym q.0) in
        subst (λ Y. (size_of s.layouts Y ≡ z) × Made s shapes m node.kind Y) here
        (some_is (sym lay ∙ sized), subst (λ w. Made s shapes m w X) (sym p.kind_is ∙ ap (λ (n : Node). n.kind) (sym q.1)) (make z sized)))
        (cases_lt i (length b.nodes));
    empty = λ i node lt at e. ⊎_elim
        (λ h. k.empty i node h at e)
        (λ h. let q = new_node i node lt h at in ap (λ (n : Node). n.kind) q.1 ∙ p.kind_is ∙ empty (sym p.size_is ∙ ap (λ (n : Node). n.size) (sym q.1) ∙ e))
        (cases_lt i (length b.nodes));
  }

module _ {names : List NamedNode} {gives : List Shape} {v w : Waits} {a b c : PlanLists} (f : Adds names gives v w a b) where
  pub adds_push : {size : Option ℕ} {align j : ℕ} {kind : NodeKind} (X : Shape) → IsPushed b c size align kind j
      → ((m : Checker) → GrowsInto c m → Below names w.items m → (z : ℕ) → size ≡ Some z → NodeKindFits m (length b.nodes) z kind)
      → ((s : SchemaTable) (shapes : ℕ → Shape) (m : Checker) → GrowsInto c m → Settled names w.items s shapes m → size ≡ fits (size_of s.layouts X))
      → ((s : SchemaTable) (shapes : ℕ → Shape) (m : Checker) → GrowsInto c m → Settled names w.items s shapes m → Given shapes (length a.nodes) gives → MadeTo s shapes m (length b.nodes) → (z : ℕ) → size ≡ Some z → Made s shapes m kind X)
      → (size ≡ Some 0 → kind ≡ Free)
      → Adds names (gives ++ X ∷ []) v w a c
  adds_push X p sound lay make empty = record {
    grows = grows_trans f.grows (pushed_grows p);
    waits_go = f.waits_go;
    reserved = f.reserved;
    count = omega (arith, f.count, pushed_count p, length-append gives (X ∷ []));
    sound = λ m g w k. push_sound p m g (sound m g w) (f.sound m (grows_trans (pushed_grows p) g) w k);
    made = λ s shapes m g t given k.
        let first = given_first (X ∷ []) given in
        let old = f.made s shapes m (grows_trans (pushed_grows p) g) t first k in
        push_made p m g X (given_last gives (length b.nodes) f.count given) (lay s shapes m g t) (make s shapes m g t first old) empty old;
  }

  pub compiled_push : {done : ℕ} {size : Option ℕ} {align j : ℕ} {kind : NodeKind} (X : Shape) → IsPushed b c size align kind j → length gives + 1 ≡ count_of X → measure_of_waits w.items ≤ measure_of_waits v.items + measure_of X
      → (AllKnown names v.items → Can names done X → AllKnown names w.items)
      → ((m : Checker) (l : Layouts) → GrowsInto c m → NamesSized names l done m → (size ≡ fits (size_of l X)) × (align ≡ align_of l X))
      → ((m : Checker) → GrowsInto c m → Below names w.items m → (z : ℕ) → size ≡ Some z → NodeKindFits m (length b.nodes) z kind)
      → ((s : SchemaTable) (shapes : ℕ → Shape) (m : Checker) → GrowsInto c m → Settled names w.items s shapes m → Given shapes (length a.nodes) gives → MadeTo s shapes m (length b.nodes) → (z : ℕ) → size ≡ Some z → Made s shapes m kind X)
      → (size ≡ Some 0 → kind ≡ Free)
      → Compiled names done X v w a c j
  compiled_push {done = done} {j = j} X p count few known lay sound make empty =
      let last : j ≡ length a.nodes + length gives = omega (arith, p.is, f.count) in
      record {
        gives = gives ++ X ∷ [];
        gives_count = length-append gives (X ∷ []) ∙ count;
        adds = adds_push X p sound (λ s shapes m g t. (lay m s.layouts g (knows_settled done t)).0) make empty;
        waits_few = few;
        known = known;
        below = omega (arith, pushed_is p);
        root = inr (pushed_is p, omega (arith, last), λ shapes given. given_last gives j last given);
        lays = λ m l g k. let q = lay m l g k in record { node = p.node; at = at_more g.nodes (pushed_at p); size_is = p.size_is ∙ q.0; align_is = p.align_is ∙ q.1 };
      }

-- a kind, or none
pub made_node_kind : (free : Bool) (size : Option ℕ) (kind made : NodeKind) → made ≡ cond (nothing_to_check free size) Free kind → (P : NodeKind → Type 0)
    → ((free ≡ true) ⊎ ((z : ℕ) → size ≡ Some z → z ≡ 0) → P Free) → (size ≢ Some 0 → P kind) → P made
made_node_kind free None kind made h P f g = subst P (sym h) (f (inr (λ z e. cc)))
made_node_kind free (Some zero) kind made h P f g = subst P (sym h) (f (inr (λ z e. cc)))
made_node_kind free (Some (suc n)) kind made h P f g =
    is_made free refl
  where
    unless_free : made ≡ cond free Free kind
    unless_free = h ∙ ap (λ b. cond (cond b true free) Free kind) (eqb-suc-zero n)

    is_made : (b : Bool) → free ≡ b → P made
    is_made true e = subst P (sym (unless_free ∙ ap (λ b. cond b Free kind) e)) (f (inl e))
    is_made false e = subst P (sym (unless_free ∙ ap (λ b. cond b Free kind) e)) (g (λ z. cc))

pub some_positive : {size : Option ℕ} (z : ℕ) → size ≡ Some z → size ≢ Some 0 → 0 < z
some_positive zero e n = absurd (n e)
some_positive (suc z) e n = omega arith

module _ {names : List NamedNode} {gives : List Shape} {v w : Waits} {a b c : PlanLists} (f : Adds names gives v w a b) where
  pub compiled_made : {done : ℕ} {size : Option ℕ} {align j : ℕ} {free : Bool} {kind : NodeKind} (X : Shape) → IsMade b c size align free kind j → length gives + 1 ≡ count_of X → measure_of_waits w.items ≤ measure_of_waits v.items + measure_of X
      → (AllKnown names v.items → Can names done X → AllKnown names w.items)
      → ((m : Checker) (l : Layouts) → GrowsInto c m → NamesSized names l done m → (size ≡ fits (size_of l X)) × (align ≡ align_of l X))
      → ((m : Checker) → GrowsInto c m → Below names w.items m → (z : ℕ) → size ≡ Some z → 0 < z → NodeKindFits m (length b.nodes) z kind)
      → ((s : SchemaTable) (shapes : ℕ → Shape) (m : Checker) → GrowsInto c m → Settled names w.items s shapes m → Given shapes (length a.nodes) gives → MadeTo s shapes m (length b.nodes) → (z : ℕ) → size ≡ Some z → (free ≡ true) ⊎ (z ≡ 0) → Made s shapes m Free X)
      → ((s : SchemaTable) (shapes : ℕ → Shape) (m : Checker) → GrowsInto c m → Settled names w.items s shapes m → Given shapes (length a.nodes) gives → (z : ℕ) → size ≡ Some z → 0 < z → Made s shapes m kind X)
      → Compiled names done X v w a c j
  compiled_made {size = size} {free = free} {kind = kind} X p count few known lay sound make_free make = compiled_push f X p.pushed count few known lay
      (λ m g w z e. made_node_kind free size kind p.made p.made_is (λ q. NodeKindFits m (length b.nodes) z q) (λ h. tt) (λ n. sound m g w z e (some_positive z e n)))
      (λ s shapes m g t given k z e. made_node_kind free size kind p.made p.made_is (λ q. Made s shapes m q X)
      (λ h. make_free s shapes m g t given k z e (⊎_elim (λ y. inl y) (λ y. inr (y z e)) h))
      (λ n. make s shapes m g t given z e (some_positive z e n)))
      (λ e. made_node_kind free size kind p.made p.made_is (λ q. q ≡ Free) (λ h. refl) (λ n. absurd (n e)))

-- an expression's node stands for it
pub stands_of : {names : List NamedNode} {done : ℕ} {X : Shape} {v w : Waits} {a b : PlanLists} {j : ℕ} {s : SchemaTable} {shapes : ℕ → Shape} {m : Checker}
    → (c : Compiled names done X v w a b j) → Settled names w.items s shapes m → Given shapes (length a.nodes) c.gives → NodeStandsFor s shapes X j
stands_of {j = j} {s = s} {shapes = shapes} c t given = ⊎_elim
    (λ h. subst (λ Y. NodeStandsFor s shapes Y j) (sym h.1) (t.stand h.0 j h.2))
    (λ h. stands (h.2 shapes given))
    c.root
