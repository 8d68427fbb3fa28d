-- A plan of all definitions, the root, and all that they lead to.
use Rattle.std.proofs.Common.{◌≡◌, inr, ⊎_elim, ℕ, zero, suc, refl, sym, ap, ◌∙◌, subst, ◌+◌, ◌<◌, ◌≤◌, arith, List, [], ◌∷◌, ◌++◌, length, slice_index_or, Some, length-append}
use Rattle.std.proofs.lemmas.Bool.{cases_lt}
use Rattle.std.proofs.lemmas.List.{get_or_default}
use Rattle.archive_check.specs.declared.format.defs.Def.{Def}
use Rattle.archive_schema.specs.declared.plan.Plan.{Plan}
use Rattle.archive_schema.specs.declared.plan.Node.{Node}
use Rattle.archive_schema.specs.declared.check.Checker.{Checker}
use Rattle.archive_schema.specs.declared.plan.growing.NamedNode.{NamedNode}
use Rattle.archive_check.specs.Shape.{Name, Shape, leaf, unit, named, definition}
use Rattle.archive_check.specs.Layout.{Layouts, layout, size_of, align_of}
use Rattle.archive_check.specs.Expressions.{shape_of, entries_of}
use Rattle.archive_schema.specs.plan.NodeCounts.{count_of}
use Rattle.archive_check.specs.Reads.{SchemaTable, LaidOut}
use Rattle.archive_check.specs.Words.Elements.{IsAt}
use Rattle.archive_schema.specs.plan.Represents.{NodeStandsFor, stands, stands_named, Sized, points_one}
use Rattle.archive_check.specs.Words.BoundedSizes.{fits}
use Rattle.archive_schema.specs.plan.PlanGrowth.{node_of, PlanLists, lists_of, Grows}
use Rattle.archive_schema.specs.plan.CompileQueue.{Wait, Waits, wait_shapes, Reserved}
use Rattle.archive_schema.specs.plan.Compilable.{Can}
use Rattle.archive_schema.specs.plan.Compiled.{GrowsInto, Below, NamesSized, Settled, Given, SoundTo, MadeTo, Compiled}
use Rattle.archive_schema.specs.plan.NodeNumbers.{def_shapes, start_of, FirstAt, IsNumbered}
use Rattle.archive_schema.specs.plan.Planned.{IsOf, IsPlan, HasNames, InOrder, CompiledFrom, Chained, CanFinish, Finishes}
use Rattle.archive_schema.proofs.plan.GrowingPlans.{same_prefix, at_more, prefix_longer, grows_trans}
use Rattle.archive_check.proofs.Elements.{same_at, some_at, at_behind, at_end}
use Rattle.archive_schema.proofs.plan.NodeNumbers.{def_at, def_count, can_chain, can_root, all_before, start_next, start_later, start_prefix, start_behind, first_at, definition_is, numbered_known}
use Rattle.archive_schema.proofs.plan.CompiledChain.{root_same, compiled_same, chained_next}

layout_sized : {m : Checker} {j : ℕ} (l : Layouts) (name : Name) (X : Shape) → l name ≡ layout l X → Sized m j (size_of l X) (align_of l X) → Sized m j (l name).size (l name).align
layout_sized l name X e t = record { node = t.node; at = t.at; size_is = t.size_is ∙ ap (λ w. fits w.size) (sym e); align_is = t.align_is ∙ ap (λ w. w.align) (sym e) }

node_sized : {m : Checker} {size align : ℕ} {i j : ℕ} → i ≡ j → Sized m i size align → Sized m j size align
node_sized {m} {size} {align} e t = subst (λ k. Sized m k size align) e t

-- the k-th that waits, and where its nodes begin
wait_at : (ws : List Wait) (k : ℕ) (x : Wait) → IsAt ws k x → IsAt (wait_shapes ws) k x.shape
wait_at [] k x h = absurd (omega (arith, h.below))
wait_at (y ∷ ws) zero x h = record { below = omega arith; is = ap (λ (z : Wait). z.shape) h.is }
wait_at (y ∷ ws) (suc k) x h = let a = wait_at ws k x (record { below = omega (arith, h.below); is = h.is }) in record { below = omega (arith, a.below); is = a.is }

wait_node : (base : ℕ) (ws : List Wait) (next : ℕ) → Reserved base ws next → (k : ℕ) (x : Wait) → IsAt ws k x → (x.node + 1 ≡ base + start_of (wait_shapes ws) k + count_of x.shape) × (base + start_of (wait_shapes ws) k ≤ x.node)
wait_node base [] next r k x h = absurd (omega (arith, h.below))
wait_node base (y ∷ ws) next r zero x h = let e : x ≡ y = h.is in (omega (arith, r.0, ap (λ (z : Wait). z.node) e, ap (λ (z : Wait). count_of z.shape) e), omega (arith, r.1, ap (λ (z : Wait). z.node) e))
wait_node base (y ∷ ws) next r (suc k) x h =
    let q = wait_node (base + count_of y.shape) ws next r.2 k x (record { below = omega (arith, h.below); is = h.is }) in (omega (arith, q.0), omega (arith, q.1))

-- what was compiled and is no name stands for its shape
kept_stands : {names : List NamedNode} {X : Shape} {start : ℕ} {w : Waits} {b : PlanLists} {gives : List Shape} {s : SchemaTable} {shapes : ℕ → Shape} {j : ℕ} → (c : CompiledFrom names X start w b gives) → Given shapes 0 gives
    → j ≡ c.node → j + 1 ≡ start + count_of X → start ≤ j → NodeStandsFor s shapes X j
kept_stands {X = X} {s = s} {shapes = shapes} c given same last from = ⊎_elim
    (λ w. absurd (omega (arith, last, from, ap count_of w.1)))
    (λ w. subst (λ i. NodeStandsFor s shapes X i) (sym same) (stands (w.2 shapes (c.given shapes given))))
    c.compiled.root

root_stands : {names : List NamedNode} {X : Shape} {start : ℕ} {w : Waits} {ws : List Wait} {b : PlanLists} {gives : List Shape} {s : SchemaTable} {shapes : ℕ → Shape} {m : Checker} → (c : CompiledFrom names X start w b gives) → Settled names ws s shapes m → Given shapes 0 gives → NodeStandsFor s shapes X c.node
root_stands {s = s} {shapes = shapes} c t given = ⊎_elim
    (λ h. subst (λ Y. NodeStandsFor s shapes Y c.node) (sym h.1) (t.stand h.0 c.node h.2))
    (λ h. stands (h.2 shapes (c.given shapes given)))
    c.compiled.root

-- the shapes of all that is compiled: definitions, the root, and what waits
abbrev all_shapes : List Def → Shape → Waits → List Shape
all_shapes defs X w = (def_shapes defs ++ X ∷ []) ++ wait_shapes w.items

module _ {names : List NamedNode} {defs : List Def} {w : Waits} {base : ℕ} {b : PlanLists} (X : Shape)
    (num : IsNumbered defs names (length defs)) (chain : Chained names (all_shapes defs X w) base w b) (base_is : base ≡ start_of (def_shapes defs) (length defs) + count_of X) where
  front_count : length (def_shapes defs ++ X ∷ []) ≡ length defs + 1
  front_count = length-append (def_shapes defs) (X ∷ []) ∙ ap (λ n. n + 1) (def_count defs)

  -- where each begins
  def_start : (i : ℕ) → i ≤ length defs → start_of (all_shapes defs X w) i ≡ start_of (def_shapes defs) i
  def_start i h =
      start_prefix (def_shapes defs ++ X ∷ []) (wait_shapes w.items) i (omega (arith, front_count, h)) ∙ start_prefix (def_shapes defs) (X ∷ []) i (omega (arith, def_count defs, h))

  root_at : IsAt (all_shapes defs X w) (length defs) X
  root_at = subst (λ n. IsAt (all_shapes defs X w) n X) (def_count defs) (at_more (record { more = wait_shapes w.items; is = refl }) (at_end (def_shapes defs) X))

  front_start : start_of (def_shapes defs ++ X ∷ []) (length (def_shapes defs ++ X ∷ [])) ≡ base
  front_start =
      let last = start_next (def_shapes defs ++ X ∷ []) (length (def_shapes defs)) X (at_end (def_shapes defs) X) in
      let first = start_prefix (def_shapes defs) (X ∷ []) (length (def_shapes defs)) (omega arith) in
      let size : length (def_shapes defs ++ X ∷ []) ≡ length (def_shapes defs) + 1 = length-append (def_shapes defs) (X ∷ []) in
      omega (arith, ap (start_of (def_shapes defs ++ X ∷ [])) size, last, first, ap (start_of (def_shapes defs)) (def_count defs), base_is)

  wait_start : (k : ℕ) → start_of (all_shapes defs X w) (length (def_shapes defs ++ X ∷ []) + k) ≡ base + start_of (wait_shapes w.items) k
  wait_start k = start_behind (def_shapes defs ++ X ∷ []) (wait_shapes w.items) k ∙ ap (λ n. n + start_of (wait_shapes w.items) k) front_start

  -- each, as it was compiled
  def_kept : (i : ℕ) (d : Def) → IsAt defs i d → CompiledFrom names (shape_of d.expr) (start_of (def_shapes defs) i) w b chain.gives
  def_kept i d at =
      let there : IsAt (all_shapes defs X w) i (shape_of d.expr) = at_more (record { more = wait_shapes w.items; is = refl }) (at_more (record { more = X ∷ []; is = refl }) (def_at defs i at)) in
      subst (λ n. CompiledFrom names (shape_of d.expr) n w b chain.gives) (def_start i (omega (arith, at.below))) (chain.each i (shape_of d.expr) there)

  root_kept : CompiledFrom names X (start_of (def_shapes defs) (length defs)) w b chain.gives
  root_kept = subst (λ n. CompiledFrom names X n w b chain.gives) (def_start (length defs) (omega arith)) (chain.each (length defs) X root_at)

  wait_kept : (k : ℕ) (x : Wait) → IsAt w.items k x → CompiledFrom names x.shape (base + start_of (wait_shapes w.items) k) w b chain.gives
  wait_kept k x at = subst (λ n. CompiledFrom names x.shape n w b chain.gives) (wait_start k) (chain.each (length (def_shapes defs ++ X ∷ []) + k) x.shape (at_behind (def_shapes defs ++ X ∷ []) k (wait_at w.items k x at)))

  -- what waits has its node
  wait_place : (k : ℕ) (x : Wait) → IsAt w.items k x → (x.node + 1 ≡ base + start_of (wait_shapes w.items) k + count_of x.shape) × (base + start_of (wait_shapes w.items) k ≤ x.node)
  wait_place k x at = wait_node base w.items w.next (chain.adds.reserved base refl) k x at

  wait_same : (k : ℕ) (x : Wait) (at : IsAt w.items k x) → x.node ≡ (wait_kept k x at).node
  wait_same k x at =
      let c = wait_kept k x at in root_same 0 (base + start_of (wait_shapes w.items) k) x.shape x.node c.compiled c.starts (inr (wait_place k x at))

  -- the definition of a name
  defined_at : {name : Name} {q j : ℕ} → FirstAt names name q j → (d : Def) × IsAt defs q d
  defined_at {name} {q} f = some_at defs q (omega (arith, f.at.below, num.count))

  module _ (m : Checker) (g : GrowsInto b m) where
    all_below : Below names w.items m
    all_below = record {
      names_below = λ name j e.
          let c = root_kept in
          omega (arith, all_before num name j e, c.starts, c.compiled.adds.count, prefix_longer c.grows.nodes, prefix_longer g.nodes);
      waits_below = λ k x at. let c = wait_kept k x at in omega (arith, wait_same k x at, c.compiled.below, prefix_longer c.grows.nodes, prefix_longer g.nodes);
    }

    module _ (s : SchemaTable) (table : s.table ≡ entries_of defs) (laid : LaidOut s) where
      definition_at : {name : Name} {q j : ℕ} → FirstAt names name q j → (d : Def) → IsAt defs q d → definition s.table name ≡ Some (shape_of d.expr)
      definition_at {name} {q} {j} f d at = ap (λ t. definition t name) table ∙ definition_is defs names num.name_is name q j d f at

      -- the nodes of the first p definitions have their layouts
      abbrev AreLaid : ℕ → Type 0
      AreLaid p = (q : ℕ) (d : Def) (k : NamedNode) → q < p → IsAt defs q d → IsAt names q k → Sized m k.node (size_of s.layouts (shape_of d.expr)) (align_of s.layouts (shape_of d.expr))

      -- so have the names that lead to them
      name_sized : (p : ℕ) → AreLaid p → (r : ℕ) (name : Name) (q j : ℕ) → q < r → FirstAt names name q j → j < start_of (def_shapes defs) p → Sized m j (s.layouts name).size (s.layouts name).align
      name_sized p old zero name q j lt f below = absurd (omega (arith, lt))
      name_sized p old (suc r) name q j lt f below =
          let d = defined_at f in
          let is : s.layouts name ≡ layout s.layouts (shape_of d.0.expr) = laid.solves name (shape_of d.0.expr) (definition_at f d.0 d.1) in
          ⊎_elim
          (λ h. node_sized f.node_is (layout_sized s.layouts name (shape_of d.0.expr) is (old q d.0 f.known h d.1 f.at)))
          (λ h. ⊎_elim
          (λ k. node_sized f.node_is (layout_sized s.layouts name (named k.0) (is ∙ ap (layout s.layouts) k.1)
          (name_sized p old r k.0 k.2.0 f.known.node (omega (arith, lt, k.2.1)) k.2.2 (omega (arith, f.node_is, below)))))
          (λ k. absurd (omega (arith, k.1, f.node_is, below, start_later (def_shapes defs) p q h)))
          (num.root_is q d.0 f.known d.1 f.at))
          (cases_lt q p)

      all_laid : (p : ℕ) → p ≤ length defs → AreLaid p
      all_laid zero few q d k lt at kt = absurd (omega (arith, lt))
      all_laid (suc p) few q d k lt at kt = ⊎_elim
          (λ h. all_laid p (omega arith) q d k h at kt)
          (λ h.
          let e : q ≡ p = omega (arith, lt, h) in
          let c = def_kept q d at in
          let old : AreLaid p = all_laid p (omega arith) in
          let known : NamesSized names s.layouts (length c.before.nodes) m = λ name j n below.
          let f = first_at names name j n in name_sized p old (suc f.0) name f.0 j (omega arith) f.1 (omega (arith, below, c.starts, ap (start_of (def_shapes defs)) e)) in
          let same : k.node ≡ c.node = root_same q (start_of (def_shapes defs) q) (shape_of d.expr) k.node c.compiled c.starts (num.root_is q d k at kt) in
          node_sized (sym same) (c.compiled.lays m s.layouts (grows_trans c.grows g) known))
          (cases_lt q p)

      all_known : (name : Name) (j : ℕ) → node_of names name ≡ Some j → Sized m j (s.layouts name).size (s.layouts name).align
      all_known name j e =
          let f = first_at names name j e in
          name_sized (length defs) (all_laid (length defs) (omega arith)) (suc f.0) name f.0 j (omega arith) f.1 (all_before num name j e)

      module _ (shapes : ℕ → Shape) (given : Given shapes 0 chain.gives) where
        name_stands : (r : ℕ) (name : Name) (q j : ℕ) → q < r → FirstAt names name q j → NodeStandsFor s shapes (named name) j
        name_stands zero name q j lt f = absurd (omega (arith, lt))
        name_stands (suc r) name q j lt f =
            let d = defined_at f in
            let is = definition_at f d.0 d.1 in
            let c = def_kept q d.0 d.1 in
            let same = root_same q (start_of (def_shapes defs) q) (shape_of d.0.expr) f.known.node c.compiled c.starts (num.root_is q d.0 f.known d.1 f.at) in
            subst (λ i. NodeStandsFor s shapes (named name) i) f.node_is (⊎_elim
            (λ k. stands_named is (subst (λ Y. NodeStandsFor s shapes Y f.known.node) (sym k.1) (name_stands r k.0 k.2.0 f.known.node (omega (arith, lt, k.2.1)) k.2.2)))
            (λ k. stands_named is (kept_stands c given same k.0 k.1))
            (num.root_is q d.0 f.known d.1 f.at))

        settled : Settled names w.items s shapes m
        settled = record {
          laid_out = laid;
          waits_sized = λ k x at. let c = wait_kept k x at in node_sized (sym (wait_same k x at)) (c.compiled.lays m s.layouts (grows_trans c.grows g) (λ name j n below. all_known name j n));
          waits_stand = λ k x at. let c = wait_kept k x at in let place = wait_place k x at in kept_stands c given (wait_same k x at) place.0 place.1;
          sized = all_known;
          stand = λ name j e. let f = first_at names name j e in name_stands (suc f.0) name f.0 j (omega arith) f.1;
        }

-- the shape of each node
abbrev shape_at : List Shape → ℕ → Shape
shape_at Xs i = slice_index_or Xs i (leaf unit)

all_given : (Xs : List Shape) → Given (shape_at Xs) 0 Xs
all_given Xs = record { are = λ k X at. let e : 0 + k ≡ k = omega arith in ap (shape_at Xs) e ∙ get_or_default Xs k (leaf unit) X at.below ∙ sym at.is }

plan_grows_into : (m : Checker) (plan : Plan) → IsOf m plan → GrowsInto (lists_of plan) m
plan_grows_into m plan o = record { nodes = same_prefix o.nodes; parts = same_prefix o.parts; variants = same_prefix o.variants; shared_types = same_prefix o.shared_types }

-- the plan of all
pub planned : {names : List NamedNode} {defs : List Def} {w v u : Waits} {base j : ℕ} {b c : PlanLists} (X : Shape) (plan : Plan) → IsNumbered defs names (length defs) → Chained names (all_shapes defs X w) base w (lists_of plan)
    → base ≡ start_of (def_shapes defs) (length defs) + count_of X
    → Compiled names (length b.nodes) X v u b c j → length b.nodes ≡ start_of (def_shapes defs) (length defs) → Grows c (lists_of plan) → IsPlan defs X plan j
planned {defs = defs} {w = w} {base = base} {j = j} {b = b} X plan num chain base_is root starts grows =
    let kept = root_kept X num chain base_is in
    let same : j ≡ kept.node = compiled_same X root kept.compiled (starts ∙ sym kept.starts) in
    record {
      below = omega (arith, root.below, prefix_longer grows.nodes);
      sound = λ m o.
          let g = plan_grows_into m plan o in
          let none : SoundTo m 0 = record { fits = λ i node z lt at e. absurd (omega (arith, lt)) } in
          let all = chain.adds.sound m g (all_below X num chain base_is m g) none in
          record { fits = λ i node z at e. all.fits i node z (omega (arith, at.below, ap length o.nodes)) at e };
      plan_of = λ m s o table laid.
          let g = plan_grows_into m plan o in
          let shapes : ℕ → Shape = shape_at chain.gives in
          let given = all_given chain.gives in
          let t = settled X num chain base_is m g s table laid shapes given in
          let none : MadeTo s shapes m 0 = record { made = λ i node z lt at e. absurd (omega (arith, lt)); empty = λ i node lt at e. absurd (omega (arith, lt)) } in
          let all = chain.adds.made s shapes m g t given none in
          record {
            shapes = shapes;
            represents = record { made = λ i node z at e. all.made i node z (omega (arith, at.below, ap length o.nodes)) at e };
            points = points_one (root.lays m s.layouts (grows_trans grows g) (λ name i n below. t.sized name i n))
                (subst (λ i. NodeStandsFor s shapes X i) (sym same) (root_stands kept t given));
          };
    }

-- a checker of the plan, without a byte to check
abbrev pub checker_of : Plan → Checker
checker_of plan = record {
  nodes = record { ref_ptr = (0, 0); now = plan.nodes.items };
  parts = record { ref_ptr = (0, 0); now = plan.parts.items };
  variants = record { ref_ptr = (0, 0); now = plan.variants.items };
  shared_types = record { ref_ptr = (0, 0); now = plan.shared_types.items };
  shallow = record { ref_ptr = (0, 0); now = [] };
  bytes = record { ref_ptr = (0, 0); now = [] };
}

-- the names' nodes
names_planned : {names : List NamedNode} {defs : List Def} {w : Waits} {base : ℕ} (X : Shape) (plan : Plan) → IsNumbered defs names (length defs) → Chained names (all_shapes defs X w) base w (lists_of plan)
    → base ≡ start_of (def_shapes defs) (length defs) + count_of X → HasNames defs names plan
names_planned {names} {defs} X plan num chain base_is =
    let m = checker_of plan in
    let g : GrowsInto (lists_of plan) m = plan_grows_into m plan (record { nodes = refl; parts = refl; variants = refl; shared_types = refl }) in
    record {
      known = numbered_known defs names num.count num.name_is;
      there = λ name j e. (all_below X num chain base_is m g).names_below name j e;
      sizes = λ s table laid name j node e at. let t = all_known X num chain base_is m g s table laid name j e in ap (λ (n : Node). n.size) (same_at at t.at) ∙ t.size_is;
      aligns = λ s table laid name j node e at. let t = all_known X num chain base_is m g s table laid name j e in ap (λ (n : Node). n.align) (same_at at t.at) ∙ t.align_is;
    }

-- the definitions, then the root, then what waits
pub all_planned : {names : List NamedNode} {defs : List Def} {v u w : Waits} {base j : ℕ} {b c : PlanLists} (X : Shape) (plan : Plan) → IsNumbered defs names (length defs) → Chained names (def_shapes defs) base v b
    → base ≡ start_of (def_shapes defs) (length defs) + count_of X → Compiled names (length b.nodes) X v u b c j → Finishes names u w c (lists_of plan) → IsPlan defs X plan j
all_planned {defs = defs} {base = base} X plan num chain base_is root rest =
    let front = chained_next chain root in
    let starts = ap (start_of (def_shapes defs)) (def_count defs) in
    planned X plan num (rest.chained (def_shapes defs ++ X ∷ []) base front) base_is root (omega (arith, chain.adds.count, chain.gives_count, starts)) rest.grows

-- where the definitions are in order, the root can be compiled behind them, and then all that waits
module _ {names : List NamedNode} {defs : List Def} {base : ℕ} {v : Waits} {b : PlanLists} {X : Shape} (num : IsNumbered defs names (length defs)) (chain : Chained names (def_shapes defs) base v b) (o : InOrder defs X) where
  root_begins : length b.nodes ≡ start_of (def_shapes defs) (length defs)
  root_begins = let starts = ap (start_of (def_shapes defs)) (def_count defs) in omega (arith, chain.adds.count, chain.gives_count, starts)

  pub root_can : {done : ℕ} → done ≡ length b.nodes → Can names done X
  root_can e = subst (λ n. Can names n X) (sym (e ∙ root_begins)) (can_root num o)

  pub finish_can : {u : Waits} {c : PlanLists} {j : ℕ} → Compiled names (length b.nodes) X v u b c j → CanFinish names u c
  finish_can root = record {
    known = root.known (chain.all_known (can_chain num o.definitions)) (root_can refl);
    below = λ name j e. omega (arith, all_before num name j e, root_begins, prefix_longer root.adds.grows.nodes);
  }

pub all_named : {names : List NamedNode} {defs : List Def} {v u w : Waits} {base j : ℕ} {b c : PlanLists} (X : Shape) (plan : Plan) → IsNumbered defs names (length defs) → Chained names (def_shapes defs) base v b
    → base ≡ start_of (def_shapes defs) (length defs) + count_of X → Compiled names (length b.nodes) X v u b c j → Finishes names u w c (lists_of plan) → HasNames defs names plan
all_named {defs = defs} {base = base} X plan num chain base_is root rest = names_planned X plan num (rest.chained (def_shapes defs ++ X ∷ []) base (chained_next chain root)) base_is
