-- What compiling pointers does, by cases.
use Rattle.std.proofs.Common.{◌≡◌, ℕ, refl, sym, ap, ◌∙◌, subst, ◌+◌, ◌<◌, ◌≤◌, arith, List, [], ◌∷◌, length, Some, None, Bool, true, false}
use Rattle.std.specs.Int.{w8}
use Rattle.archive_check.specs.declared.format.expr.FlavorInfo.{FlavorInfo}
use Rattle.archive_check.specs.declared.format.expr.Key.{Key as KeyExpr}
use Rattle.archive_schema.specs.declared.plan.PointeeKind.{PointeeKind}
use Rattle.archive_schema.specs.declared.plan.PointeeKind.TheVariants.{One, Run, Text, Entries}
use Rattle.archive_schema.specs.declared.plan.NodeKind.{NodeKind}
use Rattle.archive_schema.specs.declared.plan.NodeKind.TheVariants.{Free, Pointer as PointerNode, Shared, Weak, Str}
use Rattle.archive_check.specs.declared.context.positions.SharedType.{SharedType}
use Rattle.archive_schema.specs.declared.check.Checker.{Checker}
use Rattle.archive_schema.specs.declared.plan.growing.NamedNode.{NamedNode}
use Rattle.archive_check.specs.Shape.{unsigned, number, Shape, leaf, boxed, vec, sorted_map, str, shared, weak, Pointee, one, run, text}
use Rattle.archive_check.specs.Layout.{Layouts, size_of, align_of}
use Rattle.archive_check.specs.Reads.{SchemaTable}
use Rattle.archive_check.specs.Expressions.{flavor_of, key_of, pointee_of}
use Rattle.archive_check.specs.Words.Elements.{IsAt}
use Rattle.archive_schema.specs.check.Runs.{pointer_bytes}
use Rattle.archive_schema.specs.plan.SoundPlans.{NodeKindFits}
use Rattle.archive_schema.specs.plan.Represents.{Sized, Points, points_one, points_run, points_entries, points_text, Made, made_free, made_boxed, made_vec, made_map, made_str, made_shared, made_weak}
use Rattle.archive_check.specs.Words.BoundedSizes.{fits}
use Rattle.archive_check.specs.Measure.{measure_of}
use Rattle.archive_schema.specs.plan.Compilable.{Can, AllKnown}
use Rattle.archive_schema.specs.plan.CompileQueue.{Waits, measure_of_waits}
use Rattle.archive_schema.specs.plan.PlanGrowth.{PlanLists, IsPushed, IsTypeAdded}
use Rattle.archive_schema.specs.plan.Compiled.{counted, GrowsInto, Below, Settled, Given, Adds, Compiled, CompiledPointeeKind, CompiledPointee}
use Rattle.archive_schema.specs.plan.NodeCounts.{count_of}
use Rattle.archive_schema.proofs.plan.Compilable.{can_one, can_run, can_boxed, can_vec, can_map, can_shared, can_weak}
use Rattle.archive_check.proofs.Checks.PlainRuns.{plain_walk}
use Rattle.archive_check.proofs.BoundedSizes.{fits_some}
use Rattle.archive_schema.proofs.plan.GrowingPlans.{at_more, prefix_longer, grows_trans, pushed_grows, pushed_at, pushed_is, type_added_grows, type_added_at}
use Rattle.archive_schema.proofs.plan.AddedNodes.{adds_refl, adds_same, adds_push, compiled_push}

-- what a pointer leads to, as one value or as a run of them
pub leads_one : {names : List NamedNode} {X : Shape} {v w : Waits} {a : PlanLists} {j : ℕ} → CompiledPointeeKind names X v w a j → CompiledPointee names (one X) v w a a One j
leads_one t = record {
  gives = [];
  gives_count = refl;
  adds = t.adds;
  waits_few = omega (arith, t.waits_few);
  known = λ all can. t.known all (can_one can);
  below = λ m g. t.below m;
  size_is = refl;
  points = λ s shapes m g u given. points_one (t.sized s shapes m u) (t.stands s shapes m u);
}

pub leads_run : {names : List NamedNode} {X : Shape} {v w : Waits} {a : PlanLists} {j : ℕ} → CompiledPointeeKind names X v w a j → CompiledPointee names (run X) v w a a Run j
leads_run t = record {
  gives = [];
  gives_count = refl;
  adds = t.adds;
  waits_few = omega (arith, t.waits_few);
  known = λ all can. t.known all (can_run can);
  below = λ m g. t.below m;
  size_is = refl;
  points = λ s shapes m g u given. points_run (t.sized s shapes m u) (t.stands s shapes m u);
}

-- a byte of a text
abbrev byte : Shape
byte = leaf (number unsigned w8)

module _ {a b : PlanLists} {i : ℕ} (p : IsPushed a b (Some 1) 1 Free i) where
  byte_sized : (m : Checker) → GrowsInto b m → Sized m i 1 1
  byte_sized m g = record { node = p.node; at = at_more g.nodes (pushed_at p); size_is = p.size_is ∙ sym (fits_some 1 (omega arith)); align_is = p.align_is }

  byte_below : (m : Checker) → GrowsInto b m → i < length m.nodes.now
  byte_below m g = omega (arith, pushed_is p, prefix_longer g.nodes)

module _ {names : List NamedNode} {v : Waits} {a b : PlanLists} {i : ℕ} (p : IsPushed a b (Some 1) 1 Free i) where
  pub adds_byte : Adds names (byte ∷ []) v v a b
  adds_byte = adds_push (adds_refl names v a) byte p (λ m g w z e. tt) (λ s shapes m g t. sym (fits_some 1 (omega arith)))
      (λ s shapes m g t given k z e. made_free (λ bytes pending depth stop p start seen le. plain_walk s t.laid_out bytes byte p refl le)) (λ e. refl)

  pub leads_text : CompiledPointee names text v v a b Text i
  leads_text = record { gives = byte ∷ []; gives_count = refl; adds = adds_byte; waits_few = omega arith; known = λ all can. all; below = λ m g w. byte_below p m g; size_is = refl; points = λ s shapes m g t given. points_text }

target_few : (t : PointeeKind) → (4 ≤ pointer_bytes t) × (pointer_bytes t ≤ 8)
target_few One = (omega arith, omega arith)
target_few Run = (omega arith, omega arith)
target_few Text = (omega arith, omega arith)
target_few (Entries key) = (omega arith, omega arith)

module _ {names : List NamedNode} {gives : List Shape} {v w : Waits} {a b c : PlanLists} (f : Adds names gives v w a b) where
  compiled_pointer : {done : ℕ} {j : ℕ} {kind : NodeKind} (X : Shape) (size : ℕ) → IsPushed b c (Some size) 4 kind j → length gives + 1 ≡ count_of X → measure_of_waits w.items ≤ measure_of_waits v.items + measure_of X → (AllKnown names v.items → Can names done X → AllKnown names w.items) → 4 ≤ size → size ≤ 8
      → ((l : Layouts) → (size_of l X ≡ size) × (align_of l X ≡ 4))
      → ((m : Checker) → GrowsInto c m → Below names w.items m → (z : ℕ) → size ≤ z → NodeKindFits m (length b.nodes) z kind)
      → ((s : SchemaTable) (shapes : ℕ → Shape) (m : Checker) → GrowsInto c m → Settled names w.items s shapes m → Given shapes (length a.nodes) gives → Made s shapes m kind X)
      → Compiled names done X v w a c j
  compiled_pointer X size p count few known least most lay sound make = compiled_push f X p count few known
      (λ m l g k. let q = lay l in (sym (fits_some size (omega arith)) ∙ ap fits (sym q.0), sym q.1))
      (λ m g w z e. let same : size ≡ z = cc in sound m g w z (omega arith))
      (λ s shapes m g t given k z e. make s shapes m g t given)
      (λ e. let same : size ≡ 0 = cc in absurd (omega arith))

module _ {names : List NamedNode} {done : ℕ} {v w : Waits} {a b c : PlanLists} {j i : ℕ} where
  pub compiled_boxed : {P : Pointee} {target : PointeeKind} {size : ℕ} → CompiledPointee names P v w a b target i → size ≡ pointer_bytes target → IsPushed b c (Some size) 4 (PointerNode target i) j → Compiled names done (boxed P) v w a c j
  compiled_boxed {P} {target} {size} t es p = compiled_pointer t.adds (boxed P) size p (ap (λ n. n + 1) t.gives_count) (omega (arith, t.waits_few)) (λ all can. t.known all (can_boxed can)) (omega (arith, es, (target_few target).0)) (omega (arith, es, (target_few target).1))
      (λ l. (sym t.size_is ∙ sym es, refl)) (λ m g w z le. (omega (arith, es, le), t.below m (grows_trans (pushed_grows p) g) w))
      (λ s shapes m g u given. made_boxed (t.points s shapes m (grows_trans (pushed_grows p) g) u given))

module _ {names : List NamedNode} {done : ℕ} {v w : Waits} {a c : PlanLists} {j i : ℕ} where
  pub compiled_vec : {X : Shape} → CompiledPointeeKind names X v w a i → IsPushed a c (Some 8) 4 (PointerNode Run i) j → Compiled names done (vec X) v w a c j
  compiled_vec {X} t p = compiled_pointer t.adds (vec X) 8 p refl (omega (arith, t.waits_few)) (λ all can. t.known all (can_vec can)) (omega arith) (omega arith)
      (λ l. (refl, refl)) (λ m g w z le. (le, t.below m w))
      (λ s shapes m g u given. made_vec (points_run (t.sized s shapes m u) (t.stands s shapes m u)))

  pub compiled_map : {key : KeyExpr} {V : Shape} → CompiledPointeeKind names V v w a i → IsPushed a c (Some 8) 4 (PointerNode (Entries key) i) j → Compiled names done (sorted_map (key_of key) V) v w a c j
  compiled_map {key} {V} t p = compiled_pointer t.adds (sorted_map (key_of key) V) 8 p refl (omega (arith, t.waits_few)) (λ all can. t.known all (can_map can)) (omega arith) (omega arith)
      (λ l. (refl, refl)) (λ m g w z le. (le, t.below m w))
      (λ s shapes m g u given. made_map (points_entries (t.sized s shapes m u) (t.stands s shapes m u)))

module _ {names : List NamedNode} {done : ℕ} {v : Waits} {a b c : PlanLists} {j i : ℕ} where
  pub compiled_str : IsPushed a b (Some 1) 1 Free i → IsPushed b c (Some 8) 4 (Str i) j → Compiled names done str v v a c j
  compiled_str q p = compiled_pointer (adds_byte q) str 8 p refl (omega arith) (λ all can. all) (omega arith) (omega arith)
      (λ l. (refl, refl)) (λ m g w z le. (le, byte_below q m (grows_trans (pushed_grows p) g)))
      (λ s shapes m g u given. made_str (byte_sized q m (grows_trans (pushed_grows p) g)))

module _ {names : List NamedNode} {v w : Waits} {a b c : PlanLists} {i k : ℕ} {P : Pointee} {target : PointeeKind} {shared_type : SharedType} {flavor : FlavorInfo}
    (t : CompiledPointee names P v w a b target i) (q : IsTypeAdded b c shared_type k) (ef : shared_type.flavor ≡ flavor) (ep : pointee_of shared_type.pointee ≡ P) where
  shared_adds : Adds names t.gives v w a c
  shared_adds = adds_same t.adds (type_added_grows q) q.nodes

  module _ (m : Checker) (g : GrowsInto c m) where
    over : GrowsInto b m
    over = grows_trans (type_added_grows q) g

    shared_type_at : IsAt m.shared_types.now k shared_type
    shared_type_at = at_more g.shared_types (type_added_at q)

    shared_type_points : {s : SchemaTable} {shapes : ℕ → Shape} → Settled names w.items s shapes m → Given shapes (length a.nodes) t.gives → Points s shapes m target None i (pointee_of shared_type.pointee)
    shared_type_points {s} {shapes} u given = subst (λ Q. Points s shapes m target None i Q) (sym ep) (t.points s shapes m over u given)

  module _ {done : ℕ} {d : PlanLists} {j : ℕ} where
    pub compiled_shared : {size : ℕ} → size ≡ pointer_bytes target → IsPushed c d (Some size) 4 (Shared k target i) j → Compiled names done (shared (flavor_of flavor) P) v w a d j
    compiled_shared {size} es p = compiled_pointer shared_adds (shared (flavor_of flavor) P) size p (ap (λ n. n + 1) t.gives_count) (omega (arith, t.waits_few)) (λ all can. t.known all (can_shared can)) (omega (arith, es, (target_few target).0)) (omega (arith, es, (target_few target).1))
        (λ l. (sym t.size_is ∙ sym es, refl))
        (λ m g w z le. let h = grows_trans (pushed_grows p) g in let there = shared_type_at m h in (omega (arith, es, le), there.below, t.below m (over m h) w))
        (λ s shapes m g u given. let h = grows_trans (pushed_grows p) g in
        let made : Made s shapes m (Shared k target i) (shared (flavor_of shared_type.flavor) (pointee_of shared_type.pointee)) = made_shared (shared_type_at m h) (shared_type_points m h u given) in
        subst (λ F. Made s shapes m (Shared k target i) (shared (flavor_of F) P)) ef (subst (λ Q. Made s shapes m (Shared k target i) (shared (flavor_of shared_type.flavor) Q)) ep made))

    pub compiled_weak : {size : ℕ} → size ≡ pointer_bytes target → IsPushed c d (Some size) 4 (Weak k target i) j → Compiled names done (weak (flavor_of flavor) P) v w a d j
    compiled_weak {size} es p = compiled_pointer shared_adds (weak (flavor_of flavor) P) size p (ap (λ n. n + 1) t.gives_count) (omega (arith, t.waits_few)) (λ all can. t.known all (can_weak can)) (omega (arith, es, (target_few target).0)) (omega (arith, es, (target_few target).1))
        (λ l. (sym t.size_is ∙ sym es, refl))
        (λ m g w z le. let h = grows_trans (pushed_grows p) g in let there = shared_type_at m h in (omega (arith, es, le), there.below, t.below m (over m h) w))
        (λ s shapes m g u given. let h = grows_trans (pushed_grows p) g in
        let made : Made s shapes m (Weak k target i) (weak (flavor_of shared_type.flavor) (pointee_of shared_type.pointee)) = made_weak (shared_type_at m h) (shared_type_points m h u given) in
        subst (λ F. Made s shapes m (Weak k target i) (weak (flavor_of F) P)) ef (subst (λ Q. Made s shapes m (Weak k target i) (weak (flavor_of shared_type.flavor) Q)) ep made))

    pub compiled_counted : (is_weak : Bool) {size : ℕ} {kind : NodeKind} → size ≡ pointer_bytes target → (is_weak ≡ true → kind ≡ Weak k target i) → (is_weak ≡ false → kind ≡ Shared k target i) → IsPushed c d (Some size) 4 kind j
        → Compiled names done (counted is_weak (flavor_of flavor) P) v w a d j
    compiled_counted true {size} es as_weak as_shared p = compiled_weak es (subst (λ x. IsPushed c d (Some size) 4 x j) (as_weak refl) p)
    compiled_counted false {size} es as_weak as_shared p = compiled_shared es (subst (λ x. IsPushed c d (Some size) 4 x j) (as_shared refl) p)
