-- What compiling does, by cases.
use Rattle.std.proofs.Common.{◌≡◌, ◌⊎◌, inl, inr, ⊎_elim, ℕ, zero, suc, refl, sym, ap, ◌∙◌, subst, ◌+◌, ◌-◌, ◌<◌, ◌≤◌, arith, List, [], ◌∷◌, length, drop, Bool, true, Option, Some, None, mul_comm, Bor}
use Rattle.archive_check.specs.declared.format.expr.Kind.{Kind as KindExpr}
use Rattle.archive_schema.specs.declared.plan.NodeKind.TheVariants.{Free, Leaf, Record, Choice, Array}
use Rattle.archive_schema.specs.declared.plan.Node.{Node}
use Rattle.archive_schema.specs.declared.plan.Part.{Part as PlanPart}
use Rattle.archive_schema.specs.declared.check.Checker.{Checker}
use Rattle.archive_schema.specs.declared.plan.growing.NamedNode.{NamedNode}
use Rattle.archive_schema.specs.declared.plan.growing.LaidRange.{LaidRange}
use Rattle.archive_check.specs.Shape.{Name, Kind, Shape, leaf, parts, choice, array, named, Parts, Variants}
use Rattle.archive_check.specs.Layout.{Layouts, up, size_of, align_of, kind_size, kind_align, parts_end, variants_end}
use Rattle.archive_check.specs.Words.PlainData.{is_plain_kind}
use Rattle.archive_check.specs.Reads.{SchemaTable}
use Rattle.archive_check.specs.Walk.{walk_parts, walk_array, walk_none}
use Rattle.archive_check.specs.Expressions.{kind_of}
use Rattle.archive_check.specs.Words.Elements.{IsAt, span}
use Rattle.archive_schema.specs.check.Runs.{IsNode, Takes}
use Rattle.archive_check.specs.Words.BoundedSizes.{times, fits, rounded}
use Rattle.archive_schema.specs.plan.SoundPlans.{PartsWithin, SpanFits, ArrayFits}
use Rattle.archive_schema.specs.plan.Represents.{Made, made_free, made_leaf, made_record, made_choice, made_array}
use Rattle.archive_schema.specs.plan.CompileQueue.{Waits}
use Rattle.archive_schema.specs.plan.PlanGrowth.{node_of, PlanLists, IsMade}
use Rattle.archive_schema.specs.plan.Compiled.{GrowsInto, NamesSized, Settled, Given, MadeTo, Compiled, IsPartWithin, CompiledParts, CompiledVariants}
use Rattle.archive_schema.proofs.plan.Compilable.{can_parts, can_choice, can_array}
use Rattle.archive_check.proofs.Checks.PlainRuns.{plain_walk}
use Rattle.archive_check.proofs.BoundedSizes.{fits_some, some_is, rounded_fits, rounded_some, times_none, times_fits}
use Rattle.archive_schema.proofs.plan.GrowingPlans.{at_more, prefix_longer, grows_trans, pushed_grows}
use Rattle.archive_check.proofs.Elements.{same_at, at_dropped, at_taken}
use Rattle.archive_schema.proofs.plan.AddedNodes.{knows_settled, adds_refl, compiled_made, stands_of}
use Rattle.archive_schema.proofs.plan.FreeWalks.{kind_few, empty_plain, AnyBytes, any_stands, any_parts, any_run}
use Rattle.archive_check.proofs.Tours.PartsInside.{up_le}
use Rattle.std.proofs.Math.Nat.{eq_of_mul-eq-mul_right, zero-mul}

-- a leaf
leaf_free : (k : Kind) (z : ℕ) → Some (kind_size k) ≡ Some z → (is_plain_kind k ≡ true) ⊎ (z ≡ 0) → is_plain_kind k ≡ true
leaf_free k z e (inl h) = h
leaf_free k z e (inr h) = let same : kind_size k ≡ z = cc in empty_plain k (same ∙ h)

pub compiled_leaf : {names : List NamedNode} {done : ℕ} {v : Waits} {a c : PlanLists} (kind : KindExpr) {j : ℕ} → IsMade a c (Some (kind_size (kind_of kind))) (kind_align (kind_of kind)) (is_plain_kind (kind_of kind)) (Leaf kind) j
    → Compiled names done (leaf (kind_of kind)) v v a c j
compiled_leaf {names = names} {v = v} {a = a} kind p = compiled_made (adds_refl names v a) (leaf (kind_of kind)) p refl (omega arith) (λ all can. all)
    (λ m l g k. (sym (fits_some (kind_size (kind_of kind)) (kind_few (kind_of kind))), refl))
    (λ m g w z e pos. let same : kind_size (kind_of kind) ≡ z = cc in omega (arith, same))
    (λ s shapes m g t given k z e h. made_free (λ bytes pending depth stop p start seen le. plain_walk s t.laid_out bytes (leaf (kind_of kind)) p (leaf_free (kind_of kind) z e h) le))
    (λ s shapes m g t given z e pos. made_leaf)

-- parts that lie in a node's bytes
all_within : (m : Checker) (i z : ℕ) (xs : List PlanPart) → ((k : ℕ) (x : PlanPart) → IsAt xs k x → IsPartWithin m i z x) → PartsWithin m i z xs
all_within m i z [] h = tt
all_within m i z (x ∷ xs) h =
    let f = h 0 x (record { below = omega arith; is = refl }) in
    ((f.size, f.earlier, f.takes, f.within), all_within m i z xs (λ k y at. h (k + 1) y (let e : suc k ≡ k + 1 = omega arith in subst (λ j. IsAt (x ∷ xs) j y) e (record { below = omega (arith, at.below); is = at.is }))))

pub span_within : {m : Checker} {i z a b : ℕ} → b ≤ length m.parts.now → b < 18446744073709551616 → ((k : ℕ) (x : PlanPart) → a ≤ k → k < b → IsAt m.parts.now k x → IsPartWithin m i z x) → SpanFits m i z a b
span_within {m} {i} {z} {a} {b} last few h = record {
  last = last;
  few = few;
  within = all_within m i z (span m.parts.now a b) (λ k x at.
      let t = at_taken (b - a) (drop a m.parts.now) k x at in h (a + k) x (omega arith) (omega (arith, t.0)) (at_dropped a m.parts.now k x t.1));
}

pub fits_wider : {m : Checker} {i k z y : ℕ} {x : PlanPart} → i ≤ k → z ≤ y → IsPartWithin m i z x → IsPartWithin m k y x
fits_wider h w p = record { size = p.size; earlier = omega (arith, p.earlier); takes = p.takes; within = omega (arith, p.within) }

within_wider : (m : Checker) (i k z y : ℕ) → i ≤ k → z ≤ y → (xs : List PlanPart) → PartsWithin m i z xs → PartsWithin m k y xs
within_wider m i k z y h w [] p = tt
within_wider m i k z y h w (x ∷ xs) p = let q = p.0 in ((q.0, omega (arith, q.1), q.2, omega (arith, q.3)), within_wider m i k z y h w xs p.1)

pub span_wider : {m : Checker} {i k z y a b : ℕ} → i ≤ k → z ≤ y → SpanFits m i z a b → SpanFits m k y a b
span_wider {m} {i} {k} {z} {y} {a} {b} h w s = record { last = s.last; few = s.few; within = within_wider m i k z y h w (span m.parts.now a b) s.within }

module _ {names : List NamedNode} {done : ℕ} {v w : Waits} {a b : PlanLists} where
  parts_are_free : {ps : Parts} {laid : LaidRange} {s : SchemaTable} {shapes : ℕ → Shape} {m : Checker} {z e : ℕ} → (f : CompiledParts names done 0 ps v w a b laid) → GrowsInto b m → MadeTo s shapes m (length b.nodes)
      → laid.end ≡ Some e → e ≤ z → (laid.free ≡ true) ⊎ (z ≡ 0)
      → (k : ℕ) (x : PlanPart) → laid.first ≤ k → k < laid.last → IsAt m.parts.now k x → IsNode m x.node Free × (x.node < length b.nodes)
  parts_are_free {m = m} f g made end le (inl h) k x from to at = (f.parts_free h m g k x from to at, (f.parts_fit m g _ end k x from to at).earlier)
  parts_are_free {m = m} f g made end le (inr h) k x from to at =
      let fit = f.parts_fit m g _ end k x from to at in
      let none : fit.size ≡ 0 = omega (arith, fit.within) in
      let t = fit.takes in
      (record { node = t.node; at = t.at; kind_is = made.empty x.node t.node fit.earlier t.at (t.size_is ∙ ap Some none) }, fit.earlier)

module _ {names : List NamedNode} {done : ℕ} {v w : Waits} {a b c : PlanLists} where
  -- parts
  pub compiled_record : {ps : Parts} {laid : LaidRange} {size : Option ℕ} {j : ℕ} → CompiledParts names done 0 ps v w a b laid → size ≡ rounded laid.end laid.align
      → IsMade b c size laid.align laid.free (Record laid.first laid.last) j → Compiled names done (parts ps) v w a c j
  compiled_record {ps = ps} {laid = laid} {size = size} f es p =
      let grown = pushed_grows p.pushed in
      let split : (z : ℕ) → size ≡ Some z → (e : ℕ) × (laid.end ≡ Some e) × (e ≤ z) × (z ≡ up e laid.align) = λ z e. rounded_some laid.end laid.align z f.positive (sym es ∙ e) in
      compiled_made f.adds (parts ps) p (ap (λ n. n + 1) f.gives_count) (omega (arith, f.waits_few)) (λ all can. f.known all (can_parts can))
      (λ m l g n. let k = f.lays m l (grows_trans grown g) n in
      (es ∙ ap (λ o. rounded o laid.align) k.0 ∙ rounded_fits (parts_end l 0 ps) laid.align f.positive ∙ ap (λ x. fits (up (parts_end l 0 ps) x)) k.1, k.1))
      (λ m g w z e pos. let q = split z e in (
        pos,
        span_within (omega (arith, f.last, prefix_longer grown.parts, prefix_longer g.parts)) f.few
            (λ k x from to at. fits_wider (omega arith) q.2 (f.parts_fit m (grows_trans grown g) q.0 q.1 k x from to at)),
      ))
      (λ s shapes m g t given k z e h. let q = split z e in
      let over = grows_trans grown g in
      let lays = f.lays m s.layouts over (knows_settled done t) in
      let whole : q.0 ≡ parts_end s.layouts 0 ps = sym (some_is (sym lays.0 ∙ q.1)) in
      made_free (λ bytes pending depth stop p start seen le. walk_parts (any_parts k t.laid_out (f.stand s shapes m over t given q.0 q.1) (parts_are_free f over k q.1 q.2 h) bytes pending depth stop p start seen
      (omega (arith, up_le (parts_end s.layouts 0 ps) laid.align f.positive, ap (λ x. up (parts_end s.layouts 0 ps) x) lays.1, le)))))
      (λ s shapes m g t given z e pos. let q = split z e in made_record (f.stand s shapes m (grows_trans grown g) t given q.0 q.1))

  -- variants
  pub compiled_choice : {name : Bor (List ℕ)} {vs : Variants} {laid : LaidRange} {size : Option ℕ} {free : Bool} {j : ℕ} → CompiledVariants names done vs v w a b laid → size ≡ rounded laid.end laid.align → (free ≡ true → ⊥)
      → IsMade b c size laid.align free (Choice name laid.first laid.last) j → Compiled names done (choice name.now vs) v w a c j
  compiled_choice {name = name} {vs = vs} {laid = laid} {size = size} f es never p =
      let grown = pushed_grows p.pushed in
      let split : (z : ℕ) → size ≡ Some z → (e : ℕ) × (laid.end ≡ Some e) × (e ≤ z) × (z ≡ up e laid.align) = λ z e. rounded_some laid.end laid.align z f.positive (sym es ∙ e) in
      compiled_made f.adds (choice name.now vs) p (ap (λ n. n + 1) f.gives_count) (omega (arith, f.waits_few)) (λ all can. f.known all (can_choice can))
      (λ m l g n. let k = f.lays m l (grows_trans grown g) n in
      (es ∙ ap (λ o. rounded o laid.align) k.0 ∙ rounded_fits (variants_end l vs) laid.align f.positive ∙ ap (λ x. fits (up (variants_end l vs) x)) k.1, k.1))
      (λ m g w z e pos. let q = split z e in
      record {
        tag = pos;
        last = omega (arith, f.last, prefix_longer grown.variants, prefix_longer g.variants);
        few = f.few;
        fits = λ k x from to at. span_wider (omega arith) q.2 (f.variants_fit m (grows_trans grown g) q.0 q.1 k x from to at);
      })
      (λ s shapes m g t given k z e h. let q = split z e in ⊎_elim (λ y. absurd (never y)) (λ y. absurd (omega (arith, f.tag q.0 q.1, q.2, y))) h)
      (λ s shapes m g t given z e pos. let q = split z e in made_choice (f.stand s shapes m (grows_trans grown g) t given q.0 q.1) f.others)

-- elements
module _ {names : List NamedNode} {done : ℕ} {v w : Waits} {a b : PlanLists} {X : Shape} {element : ℕ} (f : Compiled names done X v w a b element) {here : Node} (at : IsAt b.nodes element here) where
  element_sized : (m : Checker) (l : Layouts) → GrowsInto b m → NamesSized names l done m → (here.size ≡ fits (size_of l X)) × (here.align ≡ align_of l X)
  element_sized m l g k = let q = f.lays m l g k in let same = same_at (at_more g.nodes at) q.at in (ap (λ (w : Node). w.size) same ∙ q.size_is, ap (λ (w : Node). w.align) same ∙ q.align_is)

  array_fits : (m : Checker) → GrowsInto b m → (size : Option ℕ) (n z : ℕ) → here.size ≡ size → n < 18446744073709551616 → times size n ≡ Some z → 0 < z → ArrayFits m (length b.nodes) z n element
  array_fits m g None zero z i few e pos = absurd (let same : 0 ≡ z = cc in omega (arith, same))
  array_fits m g None (suc n) z i few e pos = absurd (let q = times_none (suc n) (omega arith) in cc)
  array_fits m g (Some y) n z i few e pos = record { element = y; earlier = at.below; few = few; takes = record { node = here; at = at_more g.nodes at; size_is = i }; within = omega (arith, mul_comm n y, some_is e) }

  element_free : {s : SchemaTable} {shapes : ℕ → Shape} {m : Checker} → GrowsInto b m → Settled names w.items s shapes m → Given shapes (length a.nodes) f.gives → MadeTo s shapes m (length b.nodes)
      → (size : Option ℕ) (free : Bool) (n z : ℕ) → here.size ≡ size → times size n ≡ Some z → (free ≡ true → here.kind ≡ Free) → (free ≡ true) ⊎ (z ≡ 0) → Made s shapes m Free (array n X)
  element_free g t given k size free zero z i e kind h = made_free (λ bytes pending depth stop p start seen le. walk_array walk_none)
  element_free g t given k None free (suc n) z i e kind h = absurd (let q = times_none (suc n) (omega arith) in cc)
  element_free {s} {shapes} {m} g t given k (Some y) free (suc n) z i e kind h =
      let at_m = at_more g.nodes at in
      let is_free : here.kind ≡ Free = ⊎_elim (λ q. kind q) (λ q. k.empty element here at.below at_m (i ∙ ap Some (eq_of_mul-eq-mul_right (suc n) (omega arith) y 0 (some_is e ∙ q ∙ sym (zero-mul (suc n)))))) h in
      let is_size : size_of s.layouts X ≡ y = some_is (sym (element_sized m s.layouts g (knows_settled done t)).0 ∙ i) in
      let any : AnyBytes s X y = any_stands k (stands_of f t given) at.below here y at_m is_free i in
      let any_element : AnyBytes s X (size_of s.layouts X) = subst (λ w. AnyBytes s X w) (sym is_size) any in
      made_free (λ bytes pending depth stop p start seen le. walk_array (any_run any_element (suc n) bytes pending depth stop p start seen le))

  element_takes : {s : SchemaTable} {shapes : ℕ → Shape} {m : Checker} → GrowsInto b m → Settled names w.items s shapes m → (size : Option ℕ) (n z : ℕ) → here.size ≡ size → times size n ≡ Some z → 0 < z → Takes m element (size_of s.layouts X)
  element_takes {s} {shapes} {m} g t None zero z i e pos = absurd (let same : 0 ≡ z = cc in omega (arith, same))
  element_takes {s} {shapes} {m} g t None (suc n) z i e pos = absurd (let q = times_none (suc n) (omega arith) in cc)
  element_takes {s} {shapes} {m} g t (Some y) n z i e pos =
      let is_size : size_of s.layouts X ≡ y = some_is (sym (element_sized m s.layouts g (knows_settled done t)).0 ∙ i) in
      record { node = here; at = at_more g.nodes at; size_is = i ∙ ap Some (sym is_size) }

pub compiled_array : {names : List NamedNode} {done : ℕ} {v w : Waits} {a b c : PlanLists} {X : Shape} {n element j : ℕ} {here : Node} {free : Bool} {size : Option ℕ} → Compiled names done X v w a b element → IsAt b.nodes element here
    → n < 18446744073709551616 → size ≡ times here.size n → (free ≡ true → here.kind ≡ Free) → IsMade b c size here.align free (Array n element) j → Compiled names done (array n X) v w a c j
compiled_array {done = done} {X = X} {n = n} {here = here} {free = free} f at few es kind p =
    let grown = pushed_grows p.pushed in
    compiled_made f.adds (array n X) p (ap (λ n. n + 1) f.gives_count) (omega (arith, f.waits_few)) (λ all can. f.known all (can_array can))
    (λ m l g k. let q = element_sized f at m l (grows_trans grown g) k in (es ∙ ap (λ o. times o n) q.0 ∙ times_fits (size_of l X) n, q.1))
    (λ m g w z e pos. (pos, array_fits f at m (grows_trans grown g) here.size n z refl few (sym es ∙ e) pos))
    (λ s shapes m g t given k z e h. element_free f at (grows_trans grown g) t given k here.size free n z refl (sym es ∙ e) kind h)
    (λ s shapes m g t given z e pos. made_array (stands_of f t given) (element_takes f at (grows_trans grown g) t here.size n z refl (sym es ∙ e) pos))

-- a name
pub compiled_name : {names : List NamedNode} {done : ℕ} {name : Name} {v : Waits} {a : PlanLists} {j : ℕ} → done ≤ length a.nodes → node_of names name ≡ Some j → j < done → Compiled names done (named name) v v a a j
compiled_name {names = names} {name = name} {v = v} {a = a} {j = j} le e h = record {
  gives = [];
  gives_count = refl;
  adds = adds_refl names v a;
  waits_few = omega arith;
  known = λ all can. all;
  below = omega (arith, le, h);
  root = inl (name, refl, e);
  lays = λ m l g k. k name j e h;
}
