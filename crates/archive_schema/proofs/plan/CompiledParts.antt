-- Parts and variants, laid out one after another.
use Rattle.std.proofs.Common.{◌≡◌, ◌⊎◌, inl, inr, ⊎_elim, ℕ, suc, refl, sym, ap, ap₂, ◌∙◌, subst, ◌+◌, ◌-◌, ◌<◌, ◌≤◌, max, arith, List, [], ◌∷◌, ◌++◌, length, Bool, true, false, ◌&&◌, Option, Some, length-append}
use Rattle.archive_schema.specs.declared.plan.NodeKind.{NodeKind}
use Rattle.archive_schema.specs.declared.plan.NodeKind.TheVariants.{Free}
use Rattle.archive_schema.specs.declared.plan.Node.{Node}
use Rattle.archive_schema.specs.declared.plan.Part.{Part as PlanPart}
use Rattle.archive_schema.specs.declared.plan.Span.{Span}
use Rattle.archive_schema.specs.declared.check.Checker.{Checker}
use Rattle.archive_schema.specs.declared.plan.growing.NamedNode.{NamedNode}
use Rattle.archive_schema.specs.declared.plan.growing.LaidParts.{LaidParts}
use Rattle.archive_schema.specs.declared.plan.growing.LaidVariants.{LaidVariants}
use Rattle.archive_schema.specs.declared.plan.growing.LaidRange.{LaidRange}
use Rattle.archive_check.specs.Shape.{Shape, Parts, no_part, part, Variants, no_variant, variant, variant_at}
use Rattle.archive_check.specs.Layout.{Layouts, up, size_of, align_of, parts_end, parts_align, variants_end}
use Rattle.archive_check.specs.Reads.{SchemaTable}
use Rattle.archive_check.specs.Words.Elements.{IsAt}
use Rattle.archive_schema.specs.check.Runs.{IsNode, Takes}
use Rattle.archive_schema.specs.plan.SoundPlans.{SpanFits}
use Rattle.archive_schema.specs.plan.Represents.{NodeStandsFor, PartsStand, parts_over, parts_more}
use Rattle.archive_check.specs.Words.BoundedSizes.{fits, rounded}
use Rattle.archive_schema.specs.plan.BoundedSizes.{sum_of, greater_of}
use Rattle.archive_schema.specs.plan.CompileQueue.{Waits}
use Rattle.archive_schema.specs.plan.PlanGrowth.{PlanLists, IsPartAdded, IsVariantAdded, PartsLaid, VariantsLaid}
use Rattle.archive_schema.specs.plan.Shallow.{is_free}
use Rattle.archive_schema.specs.plan.Compiled.{GrowsInto, NamesSized, Settled, Given, Compiled, IsPartWithin, RowIs, CompiledParts, VariantStands, SpansAre, CompiledVariants}
use Rattle.archive_check.proofs.BoundedSizes.{fits_some, some_is, rounded_fits, rounded_some}
use Rattle.archive_schema.proofs.plan.BoundedSizes.{sum_fits, sum_some, greater_fits, greater_some}
use Rattle.archive_schema.proofs.plan.GrowingPlans.{at_more, at_less, prefix_longer, grows_trans, extended_grows, part_at, part_of, span_of}
use Rattle.archive_check.proofs.Elements.{at_last, at_end, same_at}
use Rattle.archive_schema.proofs.plan.AddedNodes.{given_first, given_second, settled_less, knows_settled, adds_refl, adds_trans, adds_same, stands_of}
use Rattle.archive_schema.proofs.plan.Compilable.{can_first, can_later, can_variant, can_others}
use Rattle.archive_schema.proofs.plan.Compiled.{fits_wider, span_within, span_wider}
use Rattle.archive_schema.proofs.plan.ShallowMarks.{kind_free}
use Rattle.archive_check.proofs.Names.PositiveAlignments.{parts_align_pos, variants_align_pos}

pub ends_positive : (l : Layouts) (vs : Variants) → 0 < variants_end l vs
ends_positive l no_variant = omega arith
ends_positive l (variant ps vs) = omega (arith, ends_positive l vs)

both_free : (free : Bool) (kind : NodeKind) → (free && is_free kind) ≡ true → (free ≡ true) × (kind ≡ Free)
both_free true kind h = (refl, kind_free kind h)
both_free false kind h = cc

-- no part yet
pub row_start : {names : List NamedNode} {done : ℕ} (start : ℕ) {v : Waits} {a : PlanLists} (ps : Parts) (row : List PlanPart) (end : Option ℕ) (align : ℕ) (free : Bool) → start < 18446744073709551616 → row ≡ [] → end ≡ Some start → align ≡ 1
    → RowIs names done start ps ps v v a a row end align free
row_start {names = names} start {v = v} {a = a} ps row end align free few none e one = record {
  gives = [];
  adds = adds_refl names v a;
  waits_few = omega arith;
  known = λ all can. all;
  can_rest = λ can. can;
  left = omega arith;
  positive = omega arith;
  row_fits = λ m g e q k x at. absurd (let at_none : IsAt [] k x = subst (λ r. IsAt r k x) none at in omega (arith, at_none.below));
  row_free = λ h m g k x at. absurd (let at_none : IsAt [] k x = subst (λ r. IsAt r k x) none at in omega (arith, at_none.below));
  lays = λ m l g n. ((start, e ∙ sym (fits_some start few), refl), omega (arith, parts_align_pos l ps));
  stand = λ s shapes m g t given z ez first last placed room rest.
      let same : start ≡ z = cc in
      let here : first + length row ≡ first = omega (arith, ap length none) in
      subst (λ f. PartsStand s shapes m f last start ps) here (subst (λ w. PartsStand s shapes m (first + length row) last w ps) (sym same) rest);
}

module _ {names : List NamedNode} {done start : ℕ} {all rest : Parts} {v w u : Waits} {a b c : PlanLists} {X : Shape} {row next : LaidParts} {node : ℕ} {here : Node}
    (r : RowIs names done start all (part X rest) v w a b row.parts.items row.extent.end row.extent.align row.free) (f : Compiled names done X w u b c node) (at : IsAt c.nodes node here) (p : IsPartAdded node here row next) where
  longer : length next.parts.items ≡ length row.parts.items + 1
  longer = ap length p.parts_are ∙ length-append row.parts.items (p.last ∷ [])

  -- where the part begins, and how far the parts before it reach
  next_split : (e : ℕ) → next.extent.end ≡ Some e → (o : ℕ) × (y : ℕ) × (w : ℕ) × (p.offset ≡ Some o) × (here.size ≡ Some y) × (o + y ≡ e) × (row.extent.end ≡ Some w) × (w ≤ o) × (o ≡ up w here.align) × (p.last.offset ≡ o)
  next_split e q =
      let s = sum_some p.offset here.size e (sym p.end_is ∙ q) in
      let old = rounded_some row.extent.end here.align s.0 here.positive (sym p.offset_is ∙ s.2) in
      (s.0, s.1, old.0, s.2, s.3, s.4, old.1, old.2, old.3, p.begins s.0 s.2)

  here_sized : (m : Checker) (l : Layouts) → GrowsInto c m → NamesSized names l done m → (here.size ≡ fits (size_of l X)) × (here.align ≡ align_of l X)
  here_sized m l g k = let q = f.lays m l g k in let same = same_at (at_more g.nodes at) q.at in (ap (λ (w : Node). w.size) same ∙ q.size_is, ap (λ (w : Node). w.align) same ∙ q.align_is)

  -- a part of the longer row is an old one, or the new one
  row_cases : (k : ℕ) (x : PlanPart) → IsAt next.parts.items k x → IsAt row.parts.items k x ⊎ (x ≡ p.last)
  row_cases k x h =
      let i : IsAt (row.parts.items ++ p.last ∷ []) k x = subst (λ t. IsAt t k x) p.parts_are h in
      ⊎_elim (λ lt. inl (at_less (record { more = p.last ∷ []; is = refl }) lt i)) (λ q. inr q.1) (at_last row.parts.items p.last x k i)

  next_fits : (m : Checker) → GrowsInto c m → (e : ℕ) → next.extent.end ≡ Some e → (k : ℕ) (x : PlanPart) → IsAt next.parts.items k x → IsPartWithin m (length c.nodes) e x
  next_fits m g e q k x h =
      let s = next_split e q in
      ⊎_elim
      (λ i. fits_wider (omega (arith, f.adds.count)) (omega (arith, s.5, s.7)) (r.row_fits m (grows_trans f.adds.grows g) s.2 s.6 k x i))
      (λ i. subst (λ (t : PlanPart). IsPartWithin m (length c.nodes) e t) (sym i)
      (record { size = s.1; earlier = omega (arith, p.node_is, f.below); takes = record { node = here; at = subst (λ i. IsAt m.nodes.now i here) (sym p.node_is) (at_more g.nodes at); size_is = s.4 }; within = omega (arith, s.5, s.9) }))
      (row_cases k x h)

  next_free : next.free ≡ true → (m : Checker) → GrowsInto c m → (k : ℕ) (x : PlanPart) → IsAt next.parts.items k x → IsNode m x.node Free
  next_free h m g k x i =
      let w = both_free row.free here.kind (sym p.free_is ∙ h) in
      ⊎_elim
      (λ j. r.row_free w.0 m (grows_trans f.adds.grows g) k x j)
      (λ j. subst (λ (t : PlanPart). IsNode m t.node Free) (sym j) (record { node = here; at = subst (λ i. IsAt m.nodes.now i here) (sym p.node_is) (at_more g.nodes at); kind_is = w.1 }))
      (row_cases k x i)

  next_lays : (m : Checker) (l : Layouts) → GrowsInto c m → NamesSized names l done m
      → ((at : ℕ) × (next.extent.end ≡ fits at) × (parts_end l start all ≡ parts_end l at rest)) × (parts_align l all ≡ max next.extent.align (parts_align l rest))
  next_lays m l g n =
      let before = r.lays m l (grows_trans f.adds.grows g) n in
      let q = here_sized m l g n in
      let al = q.1 in (
        (
          up before.0.0 (align_of l X) + size_of l X,
          p.end_is ∙ ap₂ sum_of (p.offset_is ∙ ap (λ o. rounded o here.align) before.0.1 ∙ rounded_fits before.0.0 here.align here.positive ∙ ap (λ w. fits (up before.0.0 w)) al) q.0 ∙ sum_fits (up before.0.0 (align_of l X)) (size_of l X),
          before.0.2,
        ),
        omega (arith, before.1, al, p.align_is),
      )

  next_stand : (s : SchemaTable) (shapes : ℕ → Shape) (m : Checker) → GrowsInto c m → Settled names u.items s shapes m → Given shapes (length a.nodes) (r.gives ++ f.gives)
      → (e : ℕ) → next.extent.end ≡ Some e → (first last : ℕ) → ((k : ℕ) (x : PlanPart) → IsAt next.parts.items k x → IsAt m.parts.now (first + k) x) → first + length next.parts.items ≤ last
      → PartsStand s shapes m (first + length next.parts.items) last e rest → PartsStand s shapes m first last start all
  next_stand s shapes m g t given e q first last placed room tail =
      let over = grows_trans f.adds.grows g in
      let w = next_split e q in
      let k = length row.parts.items in
      let lays = here_sized m s.layouts g (knows_settled done t) in
      let size : size_of s.layouts X ≡ w.1 = some_is (sym lays.0 ∙ w.4) in
      let offset : w.0 ≡ up w.2 (align_of s.layouts X) = w.8 ∙ ap (λ x. up w.2 x) lays.1 in
      let there : IsAt m.parts.now (first + k) p.last = placed k p.last (subst (λ xs. IsAt xs k p.last) (sym p.parts_are) (at_end row.parts.items p.last)) in
      let stands : NodeStandsFor s shapes X p.last.node = subst (λ i. NodeStandsFor s shapes X i) (sym p.node_is) (stands_of f t (given_second r.gives (length b.nodes) r.adds.count given)) in
      let takes : Takes m p.last.node (size_of s.layouts X) = record { node = here; at = subst (λ i. IsAt m.nodes.now i here) (sym p.node_is) (at_more g.nodes at); size_is = w.4 ∙ ap Some (sym size) } in
      let behind : first + length next.parts.items ≡ first + k + 1 = omega (arith, longer) in
      let ends : e ≡ up w.2 (align_of s.layouts X) + size_of s.layouts X = sym w.5 ∙ ap₂ (λ x y. x + y) offset (sym size) in
      let less : first + k < last = omega (arith, longer, room) in
      let more : PartsStand s shapes m (first + k + 1) last (up w.2 (align_of s.layouts X) + size_of s.layouts X) rest =
      subst (λ x. PartsStand s shapes m x last (up w.2 (align_of s.layouts X) + size_of s.layouts X) rest) behind (subst (λ y. PartsStand s shapes m (first + length next.parts.items) last y rest) ends tail) in
      let old : (i : ℕ) (x : PlanPart) → IsAt row.parts.items i x → IsAt m.parts.now (first + i) x =
      λ i x h. placed i x (subst (λ xs. IsAt xs i x) (sym p.parts_are) (at_more (record { more = p.last ∷ []; is = refl }) h)) in
      r.stand s shapes m over (settled_less f.adds.waits_go t) (given_first f.gives given) w.2 w.6 first last old (omega (arith, less)) (parts_more less there (w.9 ∙ offset) stands takes more)

  -- one part more
  pub row_next : RowIs names done start all rest v u a c next.parts.items next.extent.end next.extent.align next.free
  row_next = record {
    gives = r.gives ++ f.gives;
    adds = adds_trans r.adds f.adds;
    waits_few = omega (arith, r.waits_few, f.waits_few);
    known = λ all can. f.known (r.known all can) (can_first (r.can_rest can));
    can_rest = λ can. can_later (r.can_rest can);
    left = omega (arith, r.left, f.gives_count, length-append r.gives f.gives);
    positive = omega (arith, r.positive, p.align_is);
    row_fits = next_fits;
    row_free = next_free;
    lays = next_lays;
    stand = next_stand;
  }

module _ {names : List NamedNode} {done start : ℕ} {all : Parts} {v w : Waits} {a c d : PlanLists} {row : LaidParts} {laid : LaidRange} (r : RowIs names done start all no_part v w a c row.parts.items row.extent.end row.extent.align row.free) (p : PartsLaid c d row laid) where
  laid_length : laid.last ≡ laid.first + length row.parts.items
  laid_length = omega (arith, p.last_is, p.first_is, ap length p.extended.parts_are, length-append c.parts row.parts.items)

  laid_part : (m : Checker) → GrowsInto d m → (k : ℕ) (x : PlanPart) → laid.first ≤ k → k < laid.last → IsAt m.parts.now k x → IsAt row.parts.items (k - length c.parts) x
  laid_part m g k x from to at = part_of p.extended k x (omega (arith, from, p.first_is)) (at_less g.parts (omega (arith, to, p.last_is)) at)

  laid_at : (m : Checker) → GrowsInto d m → (k : ℕ) (x : PlanPart) → IsAt row.parts.items k x → IsAt m.parts.now (laid.first + k) x
  laid_at m g k x at = let e : length c.parts + k ≡ laid.first + k = omega (arith, p.first_is) in subst (λ i. IsAt m.parts.now i x) e (at_more g.parts (part_at p.extended k x at))

  -- the row stands behind the plan's parts
  pub row_done : CompiledParts names done start all v w a d laid
  row_done =
      let grown = extended_grows p.extended in
      let nodes : length d.nodes ≡ length c.nodes = ap length p.extended.nodes_are in
      record {
        gives = r.gives;
        gives_count = omega (arith, r.left);
        adds = adds_same r.adds grown p.extended.nodes_are;
        waits_few = omega (arith, r.waits_few);
        known = r.known;
        positive = omega (arith, r.positive, p.align_is);
        last = omega (arith, p.last_is);
        few = p.few;
        parts_fit = λ m g e q k x from to at. fits_wider (omega (arith, nodes)) (omega arith) (r.row_fits m (grows_trans grown g) e (sym p.end_is ∙ q) (k - length c.parts) x (laid_part m g k x from to at));
        parts_free = λ h m g k x from to at. r.row_free (sym p.free_is ∙ h) m (grows_trans grown g) (k - length c.parts) x (laid_part m g k x from to at);
        lays = λ m l g n. let b = r.lays m l (grows_trans grown g) n in (p.end_is ∙ b.0.1 ∙ ap fits (sym b.0.2), omega (arith, b.1, r.positive, p.align_is));
        stand = λ s shapes m g t given e q. r.stand s shapes m (grows_trans grown g) t given e (sym p.end_is ∙ q) laid.first laid.last (laid_at m g) (omega (arith, laid_length)) (parts_over (omega (arith, laid_length)));
      }

-- no variant yet
pub spans_start : {names : List NamedNode} {done : ℕ} {v : Waits} {a : PlanLists} (vs : Variants) (row : List Span) (end : Option ℕ) (align : ℕ) → row ≡ [] → end ≡ Some 1 → align ≡ 1 → SpansAre names done vs vs v v a a row end align
spans_start {names = names} {v = v} {a = a} vs row end align none e one = record {
  gives = [];
  adds = adds_refl names v a;
  waits_few = omega arith;
  known = λ all can. all;
  can_rest = λ can. can;
  left = omega arith;
  positive = omega arith;
  tag = λ z ez. let same : 1 ≡ z = cc in omega (arith, same);
  row_fits = λ m g e q k x at. absurd (let at_none : IsAt [] k x = subst (λ r. IsAt r k x) none at in omega (arith, at_none.below));
  lays = λ m l g n. ((1, omega arith, e ∙ sym (fits_some 1 (omega arith)), omega (arith, ends_positive l vs)), omega (arith, variants_align_pos l vs));
  stand = λ s shapes m g t given z ez k x at. absurd (let at_none : IsAt [] k x = subst (λ r. IsAt r k x) none at in omega (arith, at_none.below));
  others = λ k. let i : length row + k ≡ k = omega (arith, ap length none) in ap (variant_at vs) i;
}

module _ {names : List NamedNode} {done : ℕ} {all rest : Variants} {v w u : Waits} {a b c : PlanLists} {ps : Parts} {spans next : LaidVariants} {laid : LaidRange}
    (r : SpansAre names done all (variant ps rest) v w a b spans.items.items spans.extent.end spans.extent.align) (f : CompiledParts names done 1 ps w u b c laid) (p : IsVariantAdded laid spans next) where
  spans_longer : length next.items.items ≡ length spans.items.items + 1
  spans_longer = ap length p.items_are ∙ length-append spans.items.items (p.span ∷ [])

  spans_split : (e : ℕ) → next.extent.end ≡ Some e → (x : ℕ) × (y : ℕ) × (spans.extent.end ≡ Some x) × (laid.end ≡ Some y) × (max x y ≡ e)
  spans_split e q = greater_some spans.extent.end laid.end e (sym p.end_is ∙ q)

  spans_cases : (k : ℕ) (x : Span) → IsAt next.items.items k x → IsAt spans.items.items k x ⊎ ((k ≡ length spans.items.items) × (x ≡ p.span))
  spans_cases k x h =
      let i : IsAt (spans.items.items ++ p.span ∷ []) k x = subst (λ t. IsAt t k x) p.items_are h in
      ⊎_elim (λ lt. inl (at_less (record { more = p.span ∷ []; is = refl }) lt i)) (λ q. inr q) (at_last spans.items.items p.span x k i)

  spans_fit : (m : Checker) → GrowsInto c m → (e : ℕ) → next.extent.end ≡ Some e → (k : ℕ) (x : Span) → IsAt next.items.items k x → SpanFits m (length c.nodes) e x.first x.last
  spans_fit m g e q k x h =
      let s = spans_split e q in
      ⊎_elim
      (λ i. span_wider (omega (arith, f.adds.count)) (omega (arith, s.4)) (r.row_fits m (grows_trans f.adds.grows g) s.0 s.2 k x i))
      (λ i.
      let fit : SpanFits m (length c.nodes) e laid.first laid.last = span_within (omega (arith, f.last, prefix_longer g.parts)) f.few
      (λ k x from to at. fits_wider (omega arith) (omega (arith, s.4)) (f.parts_fit m g s.1 s.3 k x from to at)) in
      let there : SpanFits m (length c.nodes) e p.span.first p.span.last =
      subst (λ y. SpanFits m (length c.nodes) e p.span.first y) (sym p.last_is) (subst (λ y. SpanFits m (length c.nodes) e y laid.last) (sym p.first_is) fit) in
      subst (λ (t : Span). SpanFits m (length c.nodes) e t.first t.last) (sym i.1) there)
      (spans_cases k x h)

  spans_stand : (s : SchemaTable) (shapes : ℕ → Shape) (m : Checker) → GrowsInto c m → Settled names u.items s shapes m → Given shapes (length a.nodes) (r.gives ++ f.gives)
      → (e : ℕ) → next.extent.end ≡ Some e → (k : ℕ) (x : Span) → IsAt next.items.items k x → VariantStands s shapes m all k x
  spans_stand s shapes m g t given e q k x h =
      let w = spans_split e q in
      ⊎_elim
      (λ i. r.stand s shapes m (grows_trans f.adds.grows g) (settled_less f.adds.waits_go t) (given_first f.gives given) w.0 w.2 k x i)
      (λ i.
      let here : variant_at all k ≡ Some ps = (let n : k ≡ length spans.items.items + 0 = omega (arith, i.0) in ap (variant_at all) n ∙ r.others 0) in
      let there : PartsStand s shapes m laid.first laid.last 1 ps = f.stand s shapes m g t (given_second r.gives (length b.nodes) r.adds.count given) w.1 w.3 in
      let same : PartsStand s shapes m p.span.first p.span.last 1 ps =
      subst (λ y. PartsStand s shapes m p.span.first y 1 ps) (sym p.last_is) (subst (λ y. PartsStand s shapes m y laid.last 1 ps) (sym p.first_is) there) in
      (ps, here, subst (λ (t : Span). PartsStand s shapes m t.first t.last 1 ps) (sym i.1) same))
      (spans_cases k x h)

  -- one variant more
  pub spans_next : SpansAre names done all rest v u a c next.items.items next.extent.end next.extent.align
  spans_next = record {
    gives = r.gives ++ f.gives;
    adds = adds_trans r.adds f.adds;
    waits_few = omega (arith, r.waits_few, f.waits_few);
    known = λ all can. f.known (r.known all can) (can_variant (r.can_rest can));
    can_rest = λ can. can_others (r.can_rest can);
    left = omega (arith, r.left, f.gives_count, length-append r.gives f.gives);
    positive = omega (arith, r.positive, p.align_is);
    tag = λ e q. let s = spans_split e q in omega (arith, r.tag s.0 s.2, s.4);
    row_fits = spans_fit;
    lays = λ m l g n.
        let before = r.lays m l (grows_trans f.adds.grows g) n in
        let here = f.lays m l g n in
        ((max before.0.0 (parts_end l 1 ps), omega (arith, before.0.1), p.end_is ∙ ap₂ greater_of before.0.2 here.0 ∙ greater_fits before.0.0 (parts_end l 1 ps), omega (arith, before.0.3)), omega (arith, before.1, here.1, p.align_is));
    stand = spans_stand;
    others = λ k. let i : length next.items.items + k ≡ length spans.items.items + suc k = omega (arith, spans_longer) in ap (variant_at all) i ∙ r.others (suc k);
  }

module _ {names : List NamedNode} {done : ℕ} {all : Variants} {v w : Waits} {a c d : PlanLists} {spans : LaidVariants} {laid : LaidRange} (r : SpansAre names done all no_variant v w a c spans.items.items spans.extent.end spans.extent.align) (p : VariantsLaid c d spans laid) where
  spans_length : laid.last ≡ laid.first + length spans.items.items
  spans_length = omega (arith, p.last_is, p.first_is, ap length p.extended.variants_are, length-append c.variants spans.items.items)

  laid_span : (m : Checker) → GrowsInto d m → (k : ℕ) (x : Span) → laid.first ≤ k → k < laid.last → IsAt m.variants.now k x → IsAt spans.items.items (k - length c.variants) x
  laid_span m g k x from to at = span_of p.extended k x (omega (arith, from, p.first_is)) (at_less g.variants (omega (arith, to, p.last_is)) at)

  -- the variants stand behind the plan's
  pub spans_done : CompiledVariants names done all v w a d laid
  spans_done =
      let grown = extended_grows p.extended in
      let nodes : length d.nodes ≡ length c.nodes = ap length p.extended.nodes_are in
      record {
        gives = r.gives;
        gives_count = omega (arith, r.left);
        adds = adds_same r.adds grown p.extended.nodes_are;
        waits_few = omega (arith, r.waits_few);
        known = r.known;
        positive = omega (arith, r.positive, p.align_is);
        last = omega (arith, p.last_is);
        few = p.few;
        tag = λ e q. r.tag e (sym p.end_is ∙ q);
        variants_fit = λ m g e q k x from to at. span_wider (omega (arith, nodes)) (omega arith) (r.row_fits m (grows_trans grown g) e (sym p.end_is ∙ q) (k - length c.variants) x (laid_span m g k x from to at));
        lays = λ m l g n. let b = r.lays m l (grows_trans grown g) n in
            let whole : variants_end l all ≡ b.0.0 = omega (arith, b.0.3, b.0.1) in
            (p.end_is ∙ b.0.2 ∙ ap fits (sym whole), omega (arith, b.1, r.positive, p.align_is));
        stand = λ s shapes m g t given e q tag x lt at.
            let i : IsAt spans.items.items (laid.first + tag - length c.variants) x = laid_span m g (laid.first + tag) x (omega arith) lt at in
            let k : laid.first + tag - length c.variants ≡ tag = omega (arith, p.first_is) in
            r.stand s shapes m (grows_trans grown g) t given e (sym p.end_is ∙ q) tag x (subst (λ j. IsAt spans.items.items j x) k i);
        others = λ tag h. let k : tag ≡ length spans.items.items + (tag - length spans.items.items) = omega (arith, spans_length, h) in ap (variant_at all) k ∙ r.others (tag - length spans.items.items);
      }
