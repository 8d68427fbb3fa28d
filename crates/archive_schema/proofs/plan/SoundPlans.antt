-- Whether a plan is sound can be decided. So a plan of which no more is kept than that it is sound, is sound.
use Rattle.std.proofs.Common.{◌≡◌, ◌⊎◌, inl, inr, ⊎_elim, ℕ, zero, suc, refl, sym, ap, ◌∙◌, subst, ◌+◌, ◌*◌, ◌<◌, ◌≤◌, arith, List, [], ◌∷◌, length, Option, Some, None}
use Rattle.std.proofs.Math.Logic.{∥∥₁_elim}
use Rattle.std.proofs.lemmas.Bool.{cases_lt}
use Rattle.archive_schema.specs.declared.plan.NodeKind.{NodeKind}
use Rattle.archive_schema.specs.declared.plan.NodeKind.TheVariants.{Free, Leaf, Record, Choice, Array, Pointer as PointerNode, Str, Shared, Weak}
use Rattle.archive_schema.specs.declared.plan.PointeeKind.{PointeeKind}
use Rattle.archive_schema.specs.declared.plan.Node.{Node}
use Rattle.archive_schema.specs.declared.plan.Part.{Part}
use Rattle.archive_schema.specs.declared.plan.Span.{Span}
use Rattle.archive_schema.specs.declared.check.Checker.{Checker}
use Rattle.archive_check.specs.Layout.{kind_size}
use Rattle.archive_check.specs.Expressions.{kind_of}
use Rattle.archive_schema.specs.check.Runs.{pointer_bytes, Takes}
use Rattle.archive_check.specs.Words.Elements.{IsAt, span}
use Rattle.archive_schema.specs.plan.SoundPlans.{PartsWithin, SpanFits, ArrayFits, VariantsFit, NodeKindFits, IsSound}
use Rattle.archive_check.proofs.Elements.{same_at, some_at}
use Rattle.archive_schema.proofs.plan.PlanSizes.{take_same}

-- it holds, or it does not
abbrev OrNot : Type 0 → Type 0
OrNot A = A ⊎ (A → ⊥)

same_or : {A B : Type 0} → (A → B) → (B → A) → A ⊎ (A → ⊥) → B ⊎ (B → ⊥)
same_or there back d = ⊎_elim (λ a. inl (there a)) (λ no. inr (λ b. no (back b))) d

both_or : {A B : Type 0} → A ⊎ (A → ⊥) → B ⊎ (B → ⊥) → (A × B) ⊎ (A × B → ⊥)
both_or c d = ⊎_elim (λ a. ⊎_elim (λ b. inl (a, b)) (λ no. inr (λ p. no p.1)) d) (λ no. inr (λ p. no p.0)) c

all_or : {A B C : Type 0} → A ⊎ (A → ⊥) → B ⊎ (B → ⊥) → C ⊎ (C → ⊥) → (A × B × C) ⊎ (A × B × C → ⊥)
all_or c d e = ⊎_elim (λ a. ⊎_elim (λ p. inl (a, p.0, p.1)) (λ no. inr (λ p. no (p.1, p.2))) (both_or d e)) (λ no. inr (λ p. no p.0)) c

where_or : {A B : Type 0} → A ⊎ (A → ⊥) → B ⊎ (B → ⊥) → (A → B) ⊎ ((A → B) → ⊥)
where_or c d = ⊎_elim (λ b. inl (λ a. b)) (λ no. ⊎_elim (λ a. inr (λ f. no (f a))) (λ none. inl (λ a. absurd (none a))) c) d

less_or : (a b : ℕ) → OrNot (a < b)
less_or a b = ⊎_elim (λ lt. inl lt) (λ ge. inr (λ lt. omega (arith, ge, lt))) (cases_lt a b)

most_or : (a b : ℕ) → OrNot (a ≤ b)
most_or a b = ⊎_elim (λ lt. inr (λ le. omega (arith, lt, le))) (λ le. inl le) (cases_lt b a)

-- at each index below n
below_or : (n : ℕ) (P : ℕ → Type 0) → ((k : ℕ) → OrNot (P k)) → OrNot ((k : ℕ) → k < n → P k)
below_or zero P d = inl (λ k h. absurd (omega (arith, h)))
below_or (suc n) P d = ⊎_elim
    (λ all. ⊎_elim
    (λ last. inl (λ k h. ⊎_elim (λ lt. all k lt) (λ ge. let e : n ≡ k = omega (arith, ge, h) in subst P e last) (cases_lt k n)))
    (λ no. inr (λ f. no (f n (omega arith)))) (d n))
    (λ no. inr (λ f. no (λ k h. f k (omega (arith, h))))) (below_or n P d)

-- of the element at k, where there is one
at_or : {A : Type 0} (xs : List A) (Q : A → Type 0) → ((x : A) → OrNot (Q x)) → (k : ℕ) → OrNot ((x : A) → IsAt xs k x → Q x)
at_or {A} xs Q d k = ⊎_elim
    (λ lt. found (some_at xs k lt))
    (λ ge. inl (λ x at. absurd (omega (arith, ge, at.below)))) (cases_lt k (length xs))
  where
    found : (a : (x : A) × IsAt xs k x) → OrNot ((x : A) → IsAt xs k x → Q x)
    found a = ⊎_elim (λ q. inl (λ x at. subst Q (same_at a.1 at) q)) (λ no. inr (λ f. no (f a.0 a.1))) (d a.0)

module _ (m : Checker) where
  -- whether the node at j takes anything
  takes_or : (j : ℕ) → OrNot ((z : ℕ) × Takes m j z)
  takes_or j = ⊎_elim
      (λ lt. found (some_at m.nodes.now j lt))
      (λ ge. inr (λ t. omega (arith, ge, t.1.at.below))) (cases_lt j (length m.nodes.now))
    where
      sized : (node : Node) → IsAt m.nodes.now j node → (o : Option ℕ) → node.size ≡ o → OrNot ((z : ℕ) × Takes m j z)
      sized node at None e = inr (λ t. let same : node.size ≡ t.1.node.size = ap (λ q. q.size) (same_at at t.1.at) in let some : None ≡ Some t.0 = sym e ∙ same ∙ t.1.size_is in absurd (cc some))
      sized node at (Some z) e = inl (z, record { node = node; at = at; size_is = e })

      found : (a : (x : Node) × IsAt m.nodes.now j x) → OrNot ((z : ℕ) × Takes m j z)
      found a = sized a.0 a.1 a.0.size refl

  -- what the node at j takes, if it does, is as asked
  taken_or : (j : ℕ) (Q : ℕ → Type 0) → ((y : ℕ) → OrNot (Q y)) → OrNot ((y : ℕ) × Takes m j y × Q y)
  taken_or j Q d = ⊎_elim
      (λ t. ⊎_elim (λ q. inl (t.0, t.1, q)) (λ no. inr (λ p. no (subst Q (take_same p.1 t.1) p.2))) (d t.0))
      (λ no. inr (λ p. no (p.0, p.1))) (takes_or j)

  parts_or : (i z : ℕ) (xs : List Part) → OrNot (PartsWithin m i z xs)
  parts_or i z [] = inl tt
  parts_or i z (x ∷ xs) = both_or
      (same_or (λ p. (p.1.0, p.0, p.1.1, p.1.2)) (λ p. (p.1, (p.0, p.2, p.3)))
      (both_or (less_or x.node i) (taken_or x.node (λ y. x.offset + y ≤ z) (λ y. most_or (x.offset + y) z))))
      (parts_or i z xs)

  span_or : (i z a b : ℕ) → OrNot (SpanFits m i z a b)
  span_or i z a b = same_or
      (λ p. record { last = p.0; few = p.1; within = p.2 }) (λ f. (f.last, f.few, f.within))
      (all_or (most_or b (length m.parts.now)) (less_or b 18446744073709551616) (parts_or i z (span m.parts.now a b)))

  array_or : (i z n j : ℕ) → OrNot (ArrayFits m i z n j)
  array_or i z n j = same_or
      (λ p. record { element = p.2.0; earlier = p.0; few = p.1; takes = p.2.1; within = p.2.2 })
      (λ f. (f.earlier, f.few, (f.element, f.takes, f.within)))
      (all_or (less_or j i) (less_or n 18446744073709551616) (taken_or j (λ y. n * y ≤ z) (λ y. most_or (n * y) z)))

  variants_or : (i z a b : ℕ) → OrNot (VariantsFit m i z a b)
  variants_or i z a b = same_or
      (λ p. record { tag = p.0.0; last = p.0.1; few = p.0.2; fits = λ k x le lt at. p.1 k lt le x at })
      (λ f. ((f.tag, f.last, f.few), λ k lt le x at. f.fits k x le lt at))
      (both_or (all_or (less_or 0 z) (most_or b (length m.variants.now)) (less_or b 18446744073709551616))
      (below_or b (λ k. a ≤ k → (x : Span) → IsAt m.variants.now k x → SpanFits m i z x.first x.last)
      (λ k. where_or (most_or a k) (at_or m.variants.now (λ x. SpanFits m i z x.first x.last) (λ x. span_or i z x.first x.last) k))))

  pointer_or : (z k j : ℕ) (target : PointeeKind) → OrNot ((pointer_bytes target ≤ z) × (k < length m.shared_types.now) × (j < length m.nodes.now))
  pointer_or z k j target = all_or (most_or (pointer_bytes target) z) (less_or k (length m.shared_types.now)) (less_or j (length m.nodes.now))

  kind_or : (i z : ℕ) (kind : NodeKind) → OrNot (NodeKindFits m i z kind)
  kind_or i z Free = inl tt
  kind_or i z (Leaf kind) = most_or (kind_size (kind_of kind)) z
  kind_or i z (Record a b) = both_or (less_or 0 z) (span_or i z a b)
  kind_or i z (Choice name a b) = variants_or i z a b
  kind_or i z (Array n j) = both_or (less_or 0 z) (array_or i z n j)
  kind_or i z (PointerNode target j) = both_or (most_or (pointer_bytes target) z) (less_or j (length m.nodes.now))
  kind_or i z (Str j) = both_or (most_or 8 z) (less_or j (length m.nodes.now))
  kind_or i z (Shared k target j) = pointer_or z k j target
  kind_or i z (Weak k target j) = pointer_or z k j target

  node_or : (i : ℕ) (node : Node) (o : Option ℕ) → node.size ≡ o → OrNot ((z : ℕ) → node.size ≡ Some z → NodeKindFits m i z node.kind)
  node_or i node None e = inl (λ z h. let some : None ≡ Some z = sym e ∙ h in absurd (cc some))
  node_or i node (Some y) e = same_or
      (λ fits z h. let some : Some y ≡ Some z = sym e ∙ h in let same : y ≡ z = cc in subst (λ q. NodeKindFits m i q node.kind) same fits)
      (λ f. f y e) (kind_or i y node.kind)

-- a plan is sound, or it is not
pub sound_or_not : (m : Checker) → IsSound m ⊎ (IsSound m → ⊥)
sound_or_not m = same_or
    (λ f. record { fits = λ i node z at e. f i at.below node at z e })
    (λ sound i lt node at z e. sound.fits i node z at e)
    (below_or (length m.nodes.now) (λ i. (node : Node) → IsAt m.nodes.now i node → (z : ℕ) → node.size ≡ Some z → NodeKindFits m i z node.kind)
    (λ i. at_or m.nodes.now (λ node. (z : ℕ) → node.size ≡ Some z → NodeKindFits m i z node.kind) (λ node. node_or m i node node.size refl) i))

-- a plan that is merely known to be sound is sound
pub sound_again : (m : Checker) → ∥ IsSound m ∥₁ → IsSound m
sound_again m h = ⊎_elim (λ sound. sound) (λ no. absurd (∥∥₁_elim h (λ a b. absurd a) no)) (sound_or_not m)
