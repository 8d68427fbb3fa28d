-- Lists that go on, and the lists of a plan that grow so.
use Rattle.std.proofs.Common.{◌≡◌, ℕ, sym, ap, ◌∙◌, subst, ◌+◌, ◌-◌, ◌<◌, ◌≤◌, arith, List, [], ◌∷◌, ◌++◌, length, slice_index_or, Option, length-append, append_assoc, append-nil}
use Rattle.archive_schema.specs.declared.plan.NodeKind.{NodeKind}
use Rattle.archive_schema.specs.declared.plan.Part.{Part}
use Rattle.archive_schema.specs.declared.plan.Span.{Span}
use Rattle.archive_check.specs.declared.context.positions.SharedType.{SharedType}
use Rattle.archive_check.specs.Words.Elements.{IsAt}
use Rattle.archive_schema.specs.plan.PlanGrowth.{PlanLists, IsPrefix, Grows, IsPushed, IsTypeAdded, IsExtended}
use Rattle.std.proofs.lemmas.List.{get_or_append_left}
use Rattle.archive_check.proofs.Elements.{at_end, at_behind, at_second}

pub prefix_refl : {A : Type 0} (xs : List A) → IsPrefix xs xs
prefix_refl xs = record { more = []; is = sym (append-nil xs) }

pub prefix_trans : {A : Type 0} {xs ys zs : List A} → IsPrefix xs ys → IsPrefix ys zs → IsPrefix xs zs
prefix_trans {xs = xs} g h = record { more = g.more ++ h.more; is = h.is ∙ ap (λ l. l ++ h.more) g.is ∙ append_assoc xs g.more h.more }

pub prefix_longer : {A : Type 0} {xs ys : List A} → IsPrefix xs ys → length xs ≤ length ys
prefix_longer {xs = xs} g = omega (arith, ap length g.is, length-append xs g.more)

pub at_more : {A : Type 0} {xs ys : List A} {i : ℕ} {x : A} → IsPrefix xs ys → IsAt xs i x → IsAt ys i x
at_more {xs = xs} {i = i} {x = x} g a = record { below = omega (arith, a.below, prefix_longer g); is = a.is ∙ sym (get_or_append_left xs g.more x i a.below) ∙ sym (ap (λ l. slice_index_or l i x) g.is) }

pub at_less : {A : Type 0} {xs ys : List A} {i : ℕ} {x : A} → IsPrefix xs ys → i < length xs → IsAt ys i x → IsAt xs i x
at_less {xs = xs} {i = i} {x = x} g h a = record { below = h; is = a.is ∙ ap (λ l. slice_index_or l i x) g.is ∙ get_or_append_left xs g.more x i h }

pub grows_refl : (a : PlanLists) → Grows a a
grows_refl a = record { nodes = prefix_refl a.nodes; parts = prefix_refl a.parts; variants = prefix_refl a.variants; shared_types = prefix_refl a.shared_types }

pub grows_trans : {a b c : PlanLists} → Grows a b → Grows b c → Grows a c
grows_trans g h = record { nodes = prefix_trans g.nodes h.nodes; parts = prefix_trans g.parts h.parts; variants = prefix_trans g.variants h.variants; shared_types = prefix_trans g.shared_types h.shared_types }

pub same_prefix : {A : Type 0} {xs ys : List A} → ys ≡ xs → IsPrefix xs ys
same_prefix {xs = xs} e = record { more = []; is = e ∙ sym (append-nil xs) }

-- one node more
module _ {a b : PlanLists} {size : Option ℕ} {align j : ℕ} {kind : NodeKind} (p : IsPushed a b size align kind j) where
  pub pushed_grows : Grows a b
  pushed_grows = record { nodes = record { more = p.node ∷ []; is = p.nodes }; parts = same_prefix p.parts; variants = same_prefix p.variants; shared_types = same_prefix p.shared_types }

  pub pushed_count : length b.nodes ≡ length a.nodes + 1
  pushed_count = ap length p.nodes ∙ length-append a.nodes (p.node ∷ [])

  pub pushed_at : IsAt b.nodes j p.node
  pushed_at = subst (λ xs. IsAt xs j p.node) (sym p.nodes) (subst (λ i. IsAt (a.nodes ++ p.node ∷ []) i p.node) (sym p.is) (at_end a.nodes p.node))

  pub pushed_is : j + 1 ≡ length b.nodes
  pushed_is = omega (arith, pushed_count, p.is)

-- one shared_type more
module _ {a b : PlanLists} {shared_type : SharedType} {k : ℕ} (p : IsTypeAdded a b shared_type k) where
  pub type_added_grows : Grows a b
  type_added_grows = record { nodes = same_prefix p.nodes; parts = same_prefix p.parts; variants = same_prefix p.variants; shared_types = record { more = shared_type ∷ []; is = p.shared_types } }

  pub type_added_at : IsAt b.shared_types k shared_type
  type_added_at = subst (λ xs. IsAt xs k shared_type) (sym p.shared_types) (subst (λ i. IsAt (a.shared_types ++ shared_type ∷ []) i shared_type) (sym p.is) (at_end a.shared_types shared_type))

-- parts and variants more
module _ {a b : PlanLists} {row : List Part} {spans : List Span} (p : IsExtended a b row spans) where
  pub extended_grows : Grows a b
  extended_grows = record { nodes = same_prefix p.nodes_are; parts = record { more = row; is = p.parts_are }; variants = record { more = spans; is = p.variants_are }; shared_types = same_prefix p.shared_types_are }

  pub part_at : (k : ℕ) (x : Part) → IsAt row k x → IsAt b.parts (length a.parts + k) x
  part_at k x h = subst (λ xs. IsAt xs (length a.parts + k) x) (sym p.parts_are) (at_behind a.parts k h)

  pub part_of : (k : ℕ) (x : Part) → length a.parts ≤ k → IsAt b.parts k x → IsAt row (k - length a.parts) x
  part_of k x from at = at_second a.parts row k x from (subst (λ t. IsAt t k x) p.parts_are at)

  pub span_of : (k : ℕ) (x : Span) → length a.variants ≤ k → IsAt b.variants k x → IsAt spans (k - length a.variants) x
  span_of k x from at = at_second a.variants spans k x from (subst (λ t. IsAt t k x) p.variants_are at)
