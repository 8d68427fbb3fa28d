-- The marks of the shallow nodes, one after another.
use Rattle.std.proofs.Common.{◌≡◌, ◌⊎◌, inl, inr, ⊎_elim, ℕ, zero, suc, refl, sym, ap, ◌∙◌, subst, ◌+◌, ◌<◌, ◌≤◌, arith, List, [], ◌∷◌, ◌++◌, length, length-append, get_or, take, Bool, false, IsTrue}
use Rattle.std.proofs.lemmas.Bool.{cases_lt, and_parts}
use Rattle.std.proofs.lemmas.List.{take-append-le}
use Rattle.std.proofs.Math.Seq.{take-append_seam}
use Rattle.std.specs.Cmp.Derive.{both_true}
use Rattle.archive_schema.specs.declared.plan.NodeKind.{NodeKind}
use Rattle.archive_schema.specs.declared.plan.NodeKind.TheVariants.{Free, Leaf, Record, Choice, Array, Pointer as PointerNode, Str, Shared, Weak}
use Rattle.archive_schema.specs.declared.plan.Node.{Node}
use Rattle.archive_schema.specs.declared.plan.Part.{Part}
use Rattle.archive_schema.specs.declared.plan.Span.{Span}
use Rattle.archive_check.specs.Words.Elements.{IsAt, span}
use Rattle.archive_check.proofs.Elements.{same_at}
use Rattle.archive_schema.specs.plan.Shallow.{marked, is_free, free_at, parts_shallow, variants_shallow, kind_shallow, AreShallow, HasIndexes, AreAllMarked}

pub kind_free : (kind : NodeKind) → IsTrue (is_free kind) → kind ≡ Free
kind_free Free h = refl
kind_free (Leaf kind) h = cc
kind_free (Record a b) h = cc
kind_free (Choice name a b) h = cc
kind_free (Array n j) h = cc
kind_free (PointerNode target j) h = cc
kind_free (Str j) h = cc
kind_free (Shared k target j) h = cc
kind_free (Weak k target j) h = cc

pub free_here : (nodes : List Node) (i : ℕ) (x : Node) → i < length nodes → free_at nodes i ≡ is_free (get_or nodes i x).kind
free_here [] i x h = absurd (omega arith)
free_here (y ∷ ys) zero x h = refl
free_here (y ∷ ys) (suc i) x h = free_here ys i x (omega arith)

pub free_nowhere : (nodes : List Node) (i : ℕ) → length nodes ≤ i → free_at nodes i ≡ false
free_nowhere [] i h = refl
free_nowhere (y ∷ ys) zero h = absurd (omega arith)
free_nowhere (y ∷ ys) (suc i) h = free_nowhere ys i (omega arith)

-- one more mark

module _ (b : Bool) where
  marked_more : (marks : List Bool) (i : ℕ) → IsTrue (marked marks i) → IsTrue (marked (marks ++ b ∷ []) i)
  marked_more [] i h = cc
  marked_more (x ∷ xs) zero h = h
  marked_more (x ∷ xs) (suc i) h = marked_more xs i h

  parts_more : (marks : List Bool) (ps : List Part) → IsTrue (parts_shallow marks ps) → IsTrue (parts_shallow (marks ++ b ∷ []) ps)
  parts_more marks [] h = refl
  parts_more marks (x ∷ xs) h =
      both_true (marked_more marks x.node (and_parts _ _ h).0)
      (parts_more marks xs (and_parts _ _ h).1)

  variants_more : (marks : List Bool) (parts : List Part) (vs : List Span) → IsTrue (variants_shallow marks parts vs) → IsTrue (variants_shallow (marks ++ b ∷ []) parts vs)
  variants_more marks parts [] h = refl
  variants_more marks parts (x ∷ xs) h =
      both_true (parts_more marks (span parts x.first x.last) (and_parts _ _ h).0) (variants_more marks parts xs (and_parts _ _ h).1)

  kind_more : (nodes : List Node) (parts : List Part) (variants : List Span) (marks : List Bool) (kind : NodeKind) → IsTrue (kind_shallow nodes parts variants marks kind) → IsTrue (kind_shallow nodes parts variants (marks ++ b ∷ []) kind)
  kind_more nodes parts variants marks Free h = refl
  kind_more nodes parts variants marks (Leaf kind) h = refl
  kind_more nodes parts variants marks (Record x y) h = parts_more marks (span parts x y) h
  kind_more nodes parts variants marks (Choice name x y) h = variants_more marks parts (span variants x y) h
  kind_more nodes parts variants marks (Array n j) h = marked_more marks j h
  kind_more nodes parts variants marks (PointerNode target j) h = h
  kind_more nodes parts variants marks (Str j) h = refl
  kind_more nodes parts variants marks (Shared k target j) h = h
  kind_more nodes parts variants marks (Weak k target j) h = h

  -- what is marked was marked before, or is marked now
  marked_before : (marks : List Bool) (i : ℕ) → IsTrue (marked (marks ++ b ∷ []) i) → IsTrue (marked marks i) ⊎ ((i ≡ length marks) × IsTrue b)
  marked_before [] zero h = inr (refl, h)
  marked_before [] (suc i) h = inl h
  marked_before (x ∷ xs) zero h = inl h
  marked_before (x ∷ xs) (suc i) h = ⊎_elim inl (λ w. inr (omega (arith, w.0), w.1)) (marked_before xs i h)

  marked_last : (marks : List Bool) → IsTrue b → IsTrue (marked (marks ++ b ∷ []) (length marks))
  marked_last [] h = h
  marked_last (x ∷ xs) h = marked_last xs h

below_or_last : (k n : ℕ) → k < n + 1 → (k < n) ⊎ (k ≡ n)
below_or_last k n h = ⊎_elim (λ l. inl l) (λ l. inr (omega (arith, l, h))) (cases_lt k n)

-- the mark of the next node keeps the marks sound
pub shallow_more : (nodes : List Node) (parts : List Part) (variants : List Span) (marks : List Bool) (n : ℕ) (x : Node) (b : Bool)
    → AreShallow nodes parts variants marks
    → length marks ≡ n
    → IsAt nodes n x
    → (IsTrue b → IsTrue (kind_shallow nodes parts variants marks x.kind))
    → AreShallow nodes parts variants (marks ++ b ∷ [])
shallow_more nodes parts variants marks n x b before count here shallow k y at t =
    ⊎_elim (λ old. kind_more b nodes parts variants marks y.kind (before k y at old))
    (λ now.
    let same : k ≡ n = now.0 ∙ count in
    let is : x ≡ y = same_at here (rw same at at) in
    kind_more b nodes parts variants marks y.kind (subst (λ (z : Node). IsTrue (kind_shallow nodes parts variants marks z.kind)) is (shallow now.1)))
    (marked_before b marks k t)

-- so does what is marked: the next node is where it is shallow
pub all_more : (nodes : List Node) (parts : List Part) (variants : List Span) (marks : List Bool) (n : ℕ) (x : Node) (b : Bool)
    → AreAllMarked nodes parts variants marks
    → length marks ≡ n
    → IsAt nodes n x
    → (HasIndexes parts variants x.kind → IsTrue (kind_shallow nodes parts variants marks x.kind) → IsTrue b)
    → AreAllMarked nodes parts variants (marks ++ b ∷ [])
all_more nodes parts variants marks n x b before count here shallow k y below at there h =
    ⊎_elim (λ lt. marked_more b marks k (before k y lt at there (subst (λ (bs : List Bool). IsTrue (kind_shallow nodes parts variants bs y.kind)) (take-append-le k marks (b ∷ []) (omega (arith, lt))) h)))
    (λ last.
    let same : k ≡ n = last ∙ count in
    let is : x ≡ y = same_at here (rw same at at) in
    let by : take k (marks ++ b ∷ []) ≡ marks = ap (λ j. take j (marks ++ b ∷ [])) last ∙ take-append_seam marks (b ∷ []) in
    let true_now : IsTrue b = shallow
    (subst (λ (z : Node). HasIndexes parts variants z.kind) (sym is) there)
    (subst (λ (z : Node). IsTrue (kind_shallow nodes parts variants marks z.kind)) (sym is) (subst (λ (bs : List Bool). IsTrue (kind_shallow nodes parts variants bs y.kind)) by h)) in
    subst (λ j. IsTrue (marked (marks ++ b ∷ []) j)) (sym last) (marked_last b marks true_now))
    (below_or_last k (length marks) (omega (arith, below, length-append marks (b ∷ []))))
