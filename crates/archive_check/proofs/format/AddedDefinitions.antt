-- A definition that is put behind others: what is answered, and the table afterwards.
use Rattle.std.proofs.lemmas.List.Elements.{Contains-append_left, Contains-append_right, Contains-append_cases}
use Rattle.std.proofs.Common.{◌≡◌, ◌≢◌, ◌⊎◌, inl, inr, ⊎_elim, [], ◌∷◌, ◌++◌, refl, sym, ap, ◌∙◌, subst, arith, Bool, true, false, Option, Some, None, Ok, Err, if◌then◌else◌, Contains}
use Rattle.archive_check.specs.declared.format.error.Error.{Error}
use Rattle.archive_check.specs.declared.format.error.Error.TheVariants.{OutOfMemory, ShapeConflict}
use Rattle.archive_check.specs.Shape.{Name, Shape, Table, definition}
use Rattle.archive_check.specs.Words.AddAnswer.{IsAddAnswer}
use Rattle.archive_check.specs.Definitions.{Definitions, defines, both, listed, Extended, Conflicts}
use Rattle.archive_check.proofs.Names.Named.{definition_here, append_known, append_unknown, push_some}
use Rattle.archive_check.proofs.Elements.{contains_cases, contains_first, contains_later}
use Rattle.archive_check.proofs.Tours.Seen.{same_some}
use Rattle.archive_check.proofs.Names.WellFormed.{found_stands}

-- it is the only one of its own
only_one : (name n : Name) (X Y : Shape) → Contains (listed (defines name X)) (n, Y) → (name ≡ n) × (X ≡ Y)
only_one name n X Y c = ⊎_elim
    (λ here. (ap (λ (p : Name × Shape). p.0) here, ap (λ (p : Name × Shape). p.1) here))
    (λ later. absurd (omega (arith, later.1)))
    (contains_cases (name, X) [] (n, Y) c)

extended_where : (old new : Table) (name : Name) (X : Shape) → ((n : Name) (Y : Shape) → definition old n ≡ Some Y → definition new n ≡ Some Y) → definition new name ≡ Some X
    → ((n : Name) (Y : Shape) → definition new n ≡ Some Y → (definition old n ≡ Some Y) ⊎ Contains (listed (defines name X)) (n, Y)) → Extended old (defines name X) new
extended_where old new name X kept here only = record {
  has = λ n Y c. let (same, shape) = only_one name n X Y c in ap (definition new) (sym same) ∙ here ∙ ap Some shape;
  kept = kept;
  only = only;
}

-- it was new, or it was there
pub extended_by : (old new : Table) (name : Name) (X : Shape) (b : Bool) → IsAddAnswer (definition old name) X (Ok b) → new ≡ (if b then old ++ (name, X) ∷ [] else old) → Extended old (defines name X) new
extended_by old new name X true a e = subst (λ t. Extended old (defines name X) t) (sym e) (extended_where old (old ++ (name, X) ∷ []) name X
    (λ n Y h. append_known old ((name, X) ∷ []) n Y h)
    (append_unknown old ((name, X) ∷ []) name a ∙ definition_here name name X [] refl)
    (λ n Y h. ⊎_elim inl (λ s. inr (found_stands ((name, X) ∷ []) n Y (definition_here name n X [] s.0 ∙ ap Some s.1))) (push_some old name X n Y h)))
extended_by old new name X false a e = subst (λ t. Extended old (defines name X) t) (sym e) (extended_where old old name X (λ n Y h. h) a (λ n Y h. inl h))

-- it was refused
pub not_extended : (old : Table) (name : Name) (X : Shape) (e : Error) → IsAddAnswer (definition old name) X (Err e) → (e ≡ OutOfMemory) ⊎ ((e ≡ ShapeConflict) × Conflicts old (defines name X))
not_extended old name X e a = by (definition old name) refl a
  where
    by : (o : Option Shape) → definition old name ≡ o → IsAddAnswer o X (Err e) → (e ≡ OutOfMemory) ⊎ ((e ≡ ShapeConflict) × Conflicts old (defines name X))
    by None is h = inl h
    by (Some Y) is h = inr (h.0, record { name = name; shape = X; other = Y; here = contains_first [] (name, X); there = inl is; differ = λ same. h.1 (sym same) })

-- of a name with two definitions, the first one is refused
pub first_refused : (old : Table) (name : Name) (X Y : Shape) (e : Error) → IsAddAnswer (definition old name) X (Err e) → (e ≡ OutOfMemory) ⊎ ((e ≡ ShapeConflict) × Conflicts old (both (defines name X) (defines name Y)))
first_refused old name X Y e a = ⊎_elim inl (λ h. inr (
  h.0,
  record {
    name = h.1.name;
    shape = h.1.shape;
    other = h.1.other;
    here = Contains-append_left (listed (defines name X)) (listed (defines name Y)) _ h.1.here;
    there = ⊎_elim inl (λ c. inr (Contains-append_left (listed (defines name X)) (listed (defines name Y)) _ c)) h.1.there;
    differ = h.1.differ;
  },
)) (not_extended old name X e a)

-- or the other one, behind it
module _ (old mid : Table) (name : Name) (X Y : Shape) (apart : X ≢ Y) where
  -- the first definition stands in the table
  stands : (b : Bool) → IsAddAnswer (definition old name) X (Ok b) → mid ≡ (if b then old ++ (name, X) ∷ [] else old) → definition mid name ≡ Some X
  stands true a e = ap (λ t. definition t name) e ∙ append_unknown old ((name, X) ∷ []) name a ∙ definition_here name name X [] refl
  stands false a e = ap (λ t. definition t name) e ∙ a

  pub second_refused : (b : Bool) (e : Error) → IsAddAnswer (definition old name) X (Ok b) → mid ≡ (if b then old ++ (name, X) ∷ [] else old) → IsAddAnswer (definition mid name) Y (Err e)
      → (e ≡ OutOfMemory) ⊎ ((e ≡ ShapeConflict) × Conflicts old (both (defines name X) (defines name Y)))
  second_refused b e a f h =
      let r : IsAddAnswer (Some X) Y (Err e) = rw (stands b a f) at h in
      inr (r.0, record { name = name; shape = Y; other = X; here = contains_later (name, X) ((name, Y) ∷ []) (name, Y) (contains_first [] (name, Y)); there = inr (contains_first ((name, Y) ∷ []) (name, X)); differ = λ same. apart (sym same) })

  pub second_never : (b c : Bool) → IsAddAnswer (definition old name) X (Ok b) → mid ≡ (if b then old ++ (name, X) ∷ [] else old) → IsAddAnswer (definition mid name) Y (Ok c) → ⊥
  second_never b true a f h = let none : Some X ≡ None = sym (stands b a f) ∙ h in cc
  second_never b false a f h = let same : Some X ≡ Some Y = sym (stands b a f) ∙ h in apart (same_some same)

-- definitions behind others
pub extended_both : (old mid new : Table) (D E : Definitions) → Extended old D mid → Extended mid E new → Extended old (both D E) new
extended_both old mid new D E h k = record {
  has = λ n Y c. ⊎_elim (λ here. k.kept n Y (h.has n Y here)) (k.has n Y) (Contains-append_cases (listed D) (listed E) (n, Y) c);
  kept = λ n Y e. k.kept n Y (h.kept n Y e);
  only = λ n Y e. ⊎_elim
      (λ i. ⊎_elim inl (λ c. inr (Contains-append_left (listed D) (listed E) (n, Y) c)) (h.only n Y i))
      (λ c. inr (Contains-append_right (listed D) (listed E) (n, Y) c))
      (k.only n Y e);
}

-- the first ones are refused
pub first_conflicts : (old : Table) (D E : Definitions) (e : Error) → (e ≡ OutOfMemory) ⊎ ((e ≡ ShapeConflict) × Conflicts old D) → (e ≡ OutOfMemory) ⊎ ((e ≡ ShapeConflict) × Conflicts old (both D E))
first_conflicts old D E e h = ⊎_elim inl (λ (is, c). inr (
  is,
  record {
    name = c.name;
    shape = c.shape;
    other = c.other;
    here = Contains-append_left (listed D) (listed E) _ c.here;
    there = ⊎_elim inl (λ i. inr (Contains-append_left (listed D) (listed E) _ i)) c.there;
    differ = c.differ;
  },
)) h

-- or those behind them
pub later_conflicts : (old mid : Table) (D E : Definitions) → Extended old D mid → (e : Error) → (e ≡ OutOfMemory) ⊎ ((e ≡ ShapeConflict) × Conflicts mid E)
    → (e ≡ OutOfMemory) ⊎ ((e ≡ ShapeConflict) × Conflicts old (both D E))
later_conflicts old mid D E x e h = ⊎_elim inl (λ (is, c). inr (
  is,
  record {
    name = c.name;
    shape = c.shape;
    other = c.other;
    here = Contains-append_right (listed D) (listed E) _ c.here;
    there = ⊎_elim
        (λ d. ⊎_elim inl (λ i. inr (Contains-append_left (listed D) (listed E) _ i)) (x.only c.name c.other d))
        (λ i. inr (Contains-append_right (listed D) (listed E) _ i))
        c.there;
    differ = c.differ;
  },
)) h

-- the definition of what an expression stands for
pub record_refused : (old : Table) (name : Name) (X Y : Shape) → X ≡ Y → (e : Error) → IsAddAnswer (definition old name) X (Err e) → (e ≡ OutOfMemory) ⊎ ((e ≡ ShapeConflict) × Conflicts old (defines name Y))
record_refused old name X Y same e a = rw same at (not_extended old name X e a)

pub record_extended : (old new : Table) (name : Name) (X Y : Shape) → X ≡ Y → (b : Bool) → IsAddAnswer (definition old name) X (Ok b) → new ≡ (if b then old ++ (name, X) ∷ [] else old)
    → Extended old (defines name Y) new
record_extended old new name X Y same b a e = rw same at (extended_by old new name X b a e)

pub ruleset joining = (extended_both, first_conflicts, later_conflicts)

pub ruleset adding = (extended_by, not_extended, extended_both, first_conflicts, later_conflicts)
