-- Slices of arrays are copied as the slice of all their elements is.
use Rattle.std.proofs.Common.{◌≡◌, ℕ, suc, ◌+◌, ◌*◌, List, [], ◌∷◌, ◌++◌, length, refl, sym, ap, subst, ◌∙◌, arith, Bool, true, Option, Some, None, Result, Ok, Err, IfOk}
use Rattle.std.specs.Prelude.{IfSome}
use Rattle.std.specs.List.{All, AllByRecursion, flat_map}
use Rattle.std.proofs.lemmas.List.Elements.{recursion_from_All}
use Rattle.std.proofs.lemmas.List.{length-append}
use Rattle.std.proofs.Math.Nat.{suc-mul, mul_assoc, add-mul}
use Rattle.archive_check.specs.Shape.{Shape, array, run}
use Rattle.archive_check.specs.Layout.{Layout, size_of}
use Rattle.archive_check.specs.Definitions.{Definitions, HasLayout, IsAlign}
use Rattle.archive_check.specs.SelfCheck.Arrays.{array_layout, array_has_layout}
use Rattle.archive_check.specs.Value.{Value, list}
use Rattle.archive_check.specs.Reads.{SchemaTable, Reads, ReadsRun, reads_none, reads_element, reads_array}
use Rattle.archive_check.specs.CleanRegions.{CleanRun, clean_none, clean_element, clean_array}
use Rattle.archive_check.specs.WriterState.{WriterState}
use Rattle.archive_check.specs.declared.format.error.Error.{Error}
use Rattle.archive_check.specs.Denotes.{Naming}
use Rattle.archive_types.specs.Members.Arrays.{are, they_are, value_if, array_meaning, array_keys}
use Rattle.archive_types.specs.Causes.{IsRegionRefused}
use Rattle.archive_types.specs.Copies.{OwnsNothing, EachOwnsNothing, AreCopied, IsCopyRefused, copies_from, copies_to}
use Rattle.archive_types.specs.Plans.{Serialized, SerializedRegion}
use Rattle.archive_types.specs.Runs.{each_keys, each_meaning}
use Rattle.archive_types.proofs.Writing.Arrays.{serialized_array}
use Rattle.archive_types.proofs.Copying.Copies.{serialized_as_each_is, copied_stored, copied_unstored}

-- all elements of arrays
abbrev pub flat : {A : Type 0} → List (List A) → List A
flat xss = flat_map (λ x. x) xss

-- each array has n elements
abbrev pub Whole : {A : Type 0} → ℕ → List (List A) → Type 0
Whole n xss = AllByRecursion (λ x. length x ≡ n) xss

pub flat_length : {A : Type 0} (n : ℕ) (xss : List (List A)) → Whole n xss → length (flat xss) ≡ length xss * n
flat_length n [] h = omega arith
flat_length n (x ∷ xss) h = omega (arith, length-append x (flat xss), h.0, flat_length n xss h.1, suc-mul (length xss) n)

next_at : (p a size : ℕ) → p + size + a * size ≡ p + suc a * size
next_at p a size = omega (arith, suc-mul a size)

module _ {A : Type 0} (D : Definitions) (X : Shape) (k : A → List Naming) (m : A → Value) where
  -- what owns nothing, in front of others

  first_own : (xs ys : List A) → EachOwnsNothing D X k m (xs ++ ys) → EachOwnsNothing D X k m xs × EachOwnsNothing D X k m ys
  first_own [] ys h = (tt, h)
  first_own (x ∷ xs) ys h = (let q = first_own xs ys h.1 in ((h.0, q.0), q.1))

  module _ (s : SchemaTable) (bytes : List ℕ) where
    -- elements that are read, or clean, in front of others

    reads_front : (xs ys : List A) (p : ℕ) → ReadsRun s bytes p (length (xs ++ ys)) X (each_meaning m (xs ++ ys))
        → ReadsRun s bytes p (length xs) X (each_meaning m xs) × ReadsRun s bytes (p + length xs * size_of s.layouts X) (length ys) X (each_meaning m ys)
    reads_front [] ys p h = (let same : p ≡ p + 0 * size_of s.layouts X = omega arith in (reads_none, subst (λ q. ReadsRun s bytes q (length ys) X (each_meaning m ys)) same h))
    reads_front (x ∷ xs) ys p (reads_element first rest) =
        let q = reads_front xs ys (p + size_of s.layouts X) rest in
        (reads_element first q.0, subst (λ t. ReadsRun s bytes t (length ys) X (each_meaning m ys)) (next_at p (length xs) (size_of s.layouts X)) q.1)

    clean_front : (xs ys : List A) (p : ℕ) → CleanRun s bytes p (length (xs ++ ys)) X → CleanRun s bytes p (length xs) X × CleanRun s bytes (p + length xs * size_of s.layouts X) (length ys) X
    clean_front [] ys p h = (let same : p ≡ p + 0 * size_of s.layouts X = omega arith in (clean_none, subst (λ q. CleanRun s bytes q (length ys) X) same h))
    clean_front (x ∷ xs) ys p (clean_element first rest) =
        let q = clean_front xs ys (p + size_of s.layouts X) rest in
        (clean_element first q.0, subst (λ t. CleanRun s bytes t (length ys) X) (next_at p (length xs) (size_of s.layouts X)) q.1)

  module _ (n : ℕ) where
    its_meaning : (x : List A) → length x ≡ n → list (each_meaning m x) ≡ array_meaning n m x
    its_meaning x count = (let whole : are x n ≡ true = subst (λ c. are x c ≡ true) count (they_are x) in sym (ap (λ c. value_if c (list (each_meaning m x))) whole))

    array_own : (x : List A) → length x ≡ n → EachOwnsNothing D X k m x → OwnsNothing D (array n X) (array_keys n k x) (array_meaning n m x)
    array_own x count h w = subst (λ v. Serialized D (array n X) (array_keys n k x) (array_meaning n m x) v w w) (its_meaning x count)
        (serialized_array D X n k m x count w w (each_meaning m x) (serialized_as_each_is D X k m x h w))

    arrays_own : (xss : List (List A)) → Whole n xss → EachOwnsNothing D X k m (flat xss) → EachOwnsNothing D (array n X) (array_keys n k) (array_meaning n m) xss
    arrays_own [] each h = tt
    arrays_own (x ∷ xss) each h = (let q = first_own x (flat xss) h in (array_own x each.0 q.0, arrays_own xss each.1 q.1))

    module _ (s : SchemaTable) (bytes : List ℕ) where
      arrays_read : (xss : List (List A)) → Whole n xss → (p : ℕ) → ReadsRun s bytes p (length (flat xss)) X (each_meaning m (flat xss))
          → ReadsRun s bytes p (length xss) (array n X) (each_meaning (array_meaning n m) xss)
      arrays_read [] each p h = reads_none
      arrays_read (x ∷ xss) each p h =
          let q = reads_front s bytes x (flat xss) p h in
          let there : p + length x * size_of s.layouts X ≡ p + n * size_of s.layouts X = ap (λ c. p + c * size_of s.layouts X) each.0 in
          let first : ReadsRun s bytes p n X (each_meaning m x) = subst (λ c. ReadsRun s bytes p c X (each_meaning m x)) each.0 q.0 in
          let rest : ReadsRun s bytes (p + n * size_of s.layouts X) (length (flat xss)) X (each_meaning m (flat xss)) = subst (λ t. ReadsRun s bytes t (length (flat xss)) X (each_meaning m (flat xss))) there q.1 in
          reads_element (subst (λ v. Reads s bytes p (array n X) v) (its_meaning x each.0) (reads_array first)) (arrays_read xss each.1 (p + n * size_of s.layouts X) rest)

      arrays_clean : (xss : List (List A)) → Whole n xss → (p : ℕ) → CleanRun s bytes p (length (flat xss)) X → CleanRun s bytes p (length xss) (array n X)
      arrays_clean [] each p h = clean_none
      arrays_clean (x ∷ xss) each p h =
          let q = clean_front s bytes x (flat xss) p h in
          let there : p + length x * size_of s.layouts X ≡ p + n * size_of s.layouts X = ap (λ c. p + c * size_of s.layouts X) each.0 in
          let first : CleanRun s bytes p n X = subst (λ c. CleanRun s bytes p c X) each.0 q.0 in
          clean_element (clean_array first) (arrays_clean xss each.1 (p + n * size_of s.layouts X) (subst (λ t. CleanRun s bytes t (length (flat xss)) X) there q.1))

    module _ (L : Layout) (layout : HasLayout D X L) (is : IsAlign L.align) (xss : List (List A)) (all : All (λ x. length x ≡ n) xss) (old new : WriterState) where
      arrays_copied : AreCopied D X L k m (flat xss) old new → AreCopied D (array n X) (array_layout n L) (array_keys n k) (array_meaning n m) xss old new
      arrays_copied h =
          let each : Whole n xss = recursion_from_All (λ x. length x ≡ n) xss all in
          record {
            own_nothing = arrays_own xss each h.own_nothing;
            bytes = h.bytes;
            sized = h.sized ∙ ap (λ c. c * L.size) (flat_length n xss each) ∙ mul_assoc (length xss) n L.size;
            resolved = λ p. record {
              reads = λ s bytes l stands. arrays_read s bytes xss each p ((h.resolved p).reads s bytes l stands);
              clean = λ s bytes l stands. arrays_clean s bytes xss each p ((h.resolved p).clean s bytes l stands);
            };
            grown = h.grown;
            states = h.states;
          }

      -- in a contract's form: where the slice of all is copied, so are the arrays
      pub arrays_copied_if : (r : Result (Option ℕ) Error) (ys : List A) → ys ≡ flat xss → IfOk r (λ o. IfSome o (λ p. (p ≡ copies_from L (length old.bytes)) × AreCopied D X L k m ys old new))
          → IfOk r (λ o. IfSome o (λ p. (p ≡ copies_from L (length old.bytes)) × AreCopied D (array n X) (array_layout n L) (array_keys n k) (array_meaning n m) xss old new))
      arrays_copied_if (Ok (Some p)) ys same h = (h.0, arrays_copied (subst (λ zs. AreCopied D X L k m zs old new) same h.1))
      arrays_copied_if (Ok None) ys same h = tt
      arrays_copied_if (Err x) ys same h = tt

      pub arrays_stored_if : (r : Result (Option ℕ) Error)
          → IfOk r (λ o. IfSome o (λ p. (p ≡ copies_from L (length old.bytes)) × AreCopied D (array n X) (array_layout n L) (array_keys n k) (array_meaning n m) xss old new))
          → IfOk r (λ o. IfSome o (λ p. SerializedRegion D (run (array n X)) (length xss) (each_keys (array_keys n k) xss) (list (each_meaning (array_meaning n m) xss)) p old new))
      arrays_stored_if (Ok (Some p)) h =
          copied_stored D (array n X) (array_layout n L) (array_keys n k) (array_meaning n m) xss old new p (array_has_layout n D X L layout) is h.0 h.1
      arrays_stored_if (Ok None) h = tt
      arrays_stored_if (Err x) h = tt

      -- where its copy is refused, so is that of the arrays
      pub arrays_uncopied : (ys : List A) (e : Error) → ys ≡ flat xss → EachOwnsNothing D X k m ys × IsCopyRefused (copies_to L (length ys) (length old.bytes)) old new e
          → EachOwnsNothing D (array n X) (array_keys n k) (array_meaning n m) xss × IsCopyRefused (copies_to (array_layout n L) (length xss) (length old.bytes)) old new e
      arrays_uncopied ys e same h =
          let each : Whole n xss = recursion_from_All (λ x. length x ≡ n) xss all in
          let many : length ys * L.size ≡ length xss * (n * L.size) = ap (λ zs. length zs * L.size) same ∙ ap (λ c. c * L.size) (flat_length n xss each) ∙ mul_assoc (length xss) n L.size in (
            arrays_own xss each (subst (λ zs. EachOwnsNothing D X k m zs) same h.0),
            subst (λ c. IsCopyRefused (copies_from L (length old.bytes) + c) old new e) many h.1,
          )

      pub arrays_unstored : (e : Error) → EachOwnsNothing D (array n X) (array_keys n k) (array_meaning n m) xss
          × IsCopyRefused (copies_to (array_layout n L) (length xss) (length old.bytes)) old new e
          → IsRegionRefused D (run (array n X)) (length xss) (each_keys (array_keys n k) xss) (list (each_meaning (array_meaning n m) xss)) old new e
      arrays_unstored e h = copied_unstored D (array n X) (array_layout n L) (array_keys n k) (array_meaning n m) xss old new e (array_has_layout n D X L layout) is h.0 h.1
