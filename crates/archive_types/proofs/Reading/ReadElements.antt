-- Elements are read back one after another: what a loop over them keeps, and what it comes to, whether they are a run or an array.
use Rattle.std.proofs.Common.{◌≡◌, Result, Ok, Err, IfOk, inl, inr, ⊎_elim, ℕ, ◌+◌, ◌*◌, ◌<◌, List, [], ◌∷◌, ◌++◌, length, refl, sym, ap, subst, ◌∙◌, append-nil, append_assoc, Bool}
use Rattle.archive_check.specs.declared.format.error.Error.{Error}
use Rattle.archive_check.specs.Shape.{Shape, Pointee, one}
use Rattle.archive_check.specs.Layout.{Layout}
use Rattle.archive_check.specs.Value.{Value, list, Values, value}
use Rattle.archive_check.specs.Reads.{SchemaTable, ReadsRun}
use Rattle.archive_check.specs.Tour.{Contents}
use Rattle.archive_check.specs.Denotes.{Naming}
use Rattle.archive_check.specs.Definitions.{Definitions, HasLayout}
use Rattle.archive_check.specs.Pooled.{Entries}
use Rattle.archive_check.specs.Entries.{ReadsBack, RefusesReading}
use Rattle.archive_check.proofs.Reading.ReadParts.{IsPart, ReadFirst, none_read, one_more_read, each, elements_read_back, element_cyclic, run_elements, run_element, array_elements, array_element}
use Rattle.archive_types.specs.Runs.{each_meaning, each_keys}
use Rattle.archive_types.specs.ElementsRead.{AreAllOf}
use Rattle.archive_types.specs.Members.Arrays.{value_if, keys_if, array_meaning, array_keys}
use Rattle.archive_types.proofs.Writing.Arrays.{all_there}

each_same : {A : Type 0} (meaning : A → Value) (items : List A) → each meaning items ≡ each_meaning meaning items
each_same meaning [] = refl
each_same meaning (x ∷ xs) = ap (value (meaning x)) (each_same meaning xs)

keys_more : {A : Type 0} (keys : A → List Naming) (items : List A) (x : A) → each_keys keys items ++ keys x ≡ each_keys keys (items ++ x ∷ [])
keys_more keys [] x = sym (append-nil (keys x))
keys_more keys (y ∷ ys) x = append_assoc (keys y) (each_keys keys ys) (keys x) ∙ ap (λ l. keys y ++ l) (keys_more keys ys x)

-- what stands here is so many elements, one behind another
pub record HasElements (D : Definitions) (X : Shape) (L : Layout) (bytes : List ℕ) (q : ℕ) (P : Pointee) (n count : ℕ) : Type 0 where
  pub all : (s : SchemaTable) (v : Value) → Contents s bytes q P n v → (vs : Values) × (v ≡ list vs) × ReadsRun s bytes q count X vs
  pub element : (k : ℕ) → k < count → IsPart D bytes q P n (q + k * L.size) X

-- these are the first of them, read back
abbrev pub FirstElements : {A : Type 0} → Bool → Definitions → Shape → Layout → List ℕ → ℕ → Pointee → ℕ → (A → Value) → (A → List Naming) → Entries → Entries → List A → Type 0
FirstElements keeps D X L bytes q P n meaning keys old new items = ReadFirst keeps D bytes q P n (λ k. q + k * L.size) (λ k. X) old new meaning items (each_keys keys items)

module _ (D : Definitions) (X : Shape) (L : Layout) (laid : HasLayout D X L) (bytes : List ℕ) (q : ℕ) where
  pub all_have : (n : ℕ) (P : Pointee) (m : ℕ) → AreAllOf X n P m → HasElements D X L bytes q P m n
  all_have n P m (inl h) = rw (h.0, h.1) (record { all = run_elements D bytes q X L laid L.size refl n; element = run_element D bytes q X L laid L.size refl n })
  all_have n P m (inr h) = rw h (record { all = array_elements D bytes q X L laid L.size refl n m; element = array_element D bytes q X L laid L.size refl n m })

  module _ (P : Pointee) (n count : ℕ) (has : HasElements D X L bytes q P n count) {A : Type 0} (meaning : A → Value) (keys : A → List Naming) (old : Entries) where
    pub elements_none : {keeps : Bool} → FirstElements keeps D X L bytes q P n meaning keys old old []
    elements_none = none_read D bytes q P n (λ k. q + k * L.size) (λ k. X) meaning old

    pub elements_more : {keeps : Bool} (mid new : Entries) (items : List A) (x : A) (i : ℕ) (Q : Pointee) → Q ≡ one X → length items ≡ i → i < count → FirstElements keeps D X L bytes q P n meaning keys old mid items
        → ReadsBack keeps D bytes (q + i * L.size) Q 0 mid new (meaning x) (keys x) → FirstElements keeps D X L bytes q P n meaning keys old new (items ++ x ∷ [])
    elements_more mid new items x i Q is here below h g =
        let same : q + i * L.size ≡ q + length items * L.size = ap (λ c. q + c * L.size) (sym here) in
        rw (← keys_more keys items x)
        (one_more_read D bytes q P n (λ k. q + k * L.size) (λ k. X) meaning old mid new items (each_keys keys items) h x (keys x) (q + i * L.size) X same refl (has.element i below) (rw is at g))

    pub elements_all : {keeps : Bool} (new : Entries) (items : List A) → length items ≡ count → FirstElements keeps D X L bytes q P n meaning keys old new items → ReadsBack keeps D bytes q P n old new (list (each_meaning meaning items)) (each_keys keys items)
    elements_all new items whole h = rw (← each_same meaning items) (elements_read_back D bytes q X L laid L.size refl P n count has.all has.element old new meaning items (each_keys keys items) whole h)

    pub element_refused : {keeps : Bool} (mid : Entries) (items : List A) (i : ℕ) (Q : Pointee) (e : Error) → Q ≡ one X → i < count → FirstElements keeps D X L bytes q P n meaning keys old mid items
        → RefusesReading D bytes (q + i * L.size) Q 0 mid e → RefusesReading D bytes q P n old e
    element_refused mid items i Q e is below h r = ⊎_elim inl
        (λ c. inr (c.0, element_cyclic D bytes q X L laid L.size refl P n count has.all has.element old mid i h.kept below (rw is at c.1)))
        r

-- of an array there are as many as its type says
pub array_read : {A : Type 0} {keeps : Bool} (D : Definitions) (bytes : List ℕ) (q : ℕ) (P : Pointee) (m n : ℕ) (meaning : A → Value) (keys : A → List Naming) (old new : Entries) (items : List A) → length items ≡ n
    → ReadsBack keeps D bytes q P m old new (list (each_meaning meaning items)) (each_keys keys items) → ReadsBack keeps D bytes q P m old new (array_meaning n meaning items) (array_keys n keys items)
array_read {keeps = keeps} D bytes q P m n meaning keys old new items whole h =
    subst (λ c. ReadsBack keeps D bytes q P m old new (value_if c (list (each_meaning meaning items))) (keys_if c (each_keys keys items))) (sym (all_there items n whole)) h

-- in a contract's form
pub ok_from : {A : Type 0} {P Q : A → Type 0} (r : Result A Error) → IfOk r P → ((a : A) → P a → Q a) → IfOk r Q
ok_from (Ok a) h f = f a h
ok_from (Err e) h f = tt
