-- Arrays as sources. In a contract an array is a list, and it has as many elements as the type says; a law speaks of lists of any length. One of another
-- length is no value of the type: it would mean a name that has to name two things, of which no map is.
use Rattle.std.specs.Prelude.{◌≡◌, ℕ, zero, suc, Bool, true, false, List, [], ◌∷◌, length, Option, None, Some, Contains}
use Rattle.std.proofs.Common.{refl, sym, ap, ◌∙◌, arith}
use Rattle.archive_check.specs.Shape.{Shape, array, text}
use Rattle.archive_check.specs.Definitions.{Definitions, Knows}
use Rattle.archive_check.specs.Value.{Value, Values, list, null, shared_value}
use Rattle.archive_check.specs.Reads.{SchemaTable, ReadsRun}
use Rattle.archive_check.specs.CleanRegions.{Occurs, CleanRun}
use Rattle.archive_check.specs.Tour.{Entry}
use Rattle.archive_check.specs.Reached.{Names, names_itself}
use Rattle.archive_check.specs.Denotes.{Naming}
use Rattle.archive_types.specs.Writing.{NameMap, AreNamed, HasKeys, key_at_once, IsKeyed}
use Rattle.archive_types.specs.Plans.{plans_array, HasPlan}
use Rattle.archive_types.specs.Runs.{each_meaning, each_keys, HasRunPlan}
use Rattle.archive_types.specs.Members.PlannedOwners.{each_planned}
use Rattle.archive_types.specs.Members.Keyed.{each_keyed}

-- Whether there are n.
abbrev pub are : {A : Type 0} → List A → ℕ → Bool
are [] zero = true
are [] (suc n) = false
are (x ∷ xs) zero = false
are (x ∷ xs) (suc n) = are xs n

-- What is named twice: a text of no byte, and one of one.
abbrev pub text_of : ℕ → Entry × Value
text_of n = (record { flavor = record { name = []; cycles = false }; pointee = text; length = n }, null)

abbrev pub named_twice : List Naming
named_twice = (0, text_of 0) ∷ (0, text_of 1) ∷ []

abbrev pub value_if : Bool → Value → Value
value_if true v = v
value_if false v = shared_value 0

abbrev pub keys_if : Bool → List Naming → List Naming
keys_if true ks = ks
keys_if false ks = named_twice

-- What an array of n means: its elements, in order.
abbrev pub array_meaning : {A : Type 0} → ℕ → (A → Value) → List A → Value
array_meaning n m xs = value_if (are xs n) (list (each_meaning m xs))

-- The keys of all.
abbrev pub array_keys : {A : Type 0} → ℕ → (A → List Naming) → List A → List Naming
array_keys n k xs = keys_if (are xs n) (each_keys k xs)

-- These bytes, at p, are clean and read as n elements.
pub record ResolvesRun (D : Definitions) (p : ℕ) (a : List ℕ) (n : ℕ) (X : Shape) (flats : Values) : Type 0 where
  pub reads : (s : SchemaTable) (bytes : List ℕ) → Knows s D → Occurs bytes p a → ReadsRun s bytes p n X flats
  pub clean : (s : SchemaTable) (bytes : List ℕ) → Knows s D → Occurs bytes p a → CleanRun s bytes p n X

-- the laws

pub as_many : {A : Type 0} (xs : List A) (n : ℕ) → are xs n ≡ true → length xs ≡ n
as_many [] zero e = refl
as_many [] (suc n) e = absurd (let no : false ≡ true = e in cc)
as_many (x ∷ xs) zero e = absurd (let no : false ≡ true = e in cc)
as_many (x ∷ xs) (suc n) e = ap suc (as_many xs n e)

pub they_are : {A : Type 0} (xs : List A) → are xs (length xs) ≡ true
they_are [] = refl
they_are (x ∷ xs) = they_are xs

-- Nothing stands in a null.
null_has_keys : (ks : List Naming) → HasKeys ks null
null_has_keys ks k n = elim n [ ]

twice_null : (k : Naming) → Contains named_twice k → HasKeys named_twice k.1.1
twice_null k (zero, l, e) = (let is : null ≡ k.1.1 = ap (λ x. x.1.1) e in rw (sym is) (null_has_keys named_twice))
twice_null k (suc zero, l, e) = (let is : null ≡ k.1.1 = ap (λ x. x.1.1) e in rw (sym is) (null_has_keys named_twice))
twice_null k (suc (suc i), l, e) = absurd (omega (arith, l))

twice_first : (k : Naming) → Contains named_twice k → 0 ≡ k.0
twice_first k (zero, l, e) = ap (λ x. x.0) e
twice_first k (suc zero, l, e) = ap (λ x. x.0) e
twice_first k (suc (suc i), l, e) = absurd (omega (arith, l))

twice_has : {k : ℕ} → Names k (shared_value 0) → (x : Entry × Value) × Contains named_twice (k, x)
twice_has names_itself = (text_of 0, (0, omega arith, refl))

pub twice_keyed : IsKeyed named_twice (shared_value 0)
twice_keyed = record {
  value = λ k n. twice_has n;
  named = twice_null;
  only = λ k c. rw (sym (twice_first k c)) (key_at_once names_itself);
}

-- No map has both.
abbrev length_named : Option (Entry × Value) → ℕ
length_named None = 0
length_named (Some x) = x.0.length

pub no_two : (names : NameMap) → AreNamed names named_twice → ⊥
no_two names h = (let same : length_named (Some (text_of 0)) ≡ length_named (Some (text_of 1)) = ap length_named (sym (h.0) ∙ h.1.0) in omega (arith, same))

-- The keys of an array, from those of each element.
pub array_keyed : {A : Type 0} (n : ℕ) (k : A → List Naming) (m : A → Value) → ((x : A) → IsKeyed (k x) (m x)) → (xs : List A) → IsKeyed (array_keys n k xs) (array_meaning n m xs)
array_keyed n k m h xs = by_length (are xs n)
  where
    by_length : (b : Bool) → IsKeyed (keys_if b (each_keys k xs)) (value_if b (list (each_meaning m xs)))
    by_length true = each_keyed k m h xs
    by_length false = twice_keyed

-- The plan of an array, from that of each element.
pub run_planned : (D : Definitions) (X : Shape) (n : ℕ) (ks : List Naming) (vs : Values) → HasRunPlan D X n ks vs → HasPlan D (array n X) ks (list vs)
run_planned D X n ks vs h a s names k m = (let q = h a s names k m in record { flat = list q.flats; steps = q.steps; stop = q.stop; plans = plans_array q.plans; such = tt })

pub array_planned : {A : Type 0} (n : ℕ) (D : Definitions) (X : Shape) (k : A → List Naming) (m : A → Value) → ((x : A) → HasPlan D X (k x) (m x)) → (xs : List A)
    → HasPlan D (array n X) (array_keys n k xs) (array_meaning n m xs)
array_planned n D X k m h xs = by_length (are xs n) refl
  where
    by_length : (b : Bool) → are xs n ≡ b → HasPlan D (array n X) (keys_if b (each_keys k xs)) (value_if b (list (each_meaning m xs)))
    by_length true all = (let count : length xs ≡ n = as_many xs n all in run_planned D X n (each_keys k xs) (each_meaning m xs) (rw (← count) (each_planned D X k m h xs)))
    by_length false all = λ a s names known named. absurd (no_two names named)
