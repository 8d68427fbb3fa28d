-- Elements one after another: what they mean, what their writing leaves and was planned to come to, and why it is refused.
use Rattle.std.specs.Prelude.{◌≡◌, ◌⊎◌, ℕ, ◌+◌, ◌*◌, ◌≤◌, ◌^◌, List, [], ◌∷◌, ◌++◌, length}
use Rattle.archive_check.specs.Shape.{Shape}
use Rattle.archive_check.specs.Layout.{Layout}
use Rattle.archive_check.specs.Definitions.{Definitions, Knows, HasLayout}
use Rattle.archive_check.specs.Value.{Value, Values, no_value, value}
use Rattle.archive_check.specs.Reads.{SchemaTable, ReadsRun}
use Rattle.archive_check.specs.CleanRegions.{Occurs, CleanRun}
use Rattle.archive_check.specs.WriterState.{WriterState}
use Rattle.archive_check.specs.declared.format.error.Error.{Error}
use Rattle.archive_check.specs.declared.format.error.Error.TheVariants.{LayoutTooLarge}
use Rattle.archive_check.specs.Denotes.{Naming}
use Rattle.archive_types.specs.Writing.{NameMap, WritesAll}
use Rattle.archive_types.specs.Plans.{Cursor, cursor, StandsAt, Step, PlansRun, Whatever, Foreseen}
use Rattle.archive_types.specs.Causes.{Explains, IsOwnCause, PartOfRun, HindersPart, HindersPartAt, HindersSome}

-- What each of the values means.
abbrev pub each_meaning : {A : Type 0} → (A → Value) → List A → Values
each_meaning m [] = no_value
each_meaning m (x ∷ xs) = value (m x) (each_meaning m xs)

-- What is read in the place of each, which has its own resolver.
abbrev pub each_flat : {A R : Type 0} → (A → R → Value) → List A → List R → Values
each_flat f [] rs = no_value
each_flat f (x ∷ xs) [] = no_value
each_flat f (x ∷ xs) (r ∷ rs) = value (f x r) (each_flat f xs rs)

-- The keys of all.
abbrev pub each_keys : {A : Type 0} → (A → List Naming) → List A → List Naming
each_keys k [] = []
each_keys k (x ∷ xs) = k x ++ each_keys k xs

-- There are as many resolvers as values, each of its own value.
abbrev pub EachBelongs : {A R : Type 0} → (A → R → Type 0) → List A → List R → Type 0
EachBelongs b [] [] = Unit {0}
EachBelongs b [] (r ∷ rs) = ⊥
EachBelongs b (x ∷ xs) [] = ⊥
EachBelongs b (x ∷ xs) (r ∷ rs) = b x r × EachBelongs b xs rs

-- A plan of what n elements own, of which this holds.
pub record RunPlan (s : SchemaTable) (names : NameMap) (n : ℕ) (X : Shape) (vs : Values) (a : Cursor) (holds : Values → List Step → Cursor → Type 0) : Type 0 where
  pub flats : Values
  pub steps : List Step
  pub stop : Cursor
  pub plans : PlansRun s names n X vs a flats steps stop
  pub such : holds flats steps stop

-- There is one, from wherever a writer stands.
abbrev pub HasRunPlan : Definitions → Shape → ℕ → List Naming → Values → Type 0
HasRunPlan D X n keys vs = (a : Cursor) → Whatever D keys (λ s names. RunPlan s names n X vs a (λ ws C b. Unit {0}))

-- Elements were serialized one after another, as planned. `flats` are the values as they will be read.
pub data SerializedRun (D : Definitions) (X : Shape) (n : ℕ) (keys : List Naming) (vs flats : Values) (old new : WriterState) : Type 0 where
  serialized_run : WritesAll D old new keys flats vs → Foreseen D keys (cursor old) (λ s names. RunPlan s names n X vs (cursor old) (λ ws C b. (ws ≡ flats) × StandsAt b new))
      → SerializedRun D X n keys vs flats old new

-- What hinders the writing of what elements own: a step of its plan, or a part of one of them, wherever it will lie.
pub record HindersElements (D : Definitions) (X : Shape) (n : ℕ) (keys : List Naming) (vs : Values) (a : Cursor) (e : Error) : Type 0 where
  pub named : IsOwnCause e
  pub cause : Foreseen D keys a (λ s names. RunPlan s names n X vs a (λ ws C b. HindersSome s C e ⊎ ((o : ℕ) × (Y : Shape) × (w : Value) × PartOfRun s n X ws o Y w × HindersPart Y w e)))

abbrev pub RunReaches : Definitions → Shape → ℕ → List Naming → Values → Cursor → ℕ → Type 0
RunReaches D X n keys vs a m = Foreseen D keys a (λ s names. RunPlan s names n X vs a (λ ws C b. m ≤ b.position))

-- Why what elements own wasn't written.
abbrev pub IsRunRefused : Definitions → Shape → ℕ → List Naming → Values → WriterState → WriterState → Error → Type 0
IsRunRefused D X n keys vs old new = Explains (HindersElements D X n keys vs (cursor old)) (RunReaches D X n keys vs (cursor old)) old new

-- n elements themselves were appended.
pub record PutsRun (D : Definitions) (old new : WriterState) (X : Shape) (L : Layout) (n : ℕ) (flats : Values) : Type 0 where
  pub layout : HasLayout D X L
  pub added : List ℕ
  pub grown : new.bytes ≡ old.bytes ++ added
  pub sized : length added ≡ n * L.size
  pub reads : (s : SchemaTable) (bytes : List ℕ) → Knows s D → Occurs bytes (length old.bytes) added → ReadsRun s bytes (length old.bytes) n X flats
  pub clean : (s : SchemaTable) (bytes : List ℕ) → Knows s D → Occurs bytes (length old.bytes) added → CleanRun s bytes (length old.bytes) n X
  pub states : new.states ≡ old.states

-- What hinders the resolving of elements from p on: a part of one of them.
pub record HindersEachAt (D : Definitions) (X : Shape) (n : ℕ) (flats : Values) (p : ℕ) (e : Error) : Type 0 where
  pub named : IsOwnCause e
  pub cause : (s : SchemaTable) → Knows s D → (o : ℕ) × (Y : Shape) × (w : Value) × PartOfRun s n X flats o Y w × HindersPartAt Y (p + o) w e

-- And of their own region there: its end is above `usize::MAX`, too.
abbrev pub HindersRunAt : Definitions → Shape → Layout → ℕ → Values → ℕ → Error → Type 0
HindersRunAt D X L n flats p e = ((e ≡ LayoutTooLarge) × (2 ^ 64 ≤ p + n * L.size)) ⊎ HindersEachAt D X n flats p e
