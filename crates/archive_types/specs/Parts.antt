-- How the parts of a value are serialized and resolved one after another, and why they are refused.
use Rattle.std.specs.Prelude.{◌≡◌, ◌⊎◌, ℕ, ◌+◌, ◌<◌, ◌≤◌, ◌^◌, List, length}
use Rattle.archive_check.specs.Shape.{Shape, Parts}
use Rattle.archive_check.specs.Definitions.{Definitions, Knows}
use Rattle.archive_check.specs.Value.{Value, list, Values}
use Rattle.archive_check.specs.Reads.{SchemaTable, ReadsParts}
use Rattle.archive_check.specs.CleanRegions.{Occurs, IsZeroed, CleanParts}
use Rattle.archive_check.specs.WriterState.{WriterState}
use Rattle.archive_check.specs.declared.format.error.Error.{Error}
use Rattle.archive_check.specs.Denotes.{Naming}
use Rattle.archive_types.specs.Writing.{NameMap, IsKeyed, WritesAll}
use Rattle.archive_types.specs.Plans.{Cursor, cursor, StandsAt, Step, PlansParts, Whatever, Foreseen}
use Rattle.archive_types.specs.Causes.{Explains, PartOfParts, HindersPart, HindersPartAt, HindersSome, IsOwnCause}

-- A plan of values one after another, of which this holds.
pub record PartsPlan (s : SchemaTable) (names : NameMap) (ps : Parts) (vs : Values) (a : Cursor) (holds : Values → List Step → Cursor → Type 0) : Type 0 where
  pub flats : Values
  pub steps : List Step
  pub stop : Cursor
  pub plans : PlansParts s names ps vs a flats steps stop
  pub such : holds flats steps stop

-- There is one, from wherever a writer stands.
pub record HavePlan (D : Definitions) (ps : Parts) (keys : List Naming) (vs : Values) : Type 0 where
  pub plan : (a : Cursor) → Whatever D keys (λ s names. PartsPlan s names ps vs a (λ ws C b. Unit {0}))

-- Of each value of a type, the same.
pub record ArePlanned {T : Type 0} (D : Definitions) (ps : Parts) (keys : T → List Naming) (meanings : T → Values) : Type 0 where
  pub each : (v : T) → HavePlan D ps (keys v) (meanings v)

-- And its keys are those that its parts lead to.
pub record AreKeyed {T : Type 0} (keys : T → List Naming) (meanings : T → Values) : Type 0 where
  pub each : (v : T) → IsKeyed (keys v) (list (meanings v))

-- Values one after another were serialized, as planned.
pub data SerializedParts (D : Definitions) (ps : Parts) (keys : List Naming) (vs flats : Values) (old new : WriterState) : Type 0 where
  serialized_parts : WritesAll D old new keys flats vs → Foreseen D keys (cursor old) (λ s names. PartsPlan s names ps vs (cursor old) (λ ws C b. (ws ≡ flats) × StandsAt b new))
      → SerializedParts D ps keys vs flats old new

-- What hinders that: a step of the plan, or a part of one of them, wherever they will lie.
pub record HindersParts (D : Definitions) (ps : Parts) (keys : List Naming) (vs : Values) (a : Cursor) (e : Error) : Type 0 where
  pub named : IsOwnCause e
  pub cause : Foreseen D keys a (λ s names. PartsPlan s names ps vs a (λ ws C b. HindersSome s C e ⊎ ((Y : Shape) × (w : Value) × HindersPart Y w e × ((at : ℕ) → (o : ℕ) × PartOfParts s at ps ws o Y w))))

-- The plan goes on to n at least.
abbrev pub PartsReach : Definitions → Parts → List Naming → Values → Cursor → ℕ → Type 0
PartsReach D ps keys vs a n = Foreseen D keys a (λ s names. PartsPlan s names ps vs a (λ ws C b. n ≤ b.position))

-- Why they weren't serialized.
abbrev pub ArePartsRefused : Definitions → Parts → List Naming → Values → WriterState → WriterState → Error → Type 0
ArePartsRefused D ps keys vs old new = Explains (HindersParts D ps keys vs (cursor old)) (PartsReach D ps keys vs (cursor old)) old new

-- A place of parts, from an offset on: at least as many zeros as they take, and its end fits.
pub record ZeroedParts (end start p : ℕ) (bytes : List ℕ) : Type 0 where
  pub room : end ≤ start + length bytes
  pub zeroed : IsZeroed bytes
  pub ends : p + (start + length bytes) < 2 ^ 64

-- These bytes, which stand at an offset from p, are clean, and read as the parts from there on.
pub record ResolvesParts (D : Definitions) (p at : ℕ) (a : List ℕ) (ps : Parts) (flats : Values) : Type 0 where
  pub reads : (s : SchemaTable) (bytes : List ℕ) → Knows s D → Occurs bytes (p + at) a → ReadsParts s bytes p at ps flats
  pub clean : (s : SchemaTable) (bytes : List ℕ) → Knows s D → Occurs bytes (p + at) a → CleanParts s bytes p at ps (p + (at + length a))

-- What hinders the resolving of parts from an offset on, of what stands at p: a part of one of them.
pub record HindersPartsAt (D : Definitions) (ps : Parts) (flats : Values) (p at : ℕ) (e : Error) : Type 0 where
  pub named : IsOwnCause e
  pub cause : (s : SchemaTable) → Knows s D → (o : ℕ) × (Y : Shape) × (w : Value) × PartOfParts s at ps flats o Y w × HindersPartAt Y (p + o) w e
