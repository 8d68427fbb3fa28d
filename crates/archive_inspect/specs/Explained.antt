-- What is explained of a buffer.
use Rattle.std.specs.Prelude.{◌≡◌, ◌≢◌, ℕ, pos, List, Result, Ok, Err, Option, Some, None, IfSome, IfNone}
use Rattle.archive_check.specs.declared.format.error.Error.{Error}
use Rattle.archive_check.specs.declared.format.error.Error.TheVariants.{OutOfMemory}
use Rattle.archive_inspect.specs.declared.explain.Explanation.{Explanation}
use Rattle.archive_inspect.specs.declared.explain.FaultPlace.{FaultPlace}
use Rattle.archive_inspect.specs.declared.form.Form.{Form}
use Rattle.archive_schema.specs.declared.shape.Schema.{Schema as RustSchema}
use Rattle.archive_check.specs.Archives.{IsArchive, IsFaulty, root_in}
use Rattle.archive_check.specs.Definitions.{Definitions, HasLayout, Knows}
use Rattle.archive_check.specs.Layout.{Layout}
use Rattle.archive_check.specs.Shape.{Shape}
use Rattle.archive_check.specs.Reads.{SchemaTable}
use Rattle.archive_check.specs.Trail.{Fault}
use Rattle.archive_check.specs.Words.Faults.{IsFor}
use Rattle.archive_inspect.specs.Ways.{FaultBy}
use Rattle.archive_schema.specs.Schemas.{root_of, definitions_in}

-- A place that is told of a fault: no step is left out, and the way leads from the root to the position, where a test is false, which the error says.
pub record IsPlaceOf (D : Definitions) (bytes : List ℕ) (root : ℕ) (X : Shape) (e : Error) (place : FaultPlace) : Type 0 where
  pub at : ℕ
  pub fault : Fault
  pub whole : place.way.left_out ≡ 0
  pub told : place.fault.position ≡ pos at
  pub said : IsFor fault e
  pub leads : (s : SchemaTable) → Knows s D → FaultBy s bytes root X place.way.steps.items at fault

-- What is explained where a check returned this error, which isn't of memory.
pub record ExplainsError (D : Definitions) (bytes : List ℕ) (root : ℕ) (X : Shape) (e : Error) (x : Explanation) : Type 0 where
  pub other : e ≢ OutOfMemory
  pub same : x.refusal ≡ e
  pub placed : IfSome x.place (IsPlaceOf D bytes root X e)

-- What is explained where the check by a schema returned this: nothing if it accepted, else its error.
abbrev pub IsExplained : RustSchema → List ℕ → ℕ → Result (Unit {0}) Error → Option Explanation → Type 0
IsExplained f bytes root (Ok u) explanation = explanation ≡ None
IsExplained f bytes root (Err e) explanation = (x : Explanation) × (explanation ≡ Some x) × ExplainsError (definitions_in f) bytes root (root_of f) e x

-- Nothing is explained of an archive alone; of all else the first fault of the check is, and if a place is told, it is one of that fault.
pub record ExplainsBuffer (D : Definitions) (bytes : List ℕ) (root : ℕ) (X : Shape) (answer : Option Explanation) : Type 0 where
  pub accepted : IfNone answer (IsArchive D bytes root X)
  pub refused : IfSome answer (λ x. IsFaulty D bytes None root X x.refusal)
  pub exact : IfSome answer (λ x. IsArchive D bytes root X → ⊥)
  pub placed : IfSome answer (λ x. IfSome x.place (IsPlaceOf D bytes root X x.refusal))

-- The same of a whole buffer by a form, its root at the end.
abbrev pub ExplainsWhole : Form → List ℕ → Option Explanation → Type 0
ExplainsWhole f bytes answer =
    (L : Layout) → HasLayout (definitions_in f.schema) (root_of f.schema) L
    → ExplainsBuffer (definitions_in f.schema) bytes (root_in bytes L) (root_of f.schema) answer
