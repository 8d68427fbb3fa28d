-- Schemas of shapes that are given with a table of definitions.
use Rattle.std.specs.Prelude.{◌≡◌, ◌⊎◌, ◌-◌, ℕ, List, Result, Some, None, Contains}
use Rattle.archive_check.specs.declared.format.error.Error.{Error}
use Rattle.archive_check.specs.declared.format.error.Error.TheVariants.{OutOfMemory, ShapeConflict, RecursiveLayout}
use Rattle.archive_schema.specs.declared.shape.Schema.{Schema as RustSchema}
use Rattle.archive_check.specs.Shape.{Name, Shape, Table, definition}
use Rattle.archive_check.specs.Defined.{Reaches, HeldIn}
use Rattle.archive_check.specs.Definitions.{listed, HasLayout}
use Rattle.archive_check.specs.Layout.{Layout}
use Rattle.archive_check.specs.Archives.{Answers, root_in}
use Rattle.archive_check.specs.MissingNames.{Arranged}
use Rattle.archive_schema.specs.Schemas.{root_of, definitions_in}
use Rattle.archive_schema.specs.plan.Names.{HasAll}

-- Of the definitions given those that a shape needs, each once, and each behind those that it holds.
pub record IsTaken (given : Table) (X : Shape) (table : Table) : Type 0 where
  pub known : (name : Name) (Y : Shape) → definition table name ≡ Some Y → definition given name ≡ Some Y
  pub complete : HasAll table X
  pub ordered : Arranged table table

-- The schema is of this shape, and its definitions are among those given.
pub record IsSchemaAmong (s : RustSchema) (given : Table) (X : Shape) : Type 0 where
  pub root : root_of s ≡ X
  pub known : (name : Name) (Y : Shape) → Contains (listed (definitions_in s)) (name, Y) → definition given name ≡ Some Y

-- A position is the one where the root lies in a buffer of this length.
abbrev pub LiesAtEnd : RustSchema → ℕ → ℕ → Type 0
LiesAtEnd s len root = (L : Layout) → HasLayout (definitions_in s) (root_of s) L → root ≡ len - L.size

-- The result of a check of a whole buffer, whose root lies at the end, with no limit of depth.
abbrev pub AnswersWhole : RustSchema → List ℕ → Result (Unit {0}) Error → Type 0
AnswersWhole s bytes answer =
    (L : Layout) → HasLayout (definitions_in s) (root_of s) L → Answers (definitions_in s) bytes None (root_in bytes L) (root_of s) answer

-- Why the definitions given make no schema of a shape: memory was refused, a name that it reaches has none, or one contains itself.
abbrev pub ExplainsNoMeaning : Table → Shape → Error → Type 0
ExplainsNoMeaning given X e =
    (e ≡ OutOfMemory)
    ⊎ ((e ≡ ShapeConflict) × (name : Name) × Reaches given name X × (definition given name ≡ None))
    ⊎ ((e ≡ RecursiveLayout) × (name : Name) × (Y : Shape) × Reaches given name X × (definition given name ≡ Some Y) × HeldIn given name Y)
