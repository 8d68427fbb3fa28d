-- What a view stands for, and what is said of what it shows.
use Rattle.std.specs.Prelude.{ℕ, List}
use Rattle.archive_check.specs.Shape.{Shape, Pointee}
use Rattle.archive_check.specs.Value.{Value}
use Rattle.archive_check.specs.Reads.{SchemaTable}
use Rattle.archive_check.specs.Tour.{Contents, Accepted}
use Rattle.archive_check.specs.Leaves.{regions_of}
use Rattle.archive_check.specs.Within.{PartOfSome}
use Rattle.archive_check.specs.Denotes.{Fills}
use Rattle.archive_check.specs.Definitions.{Definitions, Knows}

-- The bytes are an archive in the schema, and P at q, of this length, is a region of it or lies in
-- one.
pub record Lies (s : SchemaTable) (bytes : List ℕ) (q : ℕ) (P : Pointee) (n : ℕ) : Type 0 where
  pub root : ℕ
  pub shape : Shape
  pub accepted : Accepted s bytes root shape
  pub part : PartOfSome s bytes (regions_of accepted) q P n

-- It does so under some schema that knows the definitions.
abbrev pub Viewed : Definitions → List ℕ → ℕ → Pointee → ℕ → Type 0
Viewed D bytes q P n = ∥ ((s : SchemaTable) × Knows s D × Lies s bytes q P n) ∥₁

-- Under each schema that knows the definitions and in which it lies so, what is read there is w, each hole filled.
pub record Says (D : Definitions) (bytes : List ℕ) (q : ℕ) (P : Pointee) (n : ℕ) (w : Value) : Type 0 where
  pub fills : (s : SchemaTable) (v : Value) → Knows s D → Lies s bytes q P n → Contents s bytes q P n v → Fills s bytes v w
