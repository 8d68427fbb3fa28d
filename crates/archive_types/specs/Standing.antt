-- What stands beside what a view shows, in every archive.
use Rattle.std.specs.Prelude.{ℕ, List}
use Rattle.archive_check.specs.Shape.{Shape, Pointee}
use Rattle.archive_check.specs.Reads.{SchemaTable}
use Rattle.archive_check.specs.Tour.{Accepted}
use Rattle.archive_check.specs.Leaves.{regions_of}
use Rattle.archive_check.specs.Within.{PartOfSome}
use Rattle.archive_check.specs.Definitions.{Definitions, Knows}

-- What a view shows: its position, its pointee and its length.
pub record View : Type 0 where
  pub begin : ℕ
  pub pointee : Pointee
  pub length : ℕ

abbrev pub view : ℕ → Pointee → ℕ → View
view q P n = record { begin = q; pointee = P; length = n }

-- Wherever what the first one shows is a part of an archive, under a schema that knows the definitions, so is what the second one shows.
pub record StandsWith (D : Definitions) (bytes : List ℕ) (v u : View) : Type 0 where
  pub stands : (s : SchemaTable) (root : ℕ) (X : Shape) → Knows s D → (a : Accepted s bytes root X)
      → PartOfSome s bytes (regions_of a) v.begin v.pointee v.length → PartOfSome s bytes (regions_of a) u.begin u.pointee u.length
