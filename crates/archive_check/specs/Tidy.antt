-- Archives as a writer leaves them: tight and clean from a position on.
use Rattle.std.specs.Prelude.{ℕ, List}
use Rattle.archive_check.specs.Shape.{Shape}
use Rattle.archive_check.specs.Reads.{SchemaTable}
use Rattle.archive_check.specs.LittleEndian.{AreBytes}
use Rattle.archive_check.specs.Denotes.{Meaning, Denotes}
use Rattle.archive_check.specs.Tightness.{TightFrom, CleanFrom}

-- These bytes are an archive of an X, and mean m. From start on they are tight and clean.
pub record IsTidy (s : SchemaTable) (bytes : List ℕ) (start : ℕ) (X : Shape) (m : Meaning) : Type 0 where
  pub small : AreBytes bytes
  pub root : ℕ
  pub denotes : Denotes s bytes root X m
  pub tight : TightFrom start denotes.accepted
  pub clean : CleanFrom start denotes.accepted
