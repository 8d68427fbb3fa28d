-- What is told of a leaf: its value.
use Rattle.std.specs.Prelude.{◌≡◌, ℕ, ℤ, pos, List, false, true}
use Rattle.std.specs.Int.{Width, byte_len, from_le_bytes}
use Rattle.archive_inspect.specs.declared.walk.leaves.Leaf.{Leaf}
use Rattle.archive_inspect.specs.declared.walk.leaves.Leaf.TheVariants as leaf_is
use Rattle.archive_check.specs.Layout.{kind_size}
use Rattle.archive_check.specs.Reads.{bytes_at, IsLegal, with_sign, kind_value}
use Rattle.archive_check.specs.Shape.{Sign, Kind}

-- The number that is told: of a bool 0 or 1, of a char its code.
abbrev pub told_number : Leaf → ℤ
told_number leaf_is.Unit = pos 0
told_number (leaf_is.Bool false) = pos 0
told_number (leaf_is.Bool true) = pos 1
told_number (leaf_is.Char code) = pos code
told_number (leaf_is.Unsigned n) = pos n
told_number (leaf_is.Signed z) = z

-- The number of a width at p, the lowest byte first.
abbrev pub number_read : Width → List ℕ → ℕ → ℕ
number_read width bytes p = from_le_bytes width (bytes_at bytes p (byte_len width))

-- The same with or without a sign.
abbrev pub integer_read : Sign → Width → List ℕ → ℕ → ℤ
integer_read sign width bytes p = with_sign sign width (number_read width bytes p)

-- The bytes at p are a leaf of the kind, and this is its value.
pub record IsLeafRead (kind : Kind) (bytes : List ℕ) (p : ℕ) (l : Leaf) : Type 0 where
  pub legal : IsLegal kind (bytes_at bytes p (kind_size kind))
  pub told : told_number l ≡ kind_value kind (bytes_at bytes p (kind_size kind))
