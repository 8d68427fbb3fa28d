-- What the program reads as a leaf is its value.
use Rattle.std.proofs.Common.{◌≡◌, ℕ, ◌+◌, ◌<◌, ◌≤◌, pos, List, length, Bool, refl, sym, ap, ◌∙◌, arith, slice_index}
use Rattle.std.proofs.lemmas.Bool.Decides.{nat_tests}
use Rattle.std.specs.Int.{w8, from_le_bytes}
use Rattle.archive_check.specs.declared.format.expr.IntegerKind.{IntegerKind}
use Rattle.archive_check.specs.declared.format.expr.Kind.{Kind as KindExpr}
use Rattle.archive_check.specs.declared.format.expr.Kind.TheVariants as kind_is
use Rattle.archive_inspect.specs.declared.walk.leaves.Leaf.{Leaf}
use Rattle.archive_inspect.specs.declared.walk.leaves.Leaf.TheVariants as leaf_is
use Rattle.archive_check.specs.Expressions.{integer_of, kind_of}
use Rattle.archive_check.specs.Layout.{kind_size}
use Rattle.archive_check.specs.Reads.{bytes_at, u32_at, IsLegal, kind_number, kind_value}
use Rattle.archive_check.specs.Shape.{bool}
use Rattle.archive_check.proofs.format.BytesAt.{bytes_one}
use Rattle.archive_check.proofs.format.LegalBytes.{legal_bool}
use Rattle.archive_inspect.specs.Leaves.{told_number, integer_read, IsLeafRead}

module _ (bytes : List ℕ) (p : ℕ) where
  byte_number : p < length bytes → from_le_bytes w8 (bytes_at bytes p 1) ≡ slice_index bytes p
  byte_number below = rw (bytes_one bytes p below) (omega arith)

  -- a legal bool is a byte below 2
  pub bool_below : p + 1 ≤ length bytes → IsLegal bool (bytes_at bytes p 1) → slice_index bytes p < 2
  bool_below room h = let small = (legal_bool bytes p room).1 h in grind (arith, nat_tests)

  -- the bytes from p on are a leaf of the kind
  abbrev pub IsLegalAt : KindExpr → Type 0
  IsLegalAt kind = IsLegal (kind_of kind) (bytes_at bytes p (kind_size (kind_of kind)))

  module _ (kind : KindExpr) (legal : IsLegalAt kind) where
    pub unit_read : kind ≡ kind_is.Unit → IsLeafRead (kind_of kind) bytes p leaf_is.Unit
    unfolding kind_value
    unit_read is = record { legal = legal; told = rw is refl }

    pub bool_read : (b : Bool) → kind ≡ kind_is.Bool → p + 1 ≤ length bytes → told_number (leaf_is.Bool b) ≡ pos (slice_index bytes p) → IsLeafRead (kind_of kind) bytes p (leaf_is.Bool b)
    unfolding kind_value kind_number
    bool_read b is room told = record { legal = legal; told = rw is (told ∙ ap pos (sym (byte_number (omega arith)))) }

    pub char_read : (code : ℕ) → kind ≡ kind_is.Char → code ≡ u32_at bytes p → IsLeafRead (kind_of kind) bytes p (leaf_is.Char code)
    unfolding kind_value kind_number u32_at
    char_read code is reads = record { legal = legal; told = rw is (ap pos reads) }

    module _ (integer : IntegerKind) (l : Leaf) (told : told_number l ≡ integer_read (integer_of integer).0 (integer_of integer).1 bytes p) where
      pub number_reads : kind ≡ kind_is.Number integer → IsLeafRead (kind_of kind) bytes p l
      unfolding kind_value
      number_reads is = record { legal = legal; told = rw is told }

      pub non_zero_reads : kind ≡ kind_is.NonZero integer → IsLeafRead (kind_of kind) bytes p l
      unfolding kind_value
      non_zero_reads is = record { legal = legal; told = rw is told }

      pub offset_reads : kind ≡ kind_is.RawRel integer → IsLeafRead (kind_of kind) bytes p l
      unfolding kind_value
      offset_reads is = record { legal = legal; told = rw is told }
