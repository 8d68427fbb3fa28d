-- What may be read of a pointee.
use Rattle.std.specs.Prelude.{◌≡◌, ℕ, ◌+◌, ◌/◌, ◌≤◌, ◌==◌, if◌then◌else◌, ℤ, pos, negsuc, ◌+ℤ◌, List, length, slice_index, IsUtf8}
use Rattle.archive_check.specs.Shape.{Kind, leaf, str, Pointee, one, text}
use Rattle.archive_check.specs.Layout.{kind_size}
use Rattle.archive_check.specs.Reads.{bytes_at, u32_at, i32_at, IsLegal, IsOutOfLine, before_end, decoded_length}

-- The position that a whole number is, or 0 if it is negative.
abbrev pub position : ℤ → ℕ
position (pos n) = n
position (negsuc n) = 0

-- Where the offset at p leads, which counts from q.
abbrev pub target_from : List ℕ → ℕ → ℕ → ℕ
target_from bytes q p = position (pos q +ℤ i32_at bytes p)

-- The text of the string at p.
abbrev pub string_text : List ℕ → ℕ → List ℕ
string_text bytes p =
    if (slice_index bytes p / 64) == 2
    then bytes_at bytes (target_from bytes p (p + 4)) (decoded_length (u32_at bytes p))
    else before_end (bytes_at bytes p 8)

-- `Readable bytes p P n`: the pointee P at p, of n elements or bytes where it is no single value, lies in the buffer, its leaf is legal, and its
-- text, wherever it stands, is UTF-8. Leaves, texts and strings have a rule.
pub data Readable (bytes : List ℕ) : ℕ → Pointee → ℕ → Type 0 where
  readable_leaf : {p n : ℕ} {kind : Kind}
      → p + kind_size kind ≤ length bytes
      → IsLegal kind (bytes_at bytes p (kind_size kind))
      → Readable bytes p (one (leaf kind)) n
  readable_text : {p n : ℕ}
      → p + n ≤ length bytes
      → IsUtf8 (bytes_at bytes p n)
      → Readable bytes p text n
  readable_inline : {p n : ℕ}
      → p + 8 ≤ length bytes
      → (IsOutOfLine bytes p → ⊥)
      → IsUtf8 (before_end (bytes_at bytes p 8))
      → Readable bytes p (one str) n
  readable_out_of_line : {p n t : ℕ}
      → p + 8 ≤ length bytes
      → IsOutOfLine bytes p
      → pos p +ℤ i32_at bytes (p + 4) ≡ pos t
      → Readable bytes t text (decoded_length (u32_at bytes p))
      → Readable bytes p (one str) n
