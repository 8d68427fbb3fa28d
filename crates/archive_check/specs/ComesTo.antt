-- What seals come to, from the root of an archive: all but the keys of maps, so that no write changes a map's order.
use Rattle.std.specs.Prelude.{◌≡◌, ℕ, ◌+◌, ◌*◌, ◌<◌, pos, List, length, None, Contains}
use Rattle.archive_check.specs.Shape.{Key, Shape, sorted_map, str, Pointee, one, run, text, key_shape, entry_of}
use Rattle.archive_check.specs.Layout.{up, size_of, align_of}
use Rattle.archive_check.specs.Value.{Pointer, Value, pointers}
use Rattle.archive_check.specs.Reads.{SchemaTable, bytes_at, u32_at, map_at, IsOutOfLine, before_end}
use Rattle.archive_check.specs.Keys.{order_of}
use Rattle.archive_check.specs.Tour.{Contents, Accepted}
use Rattle.archive_check.specs.Within.{Within}
use Rattle.archive_check.specs.Definitions.{Definitions, Knows}

-- `ComesTo s bytes root X q P n`: from the root X, seals reach the pointee P at q, of length n, by
-- steps to parts, elements, inline texts, the targets of pointers other than maps, and the values
-- of maps. No step leads to a key.
pub data ComesTo (s : SchemaTable) (bytes : List ℕ) (root : ℕ) (X : Shape) : ℕ → Pointee → ℕ → Type 0 where
  to_root : ComesTo s bytes root X root (one X) 0
  to_part : {q n r : ℕ} {Y Z : Shape}
      → ComesTo s bytes root X q (one Y) n
      → Within s bytes q Y r Z
      → ComesTo s bytes root X r (one Z) 0
  to_element : {q n k : ℕ} {Y : Shape}
      → ComesTo s bytes root X q (run Y) n
      → k < n
      → ComesTo s bytes root X (q + k * size_of s.layouts Y) (one Y) 0
  to_text : {q n : ℕ}
      → ComesTo s bytes root X q (one str) n
      → (IsOutOfLine bytes q → ⊥)
      → ComesTo s bytes root X q text (length (before_end (bytes_at bytes q 8)))
  to_target : {q n t : ℕ} {P : Pointee} {v : Value} {p : Pointer}
      → ComesTo s bytes root X q P n
      → Contents s bytes q P n v
      → Contains (pointers v) p
      → order_of p ≡ None
      → p.target ≡ pos t
      → ComesTo s bytes root X t p.pointee p.length
  to_value : {q n t k : ℕ} {K : Key} {V : Shape}
      → ComesTo s bytes root X q (one (sorted_map K V)) n
      → (map_at bytes q K V).target ≡ pos t
      → k < u32_at bytes (q + 4)
      → ComesTo s bytes root X (t + k * size_of s.layouts (entry_of K V) + up (size_of s.layouts (key_shape K)) (align_of s.layouts V)) (one V) 0

-- Seals reach P at q in an accepted buffer, in some schema that knows the definitions.
abbrev pub IsComeTo : Definitions → List ℕ → ℕ → Pointee → ℕ → Type 0
IsComeTo D bytes q P n = ∥ ((s : SchemaTable) × Knows s D × (root : ℕ) × (X : Shape) × Accepted s bytes root X × ComesTo s bytes root X q P n) ∥₁
