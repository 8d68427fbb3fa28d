-- The order of a map's keys: how two of them compare, and when those of a region ascend.
use Rattle.std.specs.Prelude.{◌≡◌, ℕ, zero, suc, ◌+◌, List, Option, Some, None, cond, is_some}
use Rattle.std.specs.declared.cmp.Ordering.{Ordering}
use Rattle.std.specs.declared.cmp.Ordering.TheVariants.{Less}
use Rattle.std.specs.Ordering.{int_cmp, nat_cmp}
use Rattle.std.specs.Cmp.Lexicographic.{slice_cmp}
use Rattle.archive_check.specs.Shape.{Key, leaf_key, str_key, Shape, Pointee, run, entry_of}
use Rattle.archive_check.specs.Layout.{kind_size, size_of}
use Rattle.archive_check.specs.Value.{Pointer}
use Rattle.archive_check.specs.Reads.{SchemaTable, bytes_at, kind_value}
use Rattle.archive_check.specs.Readable.{string_text}

-- The keys by which the elements of a pointer must ascend; of a shared one, none.
abbrev pub order_of : Pointer → Option Key
order_of p = cond (is_some p.sharing) None p.order

-- How the key at p compares to the one at q: leaves by their values, strings by the bytes of their
-- texts.
abbrev pub key_cmp : Key → List ℕ → ℕ → ℕ → Ordering
key_cmp (leaf_key kind) bytes p q = int_cmp (kind_value kind (bytes_at bytes p (kind_size kind))) (kind_value kind (bytes_at bytes q (kind_size kind)))
key_cmp str_key bytes p q = slice_cmp nat_cmp (string_text bytes p) (string_text bytes q)

-- The key at q is greater than the one before it, if there is one.
abbrev pub ComesBehind : Key → List ℕ → Option ℕ → ℕ → Type 0
ComesBehind K bytes None q = Unit {0}
ComesBehind K bytes (Some p) q = key_cmp K bytes p q ≡ Less

-- The next n keys ascend strictly: the first is at q and greater than the one before it, each other
-- z bytes behind the one before.
abbrev pub Ascend : Key → List ℕ → Option ℕ → ℕ → ℕ → ℕ → Type 0
Ascend K bytes before q z zero = Unit {0}
Ascend K bytes before q z (suc n) = ComesBehind K bytes before q × Ascend K bytes (Some q) (q + z) z n

-- The entries of a map at t ascend by their keys; nothing else has an order.
pub data IsInOrder (s : SchemaTable) (bytes : List ℕ) (t n : ℕ) : Option Key → Pointee → Type 0 where
  in_any_order : {P : Pointee} → IsInOrder s bytes t n None P
  in_key_order : {K : Key} {V : Shape}
      → Ascend K bytes None t (size_of s.layouts (entry_of K V)) n
      → IsInOrder s bytes t n (Some K) (run (entry_of K V))
