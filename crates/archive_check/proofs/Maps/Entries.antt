-- The entries of maps: where an entry's key and value stand, what it mentions, and its walk.
use Rattle.std.proofs.Common.{◌≡◌, ℕ, ◌+◌, List, Option, Some, None, cond, is_some, refl, sym, ap, ◌∙◌, subst, add-zero, arith}
use Rattle.std.specs.Int.{w8, w16, w32, w64, w128}
use Rattle.archive_check.specs.Shape.{Kind, unit, bool, char, number, non_zero, raw_rel, Key, leaf_key, str_key, Flavor, Shape, key_shape, entry_of}
use Rattle.archive_check.specs.Layout.{Layouts, up, kind_align, size_of, align_of}
pub use Rattle.archive_check.specs.SelfCheck.Maps.{entry_mentions}
use Rattle.archive_check.specs.Value.{Pointer}
use Rattle.archive_check.specs.Reads.{SchemaTable}
use Rattle.archive_check.specs.Tour.{Seen}
use Rattle.archive_check.specs.Keys.{order_of, IsInOrder, in_any_order}
use Rattle.archive_check.specs.Walk.{Walk, walk_parts, walk_no_part, walk_part}

-- a key begins where its entry does
pub kind_first : (kind : Kind) → up 0 (kind_align kind) ≡ 0
kind_first unit = refl
kind_first bool = refl
kind_first char = refl
kind_first (number sign w8) = refl
kind_first (number sign w16) = refl
kind_first (number sign w32) = refl
kind_first (number sign w64) = refl
kind_first (number sign w128) = refl
kind_first (non_zero sign w8) = refl
kind_first (non_zero sign w16) = refl
kind_first (non_zero sign w32) = refl
kind_first (non_zero sign w64) = refl
kind_first (non_zero sign w128) = refl
kind_first (raw_rel sign w8) = refl
kind_first (raw_rel sign w16) = refl
kind_first (raw_rel sign w32) = refl
kind_first (raw_rel sign w64) = refl
kind_first (raw_rel sign w128) = refl

pub key_first : (names : Layouts) (K : Key) → up 0 (align_of names (key_shape K)) ≡ 0
key_first names (leaf_key kind) = kind_first kind
key_first names str_key = refl

pub key_at : (names : Layouts) (K : Key) (p : ℕ) → p + up 0 (align_of names (key_shape K)) ≡ p
key_at names K p = ap (λ n. p + n) (key_first names K) ∙ add-zero p

-- and its value behind it
pub value_at : (names : Layouts) (K : Key) (V : Shape) → up (up 0 (align_of names (key_shape K)) + size_of names (key_shape K)) (align_of names V) ≡ up (size_of names (key_shape K)) (align_of names V)
value_at names K V = ap (λ n. up (n + size_of names (key_shape K)) (align_of names V)) (key_first names K) ∙ ap (λ n. up n (align_of names V)) (omega arith)

-- nothing is asked of the order where others may point, too
pub shared_ordered : {s : SchemaTable} {bytes : List ℕ} {t n : ℕ} (p : Pointer) {flavor : Flavor} → p.sharing ≡ Some flavor → IsInOrder s bytes t n (order_of p) p.pointee
shared_ordered {s} {bytes} {t} {n} p e = let none : order_of p ≡ None = ap (λ x. cond (is_some x) None p.order) e in subst (λ o. IsInOrder s bytes t n o p.pointee) (sym none) in_any_order

module _ (s : SchemaTable) (bytes : List ℕ) (K : Key) (V : Shape) where
  -- the walk of an entry: that of its key, and then that of its value
  pub record EntryWalk (pending : List ℕ) (depth : Option ℕ) (stop p start : ℕ) (seen : Seen) (later : ℕ) (last : Seen) : Type 0 where
    pub mid : ℕ
    pub known : Seen
    pub key : Walk s bytes pending depth stop p (key_shape K) start seen mid known
    pub value : Walk s bytes pending depth stop (p + up (size_of s.layouts (key_shape K)) (align_of s.layouts V)) V mid known later last

  pub entry_walk : {pending : List ℕ} {depth : Option ℕ} {stop p start later : ℕ} {seen last : Seen} → Walk s bytes pending depth stop p (entry_of K V) start seen later last → EntryWalk pending depth stop p start seen later last
  entry_walk {p = p} (walk_parts (walk_part {mid = mid} {known = known} k (walk_part v walk_no_part))) = record {
    mid = mid;
    known = known;
    key = rw (key_at s.layouts K p) at k;
    value = rw (value_at s.layouts K V) at v;
  }
