-- What an entry of a map takes and how it is walked, by its key and its value.
use Rattle.std.proofs.Common.{◌≡◌, ℕ, refl, sym, ap, ap₂, ◌∙◌, subst, ◌+◌, ◌<◌, max, arith, List, Option, Some, None}
use Rattle.archive_schema.specs.declared.plan.PointeeKind.TheVariants.{Entries as EntriesOf}
use Rattle.archive_schema.specs.declared.plan.Node.{Node}
use Rattle.archive_check.specs.declared.format.expr.Key.{Key as KeyExpr}
use Rattle.archive_check.specs.Expressions.{key_of}
use Rattle.archive_check.specs.Shape.{Key, leaf_key, str_key, Shape, key_shape, entry_of}
use Rattle.archive_check.specs.Layout.{Layouts, up, key_size, key_align, size_of, align_of}
use Rattle.archive_check.specs.Words.BoundedSizes.{fits, rounded}
use Rattle.archive_check.specs.Reads.{SchemaTable}
use Rattle.archive_check.specs.Tour.{Seen}
use Rattle.archive_check.specs.Walk.{Walk, walk_parts, walk_no_part, walk_part}
use Rattle.archive_schema.specs.plan.BoundedSizes.{sum_of}
use Rattle.archive_schema.specs.check.Runs.{unit_size, unit_align, value_begin}
use Rattle.archive_check.proofs.BoundedSizes.{rounded_fits}
use Rattle.archive_check.proofs.Maps.Entries.{key_at, value_at}
use Rattle.archive_check.proofs.Tours.PartsInside.{up_le}
use Rattle.archive_schema.proofs.plan.BoundedSizes.{sum_fits}

-- a key takes what its shape does
pub key_takes : (names : Layouts) (K : Key) → size_of names (key_shape K) ≡ key_size K
key_takes names (leaf_key kind) = refl
key_takes names str_key = refl

pub key_aligned : (names : Layouts) (K : Key) → align_of names (key_shape K) ≡ key_align K
key_aligned names (leaf_key kind) = refl
key_aligned names str_key = refl

-- the value stands at the next multiple of its alignment, and the whole ends at one of the greater
pub entry_layout : (names : Layouts) (K : Key) (V : Shape) → 0 < align_of names V
    → (size_of names (entry_of K V) ≡ up (up (key_size K) (align_of names V) + size_of names V) (max (key_align K) (align_of names V))) × (align_of names (entry_of K V) ≡ max (key_align K) (align_of names V))
entry_layout names K V lt =
    let high : max (align_of names (key_shape K)) (max (align_of names V) 1) ≡ max (key_align K) (align_of names V) = omega (arith, key_aligned names K, lt) in
    (ap₂ up (ap (λ n. n + size_of names V) (value_at names K V ∙ ap (λ n. up n (align_of names V)) (key_takes names K))) high, high)

-- an entry that has a size has a value that has one
pub value_sized : (key : KeyExpr) (node : Node) {y : ℕ} → unit_size (EntriesOf key) node ≡ Some y → (x : ℕ) × (node.size ≡ Some x)
value_sized key node e = by_size (value_begin key node.align) node.size (max (key_align (key_of key)) node.align) e
  where
    by_size : (begin size : Option ℕ) (align : ℕ) {y : ℕ} → rounded (sum_of begin size) align ≡ Some y → (x : ℕ) × (size ≡ Some x)
    by_size begin (Some x) align e = (x, refl)
    by_size (Some o) None align e = cc
    by_size None None align e = cc

-- the walk of a key and that of a value are the walk of the entry
pub walk_entry : (s : SchemaTable) (bytes : List ℕ) (K : Key) (V : Shape) {pending : List ℕ} {depth : Option ℕ} {stop p start mid later : ℕ} {seen known last : Seen} → Walk s bytes pending depth stop p (key_shape K) start seen mid known
    → Walk s bytes pending depth stop (p + up (size_of s.layouts (key_shape K)) (align_of s.layouts V)) V mid known later last → Walk s bytes pending depth stop p (entry_of K V) start seen later last
walk_entry s bytes K V {pending} {depth} {stop} {p} {start} {mid} {later} {seen} {known} {last} k v =
    walk_parts (walk_part (subst (λ q. Walk s bytes pending depth stop q (key_shape K) start seen mid known) (sym (key_at s.layouts K p)) k)
    (walk_part (subst (λ n. Walk s bytes pending depth stop (p + n) V mid known later last) (sym (value_at s.layouts K V)) v) walk_no_part))

-- what an entry takes, by what its value's node does
pub entry_fits : (names : Layouts) (key : KeyExpr) (V : Shape) (node : Node) → node.size ≡ fits (size_of names V) → node.align ≡ align_of names V
    → (unit_size (EntriesOf key) node ≡ fits (size_of names (entry_of (key_of key) V))) × (unit_align (EntriesOf key) node ≡ align_of names (entry_of (key_of key) V))
entry_fits names key V node size align =
    let K = key_of key in
    let positive : 0 < align_of names V = rw (← align) node.positive in
    let laid = entry_layout names K V positive in
    let high = ap (λ a. max (key_align K) a) align in (
      ap₂ (λ o a. rounded o a) (ap₂ sum_of (ap (λ a. fits (up (key_size K) a)) align) size ∙ sum_fits (up (key_size K) (align_of names V)) (size_of names V)) high
          ∙ rounded_fits (up (key_size K) (align_of names V) + size_of names V) (max (key_align K) (align_of names V)) (omega (arith, positive))
          ∙ ap fits (sym laid.0),
      high ∙ sym laid.1,
    )

-- an entry that takes nothing has a key and a value that take nothing, and the value begins where the key does
pub empty_parts : (names : Layouts) (K : Key) (V : Shape) → 0 < align_of names V → size_of names (entry_of K V) ≡ 0 → (key_size K ≡ 0) × (size_of names V ≡ 0) × (up (size_of names (key_shape K)) (align_of names V) ≡ 0)
empty_parts names K V lt e =
    let whole = sym (entry_layout names K V lt).0 ∙ e in
    let begin = up_le (key_size K) (align_of names V) lt in
    let end = up_le (up (key_size K) (align_of names V) + size_of names V) (max (key_align K) (align_of names V)) (omega (arith, lt)) in
    let there = ap (λ n. up n (align_of names V)) (key_takes names K) in
    (omega (arith, whole, begin, end), omega (arith, whole, begin, end), omega (arith, whole, there, end))
