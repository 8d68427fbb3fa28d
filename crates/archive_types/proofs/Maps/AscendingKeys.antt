-- The keys of a map that a view shows ascend, by the order of their type.
use Rattle.std.proofs.Common.{◌≡◌, ℕ, zero, suc, ◌+◌, ◌-◌, ◌*◌, ◌<◌, List, [], Option, Some, None, arith, refl, sym, ap, ◌∙◌}
use Rattle.std.proofs.Math.Logic.{∥∥₁_elim}
use Rattle.std.proofs.lemmas.List.Elements.{Contains-push}
use Rattle.std.specs.Ordering.{Ordering-set}
use Rattle.std.specs.Cmp.{IsTotalOrder}
use Rattle.std.specs.declared.cmp.Ordering.{Ordering}
use Rattle.std.specs.declared.cmp.Ordering.TheVariants.{Less}
use Rattle.archive_check.specs.Shape.{Kind, Key, leaf_key, str_key, Shape, leaf, str, sorted_map, Pointee, one, run, text, key_shape, entry_of}
use Rattle.archive_check.specs.Layout.{Layout, kind_size, size_of}
use Rattle.archive_check.specs.Value.{Value, number, text_value}
use Rattle.archive_check.specs.Reads.{SchemaTable, bytes_at, u32_at, kind_value, string_at, map_at, reads_leaf, reads_inline, reads_out_of_line}
use Rattle.archive_check.specs.Readable.{position, target_from, string_text}
use Rattle.archive_check.specs.Keys.{key_cmp, Ascend, IsInOrder, in_any_order, in_key_order}
use Rattle.archive_check.specs.Tour.{Contents, contents_one, contents_text}
use Rattle.archive_check.specs.Within.{first_part, whole, in_parts}
use Rattle.archive_check.specs.Definitions.{Definitions, no_definition, both, Knows, HasLayout}
use Rattle.archive_check.specs.Members.PartsLayout.{knows_left}
use Rattle.archive_check.specs.SelfCheck.Maps.{entry_definitions, entry_size}
use Rattle.archive_check.specs.Viewed.{Lies, Viewed}
use Rattle.archive_check.proofs.Maps.CheckedEntries.{entry_sized}
use Rattle.archive_check.proofs.Maps.Entries.{key_at}
use Rattle.archive_check.proofs.Meanings.ReachedParts.{element_reached, within_reached}
use Rattle.archive_check.proofs.Viewing.Viewed.{lies_reads, lies_leads, lies_followed, lies_reached, reached_lies}
use Rattle.archive_types.specs.Compared.{Standing, standing}
use Rattle.archive_types.specs.Members.OrderedParts.{as_pointee, string_means}
use Rattle.archive_types.specs.ValueOrder.{value_cmp, Follows, follows_number, follows_text, follows_pointer, Means, OrdersValues}
use Rattle.archive_types.proofs.Viewing.PartsShown.{map_has}

-- each key comes behind the one before it
pub ascend_next : (K : Key) (bytes : List ℕ) (before : Option ℕ) (q z n i : ℕ) → Ascend K bytes before q z n
    → i + 1 < n → key_cmp K bytes (q + i * z) (q + (i + 1) * z) ≡ Less
ascend_next K bytes before q z zero i a below = absurd (omega arith)
ascend_next K bytes before q z (suc zero) i a below = absurd (omega arith)
ascend_next K bytes before q z (suc (suc n)) zero a below =
    let here : q + 0 * z ≡ q = omega arith in
    let there : q + 1 * z ≡ q + z = omega arith in
    rw (here, there) a.1.0
ascend_next K bytes before q z (suc (suc n)) (suc i) a below =
    let here : q + suc i * z ≡ q + z + i * z = omega arith in
    let there : q + (suc i + 1) * z ≡ q + z + (i + 1) * z = omega arith in
    rw (here, there) (ascend_next K bytes (Some q) (q + z) z (suc n) i a.1 (omega arith))

-- those of elements with an order do
abbrev AscendOf : SchemaTable → List ℕ → ℕ → ℕ → Option Key → Pointee → Type 0
AscendOf s bytes t n (Some K) (run X) = Ascend K bytes None t (size_of s.layouts X) n
AscendOf s bytes t n o P = Unit {0}

ordered_ascend : {s : SchemaTable} {bytes : List ℕ} {t n : ℕ} {o : Option Key} {P : Pointee} → IsInOrder s bytes t n o P
    → AscendOf s bytes t n o P
ordered_ascend in_any_order = tt
ordered_ascend (in_key_order h) = h

-- what a key means
abbrev pub key_value : Key → List ℕ → ℕ → Value
key_value (leaf_key kind) bytes p = number (kind_value kind (bytes_at bytes p (kind_size kind)))
key_value str_key bytes p = text_value (string_text bytes p)

pub key_compared : (K : Key) (bytes : List ℕ) (p q : ℕ)
    → value_cmp (key_value K bytes p) (key_value K bytes q) ≡ key_cmp K bytes p q
key_compared (leaf_key kind) bytes p q = refl
key_compared str_key bytes p q = refl

module _ (s : SchemaTable) (bytes : List ℕ) (D : Definitions) (k : Knows s D) where
  leaf_meant : (kind : Kind) (p : ℕ) {v : Value} → Contents s bytes p (one (leaf kind)) 0 v
      → Means D (one (leaf kind)) (standing bytes p 0) (key_value (leaf_key kind) bytes p)
  leaf_meant kind p (contents_one (reads_leaf l)) = record {
    schema = s;
    value = number (kind_value kind (bytes_at bytes p (kind_size kind)));
    knows = k;
    contents = contents_one (reads_leaf l);
    follows = follows_number;
  }

  text_followed : {t n : ℕ} {v : Value} → Contents s bytes t text n v → Follows s bytes v v
  text_followed (contents_text u) = follows_text

  text_meant : (p : ℕ) {v : Value} → Lies s bytes p (one str) 0 → Contents s bytes p (one str) 0 v
      → (w : Value) × Means D (one str) (standing bytes p 0) w
  text_meant p l (contents_one (reads_inline o u)) = (_, record { schema = s; value = _; knows = k; contents = contents_one (reads_inline o u); follows = follows_text })
  text_meant p l (contents_one (reads_out_of_line o u)) =
      let (t, x, leads) = lies_followed s bytes l (contents_one (reads_out_of_line o u)) (string_at bytes p) (Contains-push [] (string_at bytes p)) in
      (x, record { schema = s; value = _; knows = k; contents = contents_one (reads_out_of_line o u); follows = follows_pointer leads (text_followed leads.contents) })

  pub key_means : (K : Key) (p : ℕ) → Lies s bytes p (one (key_shape K)) 0
      → Means D (one (key_shape K)) (standing bytes p 0) (key_value K bytes p)
  key_means (leaf_key kind) p l = leaf_meant kind p (lies_reads s bytes l).1
  key_means str_key p l =
      let (w, m) = text_meant p l (lies_reads s bytes l).1 in
      let same : w ≡ text_value (string_text bytes p) = string_means D (standing bytes p 0) w m in
      rw same at m

-- under a schema in which the map lies in an accepted buffer
module _ (V : Shape) (K : Key) (s : SchemaTable) (bytes : List ℕ) (q n : ℕ) (l : Lies s bytes q (one (sorted_map K V)) n) where
  abbrev first : ℕ
  first = target_from bytes q q

  abbrev count : ℕ
  count = u32_at bytes (q + 4)

  -- each key lies there
  key_lies : (i : ℕ) → i < count → Lies s bytes (first + i * size_of s.layouts (entry_of K V)) (one (key_shape K)) 0
  key_lies i below =
      let (v, c) = lies_reads s bytes l in
      let (t, e, j) = lies_leads s bytes l c (map_at bytes q K V) (map_has bytes q n K V s v c) in
      let there : t ≡ first = sym (ap position e) in
      let (u, x) = element_reached s bytes {k = i} (lies_reached s bytes j).1 below in
      let (w, y) = within_reached s bytes x (in_parts whole first_part) in
      let z = reached_lies s bytes y in
      rw there at (rw (key_at s.layouts K (t + i * size_of s.layouts (entry_of K V))) at z)

  -- the entries, whose keys ascend
  pub map_followed : (u : Value) × Lies s bytes first (run (entry_of K V)) count × Ascend K bytes None first (size_of s.layouts (entry_of K V)) count × Contents s bytes first (run (entry_of K V)) count u
  map_followed =
      let (v, c) = lies_reads s bytes l in
      let (t, e, j) = lies_leads s bytes l c (map_at bytes q K V) (map_has bytes q n K V s v c) in
      let (z, u, leads) = lies_followed s bytes l c (map_at bytes q K V) (map_has bytes q n K V s v c) in
      let here : t ≡ first = sym (ap position e) in
      let there : z ≡ first = sym (ap position leads.target) in
      (u, rw here at j, rw there at (ordered_ascend leads.ordered), rw there at leads.contents)

  -- and comes behind the one before it
  next_key : (i : ℕ) → i + 1 < count
      → key_cmp K bytes (first + i * size_of s.layouts (entry_of K V)) (first + (i + 1) * size_of s.layouts (entry_of K V)) ≡ Less
  next_key i below =
      let (v, c) = lies_reads s bytes l in
      let (t, u, leads) = lies_followed s bytes l c (map_at bytes q K V) (map_has bytes q n K V s v c) in
      let there : t ≡ first = sym (ap position leads.target) in
      let h = ascend_next K bytes None t (size_of s.layouts (entry_of K V)) count i (ordered_ascend leads.ordered) below in
      rw there at h

module _ (D F : Definitions) (V : Shape) (K : Key) (L : Layout) (laid : HasLayout D (key_shape K) L) (M : Layout) (valued : HasLayout F V M)
    (R : Standing → Standing → Ordering) (total : IsTotalOrder R) (by_value : OrdersValues D (one (key_shape K)) R) (bytes : List ℕ) (q n : ℕ) where
  -- the key with an index
  abbrev key : ℕ → Standing
  key i = standing bytes (target_from bytes q q + i * entry_size L M) 0

  module _ (s : SchemaTable) (k : Knows s (entry_definitions D F)) (l : Lies s bytes q (one (sorted_map K V)) n) where
    means : (i : ℕ) → i < u32_at bytes (q + 4)
        → Means D (one (key_shape K)) (key i) (key_value K bytes (target_from bytes q q + i * entry_size L M))
    means i below =
        let size = (entry_sized D F K L laid V M valued s k).1 in
        key_means s bytes D (knows_left s D (both F no_definition) k) K (target_from bytes q q + i * entry_size L M) (rw size (key_lies V K s bytes q n l i below))

    next_less : (i : ℕ) → i + 1 < u32_at bytes (q + 4) → R (key i) (key (i + 1)) ≡ Less
    next_less i below =
        let size = (entry_sized D F K L laid V M valued s k).1 in
        let h = next_key V K s bytes q n l i below in
        by_value (key i) (key (i + 1)) _ _ (means i (omega arith)) (means (i + 1) below) ∙ key_compared K bytes _ _ ∙ rw size h

    later_less : (i d : ℕ) → i + suc d < u32_at bytes (q + 4) → R (key i) (key (i + suc d)) ≡ Less
    later_less i zero below = next_less i below
    later_less i (suc d) below =
        let next : i + suc (suc d) ≡ i + suc d + 1 = omega arith in
        rw next (total.trans (key i) (key (i + suc d)) (key (i + suc d + 1)) (later_less i d (omega arith)) (next_less (i + suc d) (omega arith)))

  pub keys_ascend : Viewed (entry_definitions D F) bytes q (one (sorted_map K V)) n → (i j : ℕ) → i < j
      → j < u32_at bytes (q + 4) → R (key i) (key j) ≡ Less
  keys_ascend v i j less below = ∥∥₁_elim v (Ordering-set _ _) (λ (s, k, l).
      let far : j ≡ i + suc (j - (i + 1)) = omega arith in
      rw far (later_less s k l i (j - (i + 1)) (omega arith)))

-- the same of keys that are an X
pub map_ascends : (D F : Definitions) (X V : Shape) (K : Key) → X ≡ key_shape K → (P : Pointee) → P ≡ one X
    → (L M : Layout) → HasLayout D X L → HasLayout F V M → (R : Standing → Standing → Ordering) → IsTotalOrder R
    → OrdersValues D P R
    → (bytes : List ℕ) (q n : ℕ) → Viewed (entry_definitions D F) bytes q (one (sorted_map K V)) n
    → (i j : ℕ) → i < j → j < u32_at bytes (q + 4)
    → R (standing bytes (target_from bytes q q + i * entry_size L M) 0) (standing bytes (target_from bytes q q + j * entry_size L M) 0) ≡ Less
map_ascends D F X V K is P one_is L M laid valued R total by_value bytes q n v =
    keys_ascend D F V K L (rw is at laid) M valued R total (as_pointee D P (one (key_shape K)) R (one_is ∙ ap one is) by_value) bytes q n v
