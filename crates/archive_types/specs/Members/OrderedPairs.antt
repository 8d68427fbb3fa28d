-- Pairs and sorted maps: how they are ordered, by keys and then by values, and that this is the order of what they mean.
use Rattle.std.proofs.Common.{◌≡◌, ℕ, ◌+◌, max, true, IsTrue, List, ◌++◌, refl, sym, ap, ap₂, subst}
use mathlib.Core.Bool.{true≢false}
use Rattle.std.specs.Cmp.Lexicographic.{slice_cmp}
use Rattle.std.specs.Cmp.{IsTotalOrder, on_total, then_total}
use Rattle.std.specs.Hash as fed
use Rattle.std.specs.Ordering.{on, then_cmp, ordering_then, eq_by_cmp, is_eq}
use Rattle.std.specs.declared.cmp.Ordering.{Ordering}
use Rattle.std.specs.declared.cmp.Ordering.TheVariants.{Less, Equal, Greater}
use Rattle.archive_check.specs.Shape.{Key, Shape, parts, sorted_map, one, run, no_part, part, key_shape, entry_of}
use Rattle.archive_check.specs.Layout.{Layout, up, size_of, align_of}
use Rattle.archive_check.specs.Value.{Value, product, list, hole, no_value, value}
use Rattle.archive_check.specs.Reads.{SchemaTable, u32_at, map_at, reads_parts, reads_part, reads_no_part, reads_map}
use Rattle.archive_check.specs.Readable.{position, target_from}
use Rattle.archive_check.specs.Tour.{Contents, contents_one}
use Rattle.archive_check.specs.Definitions.{Definitions, no_definition, both, Knows, HasLayout}
use Rattle.archive_check.specs.Members.PartsLayout.{knows_left, knows_right, no_part_laid_out, part_laid_out, record_has_layout}
use Rattle.archive_check.specs.SelfCheck.Maps.{entry_definitions, entry_size, entry_align}
use Rattle.archive_types.specs.Compared.{Standing, standing, elements, slice_of, slices, slices_total, slices_fed}
use Rattle.archive_types.specs.Maps.{entry_value_begin}
use Rattle.archive_types.specs.Members.Maps.{entry_is}
use Rattle.archive_types.specs.Members.OrderedParts.{slices_ordered, slice_native, then_Equal}
use Rattle.archive_types.specs.MapPairs.{pair_meaning}
use Rattle.archive_types.specs.Runs.{each_meaning}
use Rattle.archive_types.specs.ValueOrder.{value_cmp, Follows, follows_product, follows_pointer, follows_no_value, follows_value, Means, OrdersValues, OrdersNative}

-- The first part of a pair, and the second one, of parts with these layouts.
abbrev pub first_of : Layout → Standing → Standing
first_of k v = standing v.bytes (v.pos + up 0 k.align) 0

abbrev pub second_of : Layout → Layout → Standing → Standing
second_of k l v = standing v.bytes (v.pos + entry_value_begin k l) 0

-- The order of two pairs: by their first parts, and then by their second ones.
abbrev pub pair_order : Layout → Layout → (Standing → Standing → Ordering) → (Standing → Standing → Ordering)
    → Standing → Standing → Ordering
pair_order k l R S = then_cmp (on (first_of k) R) (on (second_of k l) S)

-- That of a pair and one of the machine.
abbrev pub pair_native : {A B : Type 0} → Layout → Layout → (Standing → A → Ordering) → (Standing → B → Ordering)
    → Standing → A × B → Ordering
pair_native k l P Q v e = ordering_then (P (first_of k v) e.0) (Q (second_of k l v) e.1)

-- What a pair feeds a hasher.
abbrev pub pair_fed : Layout → Layout → (Standing → List (List ℕ)) → (Standing → List (List ℕ)) → Standing
    → List (List ℕ)
pair_fed k l feed other v = feed (first_of k v) ++ other (second_of k l v)

pub pairs_total : (k l : Layout) {R S : Standing → Standing → Ordering} → IsTotalOrder R → IsTotalOrder S
    → IsTotalOrder (pair_order k l R S)
pairs_total k l r s = then_total (on_total (first_of k) r) (on_total (second_of k l) s)

pub first_tied : (r s : Ordering) → is_eq (ordering_then r s) ≡ true → is_eq r ≡ true
first_tied Less s h = h
first_tied Equal s h = refl
first_tied Greater s h = h

pub second_tied : (r s : Ordering) → is_eq (ordering_then r s) ≡ true → is_eq s ≡ true
second_tied Less s h = absurd (true≢false (sym h))
second_tied Equal s h = h
second_tied Greater s h = absurd (true≢false (sym h))

-- Pairs that the order doesn't tell apart feed a hasher alike, where their parts do.
pub pairs_fed : (k l : Layout) (R S : Standing → Standing → Ordering) (feed other : Standing → List (List ℕ))
    → ((x y : Standing) → IsTrue (eq_by_cmp R x y) → feed x ≡ feed y)
    → ((x y : Standing) → IsTrue (eq_by_cmp S x y) → other x ≡ other y)
    → (x y : Standing) → IsTrue (eq_by_cmp (pair_order k l R S) x y)
    → pair_fed k l feed other x ≡ pair_fed k l feed other y
pairs_fed k l R S feed other alike also x y h =
    let r = R (first_of k x) (first_of k y) in
    let s = S (second_of k l x) (second_of k l y) in
    ap₂ (λ us ws. us ++ ws) (alike (first_of k x) (first_of k y) (first_tied r s h)) (also (second_of k l x) (second_of k l y) (second_tied r s h))

-- Maps are ordered as the lists of their pairs, and feed a hasher so.
abbrev pub map_order : Layout → Layout → (Standing → Standing → Ordering) → (Standing → Standing → Ordering)
    → Standing → Standing → Ordering
map_order k l R S = on slice_of (slices (entry_size k l) (pair_order k l R S))

abbrev pub map_fed : Layout → Layout → (Standing → List (List ℕ)) → (Standing → List (List ℕ)) → Standing
    → List (List ℕ)
map_fed k l feed other v = fed.slice (pair_fed k l feed other) (elements (entry_size k l) (slice_of v))

pub maps_total : (k l : Layout) {R S : Standing → Standing → Ordering} → IsTotalOrder R → IsTotalOrder S
    → IsTotalOrder (map_order k l R S)
maps_total k l r s = on_total slice_of (slices_total (entry_size k l) (pairs_total k l r s))

pub maps_fed : (k l : Layout) (R S : Standing → Standing → Ordering) (feed other : Standing → List (List ℕ))
    → ((x y : Standing) → IsTrue (eq_by_cmp R x y) → feed x ≡ feed y)
    → ((x y : Standing) → IsTrue (eq_by_cmp S x y) → other x ≡ other y)
    → (x y : Standing) → IsTrue (eq_by_cmp (map_order k l R S) x y)
    → map_fed k l feed other x ≡ map_fed k l feed other y
maps_fed k l R S feed other alike also x y =
    slices_fed (entry_size k l) (pair_order k l R S) (pair_fed k l feed other) (pairs_fed k l R S feed other alike also) (slice_of x) (slice_of y)

-- What a pair means.
record PairMeans (D E : Definitions) (X Y : Shape) (k l : Layout) (a : Standing) (w : Value) : Type 0 where
  first : Value
  second : Value
  is : w ≡ product (value first (value second no_value))
  first_means : Means D (one X) (first_of k a) first
  second_means : Means E (one Y) (second_of k l a) second

module _ (D E : Definitions) (X Y : Shape) (k l : Layout) (laid : HasLayout D X k) (other : HasLayout E Y l) where
  pair_is : (s : SchemaTable) (bytes : List ℕ) (q m n : ℕ) {v w : Value} → Knows s (both D (both E no_definition))
      → Contents s bytes q (one (parts (part X (part Y no_part)))) n v → Follows s bytes v w
      → PairMeans D E X Y k l (standing bytes q m) w
  pair_is s bytes q m n knows (contents_one (reads_parts (reads_part {v = u} r (reads_part {v = x} t reads_no_part)))) (follows_product (follows_value {w = w} f (follows_value {w = y} g follows_no_value))) =
      let left = knows_left s D (both E no_definition) knows in
      let right = knows_left s E no_definition (knows_right s D (both E no_definition) knows) in
      let a : align_of s.layouts X ≡ k.align = ap (λ (z : Layout). z.align) (laid.solved s left) in
      let z : size_of s.layouts X ≡ k.size = ap (λ (z : Layout). z.size) (laid.solved s left) in
      let b : align_of s.layouts Y ≡ l.align = ap (λ (z : Layout). z.align) (other.solved s right) in
      let here : q + up 0 (align_of s.layouts X) ≡ q + up 0 k.align = ap (λ n. q + up 0 n) a in
      let there : q + up (up 0 (align_of s.layouts X) + size_of s.layouts X) (align_of s.layouts Y) ≡ q + entry_value_begin k l = λ i. q + up (up 0 (a i) + z i) (b i) in
      record {
        first = w;
        second = y;
        is = refl;
        first_means = record { schema = s; value = u; knows = left; contents = contents_one (rw here at r); follows = f };
        second_means = record { schema = s; value = x; knows = right; contents = contents_one (rw there at t); follows = g };
      }

  pair_means : (a : Standing) (w : Value)
      → Means (both D (both E no_definition)) (one (parts (part X (part Y no_part)))) a w → PairMeans D E X Y k l a w
  pair_means a w m = pair_is m.schema a.bytes a.pos a.len a.len m.knows m.contents m.follows

  pub pairs_ordered : (R S : Standing → Standing → Ordering) → OrdersValues D (one X) R → OrdersValues E (one Y) S
      → OrdersValues (both D (both E no_definition)) (one (parts (part X (part Y no_part)))) (pair_order k l R S)
  pairs_ordered R S by_first by_second a b v w m n =
      let x = pair_means a v m in
      let y = pair_means b w n in
      rw (x.is, y.is, by_first _ _ x.first y.first x.first_means y.first_means, by_second _ _ x.second y.second x.second_means y.second_means)
      (ap (ordering_then (value_cmp x.first y.first)) (sym (then_Equal (value_cmp x.second y.second))))

  -- A pair and one of the machine.
  pub pairs_native : {A B : Type 0} (m : A → Value) (n : B → Value) (P : Standing → A → Ordering) (Q : Standing → B → Ordering) → OrdersNative D (one X) m P → OrdersNative E (one Y) n Q
      → OrdersNative (both D (both E no_definition)) (one (parts (part X (part Y no_part)))) (pair_meaning m n) (pair_native k l P Q)
  pairs_native m n P Q by_first by_second a v e h =
      let x = pair_means a v h in
      rw (x.is, by_first _ x.first e.0 x.first_means, by_second _ x.second e.1 x.second_means)
      (ap (ordering_then (value_cmp x.first (m e.0))) (sym (then_Equal (value_cmp x.second (n e.1)))))

-- maps: by their pairs

map_led : (D : Definitions) (K : Key) (V : Shape) (s : SchemaTable) (bytes : List ℕ) (q : ℕ) (w : Value) → Knows s D
    → Follows s bytes (hole (map_at bytes q K V)) w
    → Means D (run (entry_of K V)) (standing bytes (target_from bytes q q) (u32_at bytes (q + 4))) w
map_led D K V s bytes q w k (follows_pointer {t = t} {v = v} l f) =
    let there : t ≡ target_from bytes q q = sym (ap position l.target) in
    record { schema = s; value = v; knows = k; contents = rw there at l.contents; follows = f }

map_is : (D : Definitions) (K : Key) (V : Shape) (s : SchemaTable) (bytes : List ℕ) (q m n : ℕ) (v w : Value) → Knows s D
    → Contents s bytes q (one (sorted_map K V)) n v → Follows s bytes v w
    → Means D (run (entry_of K V)) (slice_of (standing bytes q m)) w
map_is D K V s bytes q m n _ w k (contents_one reads_map) f = map_led D K V s bytes q w k f

-- What a map means, its entries do, of keys that are an X.
pub map_means : (D : Definitions) (X V : Shape) (K : Key) → X ≡ key_shape K → (a : Standing) (w : Value)
    → Means D (one (sorted_map K V)) a w → Means D (run (parts (part X (part V no_part)))) (slice_of a) w
map_means D X V K is a w m = subst (λ Y. Means D (run Y) (slice_of a) w) (sym (entry_is X V K is)) (map_is D K V m.schema a.bytes a.pos a.len a.len m.value w m.knows m.contents m.follows)

pub maps_ordered : (D : Definitions) (X V : Shape) (K : Key) → X ≡ key_shape K → (R : Standing → Standing → Ordering)
    → OrdersValues D (run (parts (part X (part V no_part)))) R → OrdersValues D (one (sorted_map K V)) (on slice_of R)
maps_ordered D X V K is R by_value a b v w m n = by_value _ _ v w (map_means D X V K is a v m) (map_means D X V K is b w n)

-- keys that are an X, with the definitions D, and values that are a V, with those of E
module _ (D E : Definitions) (X V : Shape) (k l : Layout) (laid : HasLayout D X k) (other : HasLayout E V l) where
  -- How an entry lies.
  pub entry_laid : HasLayout (entry_definitions D E) (parts (part X (part V no_part))) (record { size = entry_size k l; align = entry_align k l })
  entry_laid =
      let value = part_laid_out E no_definition V l other no_part 1 (λ n. n) (λ n i. n) no_part_laid_out in
      let key = part_laid_out D (both E no_definition) X k laid (part V no_part) (max l.align 1) _ _ value in
      record_has_layout (entry_definitions D E) (part X (part V no_part)) (entry_align k l) _ _ key

  -- A map of them is ordered as the list of its pairs.
  pub maps_in_order : (K : Key) → X ≡ key_shape K → (R S : Standing → Standing → Ordering) → OrdersValues D (one X) R
      → OrdersValues E (one V) S
      → OrdersValues (entry_definitions D E) (one (sorted_map K V)) (map_order k l R S)
  maps_in_order K is R S by_key by_value =
      let entries = slices_ordered (entry_definitions D E) (parts (part X (part V no_part))) (record { size = entry_size k l; align = entry_align k l }) entry_laid (pair_order k l R S) (pairs_ordered D E X V k l laid other R S by_key by_value) in
      maps_ordered (entry_definitions D E) X V K is (slices (entry_size k l) (pair_order k l R S)) entries

  -- And compared so to pairs of the machine.
  pub maps_native : (K : Key) → X ≡ key_shape K
      → {A B : Type 0} (m : A → Value) (n : B → Value) (P : Standing → A → Ordering) (Q : Standing → B → Ordering)
      → OrdersNative D (one X) m P → OrdersNative E (one V) n Q
      → OrdersNative (entry_definitions D E) (one (sorted_map K V)) (λ es. list (each_meaning (pair_meaning m n) es)) (λ v es. slice_cmp (pair_native k l P Q) (elements (entry_size k l) (slice_of v)) es)
  maps_native K is m n P Q by_key by_value a v es h =
      let entries = map_means (entry_definitions D E) X V K is a v h in
      slice_native (entry_definitions D E) (parts (part X (part V no_part))) (record { size = entry_size k l; align = entry_align k l }) entry_laid (pair_meaning m n) (pair_native k l P Q)
      (pairs_native D E X V k l laid other m n P Q by_key by_value) (slice_of a) v es entries
