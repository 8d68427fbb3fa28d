-- Maps are read back, or refused, as their entries are; and where these are named by their positions, their keys ascend.
use Rattle.std.proofs.Common.{◌≡◌, ℕ, ◌+◌, ◌/◌, nat_eq, if◌then◌else◌, slice_index, Bool, true, false, List, [], ◌∷◌, ◌++◌, Some, None, BTreeMap, arith, inl, inr, ⊎_elim, refl, sym, ap, ◌∙◌, ap₂}
use Rattle.std.proofs.Math.Logic.{∥∥₁_elim}
use Rattle.std.proofs.lemmas.Bool.Decides.{nat_tests}
use mathlib.Core.Bool.{Bool-set}
use Rattle.std.proofs.lemmas.Map.Lookups.{map_keys}
use Rattle.std.specs.BTreeMap.{IsFromIterResult}
use Rattle.std.specs.Cmp.{IsTotalOrder}
use Rattle.std.specs.declared.cmp.Ordering.{Ordering}
use Rattle.std.specs.declared.cmp.Ordering.TheVariants.{Less, Equal}
use Rattle.archive_check.specs.declared.format.error.Error.{Error}
use Rattle.archive_check.specs.Shape.{Key, leaf_key, str_key, Shape, str, sorted_map, Pointee, one, run, text, parts, part, no_part, key_shape, entry_of}
use Rattle.archive_check.specs.Layout.{size_of}
use Rattle.archive_check.specs.Value.{Value, Values, no_value, value, product, list, text_value, hole, pointers}
use Rattle.archive_check.specs.Reads.{SchemaTable, Reads, ReadsRun, bytes_at, u32_at, string_at, map_at, before_end, decoded_length, reads_leaf, reads_inline, reads_out_of_line, reads_map, reads_parts, reads_part, reads_no_part, reads_none, reads_element}
use Rattle.archive_check.specs.Readable.{position, target_from}
use Rattle.archive_check.specs.Keys.{Ascend}
use Rattle.archive_check.specs.Tour.{Contents, contents_one, contents_run, contents_text}
use Rattle.archive_check.specs.Denotes.{Naming, Fills, FillsAll, fills_number, fills_text, fills_product, fills_list, fills_unique, fills_shared, fills_value}
use Rattle.archive_check.specs.Definitions.{Definitions}
use Rattle.archive_check.specs.Pooled.{Entries}
use Rattle.archive_check.specs.Viewed.{Viewed, Says}
use Rattle.archive_check.specs.Entries.{AreNamedByPosition, meets_in_unique, IsCyclic, ReadsBack, RefusesReading}
use Rattle.archive_check.proofs.Maps.Entries.{key_at}
use Rattle.archive_check.proofs.Reading.ReadOwners.{owner_read_back}
use Rattle.archive_check.proofs.Viewing.Viewed.{lies_reads, lies_leads}
use Rattle.archive_types.specs.MapPairs.{pair_meaning, pair_keys}
use Rattle.archive_types.specs.Maps.{AreSame, ascending, ascending_from}
use Rattle.archive_types.specs.Members.Maps.{entry_is}
use Rattle.archive_types.specs.Runs.{each_meaning, each_keys}
use Rattle.archive_types.specs.ValueOrder.{value_cmp}
use Rattle.archive_types.proofs.Maps.InsertedPairs.{collected_alike}
use Rattle.archive_types.proofs.Maps.AscendingKeys.{key_value, key_compared, map_followed}
use Rattle.archive_types.proofs.Viewing.PartsShown.{map_has, map_shown}

map_owns : (bytes : List ℕ) (q n : ℕ) (K : Key) (V : Shape) (s : SchemaTable) (v : Value)
    → Contents s bytes q (one (sorted_map K V)) n v
    → (pointers v ≡ map_at bytes q K V ∷ []) × ((w : Value) → Fills s bytes (hole (map_at bytes q K V)) w → Fills s bytes v w)
map_owns bytes q n K V s v (contents_one reads_map) = (refl, λ w f. f)

module _ (D : Definitions) (bytes : List ℕ) (q n : ℕ) (K : Key) (V : Shape) (viewed : Viewed D bytes q (one (sorted_map K V)) n) where
  pub map_read : {keeps : Bool} (old new : Entries) (w : Value) (keys : List Naming)
      → ReadsBack keeps D bytes (target_from bytes q q) (run (entry_of K V)) (u32_at bytes (q + 4)) old new w keys
      → ReadsBack keeps D bytes q (one (sorted_map K V)) n old new w keys
  map_read old new w keys h =
      owner_read_back D bytes q n (one (sorted_map K V)) (map_at bytes q K V) (target_from bytes q q) (λ z. z) refl (map_shown D bytes q n K V viewed).lands (map_owns bytes q n K V) old new w keys h

  map_cyclic : (told : Entries)
      → IsCyclic D bytes told (target_from bytes q q) (run (entry_of K V)) (u32_at bytes (q + 4))
      → IsCyclic D bytes told q (one (sorted_map K V)) n
  map_cyclic told h = record {
    meets = λ s k l.
        let (v, c) = lies_reads s bytes l in
        let (t, e, j) = lies_leads s bytes l c (map_at bytes q K V) (map_has bytes q n K V s v c) in
        let there : t ≡ target_from bytes q q = sym (ap position e) in
        meets_in_unique c (map_has bytes q n K V s v c) refl (map_shown D bytes q n K V viewed).lands (h.meets s k (rw there at j));
  }

  pub map_unread : (told : Entries) (e : Error)
      → RefusesReading D bytes (target_from bytes q q) (run (entry_of K V)) (u32_at bytes (q + 4)) told e
      → RefusesReading D bytes q (one (sorted_map K V)) n told e
  map_unread told e h = ⊎_elim inl (λ c. inr (c.0, map_cyclic told c.1)) h

-- another value, and other keys, that are these where all is named by its position
pub read_instead : {keeps : Bool} (D : Definitions) (bytes : List ℕ) (q n : ℕ) (P : Pointee) (old new : Entries) (w x : Value) (keys names : List Naming) → (AreNamedByPosition old → (w ≡ x) × (keys ≡ names))
    → ReadsBack keeps D bytes q P n old new w keys → ReadsBack keeps D bytes q P n old new x names
read_instead D bytes q n P old new w x keys names same h = record {
  kept = h.kept;
  value = λ named. rw (same named).0 at (h.value named);
  shared = λ named. rw (same named).1 at (h.shared named);
  unmet = h.unmet;
  closed = h.closed;
  once = λ keeps named. rw (same named).1 at (h.once keeps named);
}

-- what a key is filled with
module _ (s : SchemaTable) (bytes : List ℕ) where
  text_filled : {t n : ℕ} {v w : Value} → Contents s bytes t text n v → Fills s bytes v w
      → w ≡ text_value (bytes_at bytes t n)
  text_filled (contents_text u) fills_text = refl

  outside_filled : (q : ℕ) {w : Value} → Fills s bytes (hole (string_at bytes q)) w
      → w ≡ text_value (bytes_at bytes (target_from bytes q (q + 4)) (decoded_length (u32_at bytes q)))
  outside_filled q (fills_unique {t = t} e l f) =
      let there : t ≡ target_from bytes q (q + 4) = sym (ap position l.target) in
      text_filled l.contents f ∙ ap (λ r. text_value (bytes_at bytes r (decoded_length (u32_at bytes q)))) there
  outside_filled q (fills_shared e l) = absurd (cc e)

  string_filled : {q : ℕ} {v w : Value} (b : Bool) → nat_eq (slice_index bytes q / 64) 2 ≡ b → Reads s bytes q str v
      → Fills s bytes v w
      → w ≡ text_value (if b then bytes_at bytes (target_from bytes q (q + 4)) (decoded_length (u32_at bytes q)) else before_end (bytes_at bytes q 8))
  string_filled true e (reads_inline o u) f = absurd (o (grind (arith, nat_tests)))
  string_filled {q = q} true e (reads_out_of_line o u) f = outside_filled q f
  string_filled false e (reads_inline o u) fills_text = refl
  string_filled {q = q} false e (reads_out_of_line o u) f = absurd (grind (arith, nat_tests, o))

  key_filled : (K : Key) {q : ℕ} {v w : Value} → Reads s bytes q (key_shape K) v → Fills s bytes v w
      → w ≡ key_value K bytes q
  key_filled (leaf_key kind) (reads_leaf l) fills_number = refl
  key_filled str_key {q = q} r f = string_filled (nat_eq (slice_index bytes q / 64) 2) refl r f

  -- so the keys of pairs that ascend where they lie do so by the order of what they mean
  module _ {A B : Type 0} (meaning : A → Value) (of_value : B → Value) (cmp : A → A → Ordering) (sorted : (x y : A) → cmp x y ≡ value_cmp (meaning x) (meaning y)) (K : Key) (V : Shape) where
    abbrev pair_means : A × B → Value
    pair_means e = product (value (meaning e.0) (value (of_value e.1) no_value))

    entries_ascend : (k : A) (p : ℕ) (xs : List (A × B)) {q n : ℕ} {vs : Values} → meaning k ≡ key_value K bytes p
        → Ascend K bytes (Some p) q (size_of s.layouts (entry_of K V)) n
        → ReadsRun s bytes q n (entry_of K V) vs → FillsAll s bytes vs (each_meaning pair_means xs)
        → ascending_from cmp k xs ≡ true
    entries_ascend k p [] e a rs fs = refl
    entries_ascend k p (x ∷ xs) e a reads_none fs = elim fs [ ]
    entries_ascend k p (x ∷ xs) e a (reads_element {p = q} (reads_parts (reads_part r (reads_part r' reads_no_part))) rs) (fills_value (fills_product (fills_value f g)) fs) =
        let here = rw (key_at s.layouts K q) at r in
        let is = key_filled K here f in
        let less : cmp k x.0 ≡ Less = sorted k x.0 ∙ ap₂ value_cmp e is ∙ key_compared K bytes p q ∙ a.0 in
        rw less (entries_ascend x.0 q xs is a.1 rs fs)

    run_ascends : (xs : List (A × B)) {q n : ℕ} {v : Value}
        → Ascend K bytes None q (size_of s.layouts (entry_of K V)) n → Contents s bytes q (run (entry_of K V)) n v
        → Fills s bytes v (list (each_meaning pair_means xs)) → ascending cmp xs ≡ true
    run_ascends [] a c f = refl
    run_ascends (x ∷ xs) a (contents_run reads_none) (fills_list fs) = elim fs [ ]
    run_ascends (x ∷ xs) a (contents_run (reads_element {p = q} (reads_parts (reads_part r (reads_part r' reads_no_part))) rs)) (fills_list (fills_value (fills_product (fills_value f g)) fs)) =
        let here = rw (key_at s.layouts K q) at r in
        entries_ascend x.0 q xs (key_filled K here f) a.1 rs fs

-- the pairs that the entries of a map say ascend
pub said_ascend : {A B : Type 0} (meaning : A → Value) (of_value : B → Value) (cmp : A → A → Ordering)
    → ((x y : A) → cmp x y ≡ value_cmp (meaning x) (meaning y))
    → (D : Definitions) (K : Key) (V : Shape) (bytes : List ℕ) (q n : ℕ) (xs : List (A × B))
    → Viewed D bytes q (one (sorted_map K V)) n
    → Says D bytes (target_from bytes q q) (run (entry_of K V)) (u32_at bytes (q + 4)) (list (each_meaning (λ e. product (value (meaning e.0) (value (of_value e.1) no_value))) xs))
    → ascending cmp xs ≡ true
said_ascend meaning of_value cmp sorted D K V bytes q n xs viewed says = ∥∥₁_elim viewed (Bool-set _ _) (λ (s, k, l).
    let (u, j, a, c) = map_followed V K s bytes q n l in
    run_ascends s bytes meaning of_value cmp sorted K V xs a c (says.fills s u k j c))

-- What pairs mean, and their names, are told by what their keys mean and the names of these, with their values.
module _ {A B : Type 0} (meaning : A → Value) (of_value : B → Value) (key_names : A → List Naming) (value_names : B → List Naming) where
  abbrev told : A → Value × List Naming
  told k = (meaning k, key_names k)

  meaning_told : (xs : List (A × B)) → each_meaning (pair_meaning meaning of_value) xs ≡ each_meaning (pair_meaning (λ k. k.0) of_value) (map_keys told xs)
  meaning_told [] = refl
  meaning_told (x ∷ xs) = ap (value (pair_meaning meaning of_value x)) (meaning_told xs)

  names_told : (xs : List (A × B)) → each_keys (pair_keys key_names value_names) xs ≡ each_keys (pair_keys (λ k. k.1) value_names) (map_keys told xs)
  names_told [] = refl
  names_told (x ∷ xs) = ap (λ l. pair_keys key_names value_names x ++ l) (names_told xs)

  -- A map is read back that was made of the pairs that its entries were read back as.
  module _ (cmp : A → A → Ordering) (total : IsTotalOrder cmp) (sorted : (x y : A) → cmp x y ≡ value_cmp (meaning x) (meaning y))
      (exact : (x y : A) → cmp x y ≡ Equal → AreSame (meaning x) (meaning y) (key_names x) (key_names y)) where
    pub pairs_read : {keeps : Bool} (D : Definitions) (X V : Shape) (K : Key) → X ≡ key_shape K
        → (bytes : List ℕ) (q n : ℕ) → Viewed D bytes q (one (sorted_map K V)) n
        → (old new : Entries) (xs : List (A × B)) (m : BTreeMap A B) → IsFromIterResult cmp xs m
        → ReadsBack keeps D bytes (target_from bytes q q) (run (parts (part X (part V no_part)))) (u32_at bytes (q + 4)) old new
        (list (each_meaning (pair_meaning meaning of_value) xs)) (each_keys (pair_keys key_names value_names) xs)
        → ReadsBack keeps D bytes q (one (sorted_map K V)) n old new
        (list (each_meaning (pair_meaning meaning of_value) m.entries)) (each_keys (pair_keys key_names value_names) m.entries)
    pairs_read D X V K is bytes q n viewed old new xs m made h =
        let there = rw (entry_is X V K is) at h in
        let same : AreNamedByPosition old → map_keys told xs ≡ map_keys told m.entries = λ named.
        sym (collected_alike cmp total told (λ x y e i. ((exact x y e).0 i, (exact x y e).1 i)) xs m made (said_ascend meaning of_value cmp sorted D K V bytes q n xs viewed (there.value named))) in
        read_instead D bytes q n (one (sorted_map K V)) old new _ _ _ _
        (λ named. (
          ap list (meaning_told xs ∙ ap (each_meaning (pair_meaning (λ k. k.0) of_value)) (same named) ∙ sym (meaning_told m.entries)),
          names_told xs ∙ ap (each_keys (pair_keys (λ k. k.1) value_names)) (same named) ∙ sym (names_told m.entries),
        ))
        (map_read D bytes q n K V viewed old new _ _ there)

-- and refused where they are
pub pairs_unread : (D : Definitions) (X V : Shape) (K : Key) → X ≡ key_shape K → (bytes : List ℕ) (q n : ℕ)
    → Viewed D bytes q (one (sorted_map K V)) n → (told : Entries) (e : Error)
    → RefusesReading D bytes (target_from bytes q q) (run (parts (part X (part V no_part)))) (u32_at bytes (q + 4)) told e → RefusesReading D bytes q (one (sorted_map K V)) n told e
pairs_unread D X V K is bytes q n viewed told e h = map_unread D bytes q n K V viewed told e (rw (entry_is X V K is) at h)
