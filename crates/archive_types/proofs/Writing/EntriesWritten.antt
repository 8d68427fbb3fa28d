-- The entries of a map where they are written: they lie in the order of their keys where the keys that they mean ascend. And what points to them reads back.
use Rattle.std.proofs.Common.{◌≡◌, ℕ, ℤ, ◌+◌, ◌<◌, ◌^◌, ◌/◌, if◌then◌else◌, List, Bool, true, false, nat_eq, slice_index, Option, Some, None, arith, refl, sym, ap, subst, ◌∙◌}
use Rattle.std.specs.Prelude.{FitsSigned, ◌≤◌, Result, Ok, Err, IfErr, OnOk}
use Rattle.std.proofs.lemmas.Bool.{and_parts}
use Rattle.std.proofs.lemmas.Bool.Decides.{nat_tests}
use Rattle.std.specs.Int.{w32, to_le_bytes, cast_unsigned}
use Rattle.std.specs.Ordering.{is_lt}
use Rattle.std.specs.declared.cmp.Ordering.{Ordering}
use Rattle.std.specs.declared.cmp.Ordering.TheVariants.{Less, Equal, Greater}
use Rattle.archive_check.specs.Shape.{Key, leaf_key, str_key, Shape, sorted_map, str, run, text, key_shape, entry_of}
use Rattle.archive_check.specs.Layout.{kind_size, size_of}
use Rattle.archive_check.specs.Definitions.{Definitions}
use Rattle.archive_check.specs.Value.{Pointer, Value, number, product, case, list, text_value, box, null, shared_value, hole, Values, no_value, value}
use Rattle.archive_check.specs.Reads.{SchemaTable, Reads, reads_leaf, reads_parts, reads_map, reads_inline, reads_out_of_line, reads_part, ReadsRun, reads_none, reads_element, bytes_at, u32_at, string_at, map_at, before_end, decoded_length, kind_value}
use Rattle.archive_check.specs.Readable.{position, target_from, string_text}
use Rattle.archive_check.specs.Keys.{key_cmp, ComesBehind, Ascend, IsInOrder, in_key_order}
use Rattle.archive_check.specs.Tour.{Contents, contents_run, contents_text, Leads}
use Rattle.archive_check.specs.Denotes.{Naming, Fills, fills_number, fills_product, fills_list, fills_text, fills_unique, fills_shared, FillsAll, fills_value, rename, rename_all}
use Rattle.archive_check.specs.CleanRegions.{Occurs, clean_map}
use Rattle.archive_check.specs.WriterState.{WriterState}
use Rattle.archive_check.specs.declared.format.error.Error.{Error}
use Rattle.archive_check.proofs.Maps.Entries.{key_at}
use Rattle.archive_check.proofs.Tours.StandingBytes.{stands_front, stands_back}
use Rattle.archive_num.specs.Offsets.{distance, IsTooFar}
use Rattle.archive_num.specs.OwnerBytes.{owner_bytes}
use Rattle.archive_types.specs.Writing.{Writes, LaysOut, Resolves, to_map}
use Rattle.archive_types.specs.ValueOrder.{value_cmp, key_of_pair, keys_ascend}
use Rattle.archive_types.specs.Causes.{owner_map, HindersAt}
use Rattle.archive_types.proofs.Writing.Appending.{writes_ordered}
use Rattle.archive_types.proofs.Writing.OwnersWritten.{offset_there, length_there, owner_hindered_at}

-- what the key at q says
abbrev key_value : Key → List ℕ → ℕ → Value
key_value (leaf_key kind) bytes q = number (kind_value kind (bytes_at bytes q (kind_size kind)))
key_value str_key bytes q = text_value (string_text bytes q)

-- keys are ordered as what they say
by_values : (K : Key) (bytes : List ℕ) (p q : ℕ) → key_cmp K bytes p q ≡ value_cmp (key_value K bytes p) (key_value K bytes q)
by_values (leaf_key kind) bytes p q = refl
by_values str_key bytes p q = refl

-- what is read of a key fills to what it says

text_filled : {s : SchemaTable} {bytes : List ℕ} {q n : ℕ} {v w : Value} → Contents s bytes q text n v → Fills s bytes v w → w ≡ text_value (bytes_at bytes q n)
text_filled (contents_text u) fills_text = refl

leads_filled : {s : SchemaTable} {bytes : List ℕ} {p : Pointer} {t : ℕ} {v w : Value} → p.pointee ≡ text → Leads s bytes p t v → Fills s bytes v w → w ≡ text_value (bytes_at bytes t p.length)
leads_filled e l f = text_filled (rw e at l.contents) f

outside_filled : (q : ℕ) {s : SchemaTable} {bytes : List ℕ} {w : Value} → Fills s bytes (hole (string_at bytes q)) w → w ≡ text_value (bytes_at bytes (target_from bytes q (q + 4)) (decoded_length (u32_at bytes q)))
outside_filled q {bytes = bytes} (fills_unique {t = t} own l f) =
    let there : t ≡ target_from bytes q (q + 4) = sym (ap position l.target) in
    leads_filled refl l f ∙ ap (λ r. text_value (bytes_at bytes r (decoded_length (u32_at bytes q)))) there
outside_filled q (fills_shared e there) = cc

string_filled : {s : SchemaTable} {bytes : List ℕ} {q : ℕ} {v w : Value} (b : Bool) → nat_eq (slice_index bytes q / 64) 2 ≡ b → Reads s bytes q str v → Fills s bytes v w
    → w ≡ text_value (if b then bytes_at bytes (target_from bytes q (q + 4)) (decoded_length (u32_at bytes q)) else before_end (bytes_at bytes q 8))
string_filled true e (reads_inline o u) f = absurd (o (grind (arith, nat_tests)))
string_filled {q = q} true e (reads_out_of_line o u) f = outside_filled q f
string_filled false e (reads_inline o u) fills_text = refl
string_filled false e (reads_out_of_line o u) f = absurd (grind (arith, nat_tests, o))

key_filled : (K : Key) {s : SchemaTable} {bytes : List ℕ} {q : ℕ} {v w : Value} → Reads s bytes q (key_shape K) v → Fills s bytes v w → w ≡ key_value K bytes q
key_filled (leaf_key kind) (reads_leaf l) fills_number = refl
key_filled str_key {bytes = bytes} {q = q} r f = string_filled (nat_eq (slice_index bytes q / 64) 2) refl r f

-- other names change nothing in it

number_back : (f : ℕ → ℕ) (w : Value) (z : ℤ) → rename f w ≡ number z → w ≡ number z
number_back f (number y) z e = e
number_back f (product vs) z e = cc
number_back f (case tag vs) z e = cc
number_back f (list vs) z e = cc
number_back f (text_value xs) z e = cc
number_back f (box v) z e = cc
number_back f null z e = cc
number_back f (shared_value t) z e = cc
number_back f (hole p) z e = cc

text_back : (f : ℕ → ℕ) (w : Value) (xs : List ℕ) → rename f w ≡ text_value xs → w ≡ text_value xs
text_back f (number y) xs e = cc
text_back f (product vs) xs e = cc
text_back f (case tag vs) xs e = cc
text_back f (list vs) xs e = cc
text_back f (text_value ys) xs e = e
text_back f (box v) xs e = cc
text_back f null xs e = cc
text_back f (shared_value t) xs e = cc
text_back f (hole p) xs e = cc

key_back : (K : Key) (bytes : List ℕ) (q : ℕ) (f : ℕ → ℕ) (w : Value) → rename f w ≡ key_value K bytes q → w ≡ key_value K bytes q
key_back (leaf_key kind) bytes q f w e = number_back f w _ e
key_back str_key bytes q f w e = text_back f w _ e

key_renamed : (f : ℕ → ℕ) (w : Value) → key_of_pair (rename f w) ≡ rename f (key_of_pair w)
key_renamed f (number z) = refl
key_renamed f (product no_value) = refl
key_renamed f (product (value k vs)) = refl
key_renamed f (case tag vs) = refl
key_renamed f (list vs) = refl
key_renamed f (text_value xs) = refl
key_renamed f (box v) = refl
key_renamed f null = refl
key_renamed f (shared_value t) = refl
key_renamed f (hole p) = refl

is_less : (r : Ordering) → is_lt r ≡ true → r ≡ Less
is_less Less e = refl
is_less Equal e = cc
is_less Greater e = cc

-- those behind the first entry ascend, too
later_ascend : (w : Value) (ws : Values) → keys_ascend (value w ws) ≡ true → keys_ascend ws ≡ true
later_ascend w no_value h = refl
later_ascend w (value x xs) h = (and_parts _ _ h).1

module _ (s : SchemaTable) (bytes : List ℕ) (K : Key) (V : Shape) (f : ℕ → ℕ) where
  -- the key of an entry, whose value is as written but for the names
  entry_key : {q : ℕ} {v : Value} (w : Value) → Reads s bytes q (entry_of K V) v → Fills s bytes v (rename f w) → key_of_pair w ≡ key_value K bytes q
  entry_key {q = q} w r g = key_back K bytes q f (key_of_pair w) (sym (key_renamed f w) ∙ of_filled r g)
    where
      of_filled : {v u : Value} → Reads s bytes q (entry_of K V) v → Fills s bytes v u → key_of_pair u ≡ key_value K bytes q
      of_filled (reads_parts (reads_part k rest)) (fills_product (fills_value h i)) = key_filled K (rw (key_at s.layouts K q) at k) h

  -- the first of these keys, if there is one, is above the one before it
  abbrev IsAbove : Option ℕ → Values → Type 0
  IsAbove None ws = Unit {0}
  IsAbove (Some p) no_value = Unit {0}
  IsAbove (Some p) (value w ws) = value_cmp (key_value K bytes p) (key_of_pair w) ≡ Less

  comes_behind : (before : Option ℕ) (q : ℕ) (w : Value) (ws : Values) → key_of_pair w ≡ key_value K bytes q → IsAbove before (value w ws) → ComesBehind K bytes before q
  comes_behind None q w ws e h = tt
  comes_behind (Some p) q w ws e h = by_values K bytes p q ∙ ap (value_cmp (key_value K bytes p)) (sym e) ∙ h

  next_above : (q : ℕ) (w : Value) (ws : Values) → key_of_pair w ≡ key_value K bytes q → keys_ascend (value w ws) ≡ true → IsAbove (Some q) ws
  next_above q w no_value e h = tt
  next_above q w (value x xs) e h = ap (λ v. value_cmp v (key_of_pair x)) (sym e) ∙ is_less _ (and_parts _ _ h).0

  entries_ascend : {q n : ℕ} {vs : Values} (before : Option ℕ) (ws : Values) → ReadsRun s bytes q n (entry_of K V) vs → FillsAll s bytes vs (rename_all f ws) → IsAbove before ws → keys_ascend ws ≡ true
      → Ascend K bytes before q (size_of s.layouts (entry_of K V)) n
  entries_ascend before ws reads_none g i h = tt
  entries_ascend before no_value (reads_element r rs) g i h = elim g [ ]
  entries_ascend {q = q} before (value w ws) (reads_element r rs) (fills_value g gs) i h =
      let e : key_of_pair w ≡ key_value K bytes q = entry_key w r g in
      (comes_behind before q w ws e i, entries_ascend (Some q) ws rs gs (next_above q w ws e h) (later_ascend w ws h))

  entries_ordered : {t n : ℕ} {v : Value} (ws : Values) → Contents s bytes t (run (entry_of K V)) n v → Fills s bytes v (list (rename_all f ws)) → keys_ascend ws ≡ true → IsInOrder s bytes t n (Some K) (run (entry_of K V))
  entries_ordered ws (contents_run r) (fills_list g) h = in_key_order (entries_ascend None ws r g tt h)

-- entries whose keys ascend are written as a map's
pub writes_map : (D : Definitions) (old new : WriterState) (ks : List Naming) (t : ℕ) (K : Key) (V : Shape) (n : ℕ) (vs : Values) → keys_ascend vs ≡ true → LaysOut D old new ks t (run (entry_of K V)) n (list vs)
    → Writes D old new ks (hole (to_map t K V n)) (list vs)
writes_map D old new ks t K V n vs ascend h = writes_ordered D old new ks t (Some K) (run (entry_of K V)) n (list vs) h (λ w c g. entries_ordered w.schema w.bytes K V w.position vs c g ascend)

-- the pointer that stands there
map_there : (bytes : List ℕ) (p t n : ℕ) → FitsSigned w32 (distance p t) → n < 2 ^ 32 → (K : Key) (V : Shape) → Occurs bytes p (owner_bytes true (distance p t) n) → map_at bytes p K V ≡ to_map t K V n
map_there bytes p t n small few K V stands =
    let offset : List ℕ = to_le_bytes w32 (cast_unsigned w32 (distance p t)) in
    let many : u32_at bytes (p + 4) ≡ n = length_there bytes p n few (stands_back bytes p (p + 4) offset (to_le_bytes w32 n) refl stands) in
    λ i. record { target = offset_there bytes p t small (stands_front bytes p offset (to_le_bytes w32 n) stands) i; sharing = None; order = Some K; pointee = run (entry_of K V); length = many i }

resolves_map : (D : Definitions) (p t n : ℕ) (a : List ℕ) (K : Key) (V : Shape) → n < 2 ^ 32 → FitsSigned w32 (distance p t) → a ≡ owner_bytes true (distance p t) n
    → Resolves D p a (sorted_map K V) (hole (to_map t K V n))
resolves_map D p t n a K V few small e = record {
  reads = λ s bytes k stands. subst (λ h. Reads s bytes p (sorted_map K V) (hole h)) (map_there bytes p t n small few K V (rw e at stands)) reads_map;
  clean = λ s bytes k stands. clean_map;
}

map_hindered_at : (D : Definitions) (K : Key) (V : Shape) (n t p : ℕ) (e : Error) → IsTooFar e (distance p t) → HindersAt D (sorted_map K V) (hole (to_map t K V n)) p e
map_hindered_at D K V n t p e far = owner_hindered_at D (sorted_map K V) _ (to_map t K V n) t p e owner_map refl far

-- after a call that writes these bytes, or finds that the offset doesn't fit
module _ {A : Type 0} (r : Result A Error) (D : Definitions) (K : Key) (V : Shape) (n t p : ℕ) where
  pub map_resolved : (a : List ℕ) → n ≤ 4294967295 → OnOk r (a ≡ owner_bytes true (distance p t) n) → OnOk r (FitsSigned w32 (distance p t)) → OnOk r (Resolves D p a (sorted_map K V) (hole (to_map t K V n)))
  map_resolved a few written fits = resolved r written fits
    where
      resolved : (q : Result A Error) → OnOk q (a ≡ owner_bytes true (distance p t) n) → OnOk q (FitsSigned w32 (distance p t)) → OnOk q (Resolves D p a (sorted_map K V) (hole (to_map t K V n)))
      resolved (Ok x) e small = resolves_map D p t n a K V (omega (arith, few)) small e
      resolved (Err e) h k = tt

  pub map_unresolved : (same : Type 0) → IfErr r (λ e. same × IsTooFar e (distance p t)) → IfErr r (HindersAt D (sorted_map K V) (hole (to_map t K V n)) p)
  map_unresolved same h = unresolved r h
    where
      unresolved : (q : Result A Error) → IfErr q (λ e. same × IsTooFar e (distance p t)) → IfErr q (HindersAt D (sorted_map K V) (hole (to_map t K V n)) p)
      unresolved (Ok x) k = tt
      unresolved (Err e) k = map_hindered_at D K V n t p e k.1
