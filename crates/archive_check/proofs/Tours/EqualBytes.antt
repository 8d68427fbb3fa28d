-- What bytes say at a position, bytes that are equal there say too.
use Rattle.std.proofs.Common.{◌≡◌, ℕ, pos, refl, List, [], ◌∷◌, ◌++◌, take, drop, ◌+◌, ◌-◌, ◌*◌, ◌<◌, ◌≤◌, Option, Some, None, arith, sym, ap, ap₂, subst, ◌∙◌, slice_index, IsUtf8, ◌+ℤ◌, w32, add-zero, get_or-take, get_or-drop}
use Rattle.std.specs.Int.{from_le_bytes, cast_signed}
use Rattle.std.proofs.lemmas.List.{drop-take, drop-drop, take-take}
use Rattle.archive_check.specs.Shape.{Flavor, Key, entry_of, Shape, leaf, choice, boxed, vec, sorted_map, str, shared, weak, Pointee, one, run, text, Parts}
use Rattle.archive_check.specs.Layout.{up, align_of, parts_align, variants_align, size_of, parts_end, variants_end, pointer_size}
use Rattle.archive_check.specs.Value.{Value, Values, number, case, text_value, box, hole}
use Rattle.archive_check.specs.Reads.{SchemaTable, LaidOut, bytes_at, u32_at, i32_at, IsLegal, kind_value, before_end, decoded_length, length_at, pointer_at, map_at, string_at, Reads, reads_leaf, reads_parts, reads_choice, reads_array, reads_boxed, reads_vec, reads_map, reads_inline, reads_out_of_line, reads_shared, reads_null, reads_weak, reads_named, ReadsParts, reads_no_part, reads_part, ReadsRun, reads_none, reads_element}
use Rattle.archive_check.specs.Leaves.{PlacedLeaf, number_leaf, text_leaf, leaves, leaves_of_parts, leaves_of_run}
use Rattle.archive_check.proofs.Tours.PartsInside.{up_le, pointer_few, positive, parts_end_le, variant_end_le}
use Rattle.archive_check.proofs.Names.PositiveAlignments.{parts_align_pos, variants_align_pos}

-- the same n bytes from p on
pub record Agrees (bytes new : List ℕ) (p n : ℕ) : Type 0 where
  pub same : bytes_at new p n ≡ bytes_at bytes p n

bytes_of_more : (bytes : List ℕ) (p k m r : ℕ) → bytes_at bytes (p + k) m ≡ take m (drop k (bytes_at bytes p (k + (m + r))))
unfolding bytes_at
bytes_of_more bytes p k m r = sym (ap (take m) (drop-take k (m + r) (drop p bytes) ∙ ap (take (m + r)) (drop-drop k p bytes)) ∙ take-take m (m + r) (drop (p + k) bytes) (omega arith))

first_byte : (b : List ℕ) (p : ℕ) → slice_index (bytes_at b p 1) 0 ≡ slice_index b p
unfolding bytes_at
first_byte b p = get_or-take 1 (drop p b) 0 0 (omega arith) ∙ get_or-drop p b 0 0 ∙ ap (λ i. slice_index b i) (add-zero p)

module _ (bytes new : List ℕ) where
  pub agrees_part : {p n : ℕ} (q m : ℕ) → p ≤ q → q + m ≤ p + n → Agrees bytes new p n → Agrees bytes new q m
  agrees_part {p = p} {n = n} q m above below h =
      let k : ℕ = q - p in let r : ℕ = n - (k + m) in
      let here : p + k ≡ q = omega arith in let whole : k + (m + r) ≡ n = omega arith in
      let there : bytes_at new p (k + (m + r)) ≡ bytes_at bytes p (k + (m + r)) = rw whole h.same in
      record { same = rw (← here) (bytes_of_more new p k m r ∙ ap (λ b. take m (drop k b)) there ∙ sym (bytes_of_more bytes p k m r)) }

  pub byte_same : {p n : ℕ} → 1 ≤ n → Agrees bytes new p n → slice_index new p ≡ slice_index bytes p
  byte_same {p = p} few h = sym (first_byte new p) ∙ ap (λ b. slice_index b 0) ((agrees_part p 1 (omega arith) (omega arith) h).same) ∙ first_byte bytes p

  pub u32_same : {p n : ℕ} (q : ℕ) → p ≤ q → q + 4 ≤ p + n → Agrees bytes new p n → u32_at new q ≡ u32_at bytes q
  unfolding u32_at
  u32_same q above below h = ap (from_le_bytes w32) ((agrees_part q 4 above below h).same)

  pub i32_same : {p n : ℕ} (q : ℕ) → p ≤ q → q + 4 ≤ p + n → Agrees bytes new p n → i32_at new q ≡ i32_at bytes q
  unfolding i32_at
  i32_same q above below h = ap (cast_signed w32) (u32_same q above below h)

  length_same : {p n : ℕ} (P : Pointee) → pointer_size P ≤ n → Agrees bytes new p n → length_at new p P ≡ length_at bytes p P
  length_same (one X) few h = refl
  length_same {p = p} (run X) few h = u32_same (p + 4) (omega arith) (omega arith) h
  length_same {p = p} text few h = u32_same (p + 4) (omega arith) (omega arith) h

  pointer_same : {p n : ℕ} (sharing : Option Flavor) (P : Pointee) → pointer_size P ≤ n → Agrees bytes new p n → pointer_at new p sharing P ≡ pointer_at bytes p sharing P
  pointer_same {p = p} sharing P few h =
      let target = i32_same p (omega arith) (omega (arith, pointer_few P)) h in let length = length_same P few h in
      λ i. record { target = pos p +ℤ target i; sharing = sharing; order = None; pointee = P; length = length i }

  map_same : {p n : ℕ} (K : Key) (V : Shape) → 8 ≤ n → Agrees bytes new p n → map_at new p K V ≡ map_at bytes p K V
  map_same {p = p} K V few h =
      let target = i32_same p (omega arith) (omega arith) h in let length = u32_same (p + 4) (omega arith) (omega arith) h in
      λ i. record { target = pos p +ℤ target i; sharing = None; order = Some K; pointee = run (entry_of K V); length = length i }

  string_same : {p n : ℕ} → 8 ≤ n → Agrees bytes new p n → string_at new p ≡ string_at bytes p
  string_same {p = p} few h =
      let target = i32_same (p + 4) (omega arith) (omega arith) h in let length = u32_same p (omega arith) (omega arith) h in
      λ i. record { target = pos p +ℤ target i; sharing = None; order = None; pointee = text; length = decoded_length (length i) }

  module _ (s : SchemaTable) (laid : LaidOut s) where
    -- the bytes read so, with these leaves
    abbrev pub ReadsWith : ℕ → Shape → Value → List PlacedLeaf → Type 0
    ReadsWith p X v xs = (r : Reads s new p X v) × (leaves r ≡ xs)

    mutual
      pub reads_agree : {p : ℕ} {X : Shape} {v : Value} (r : Reads s bytes p X v) → Agrees bytes new p (size_of s.layouts X) → ReadsWith p X v (leaves r)
      reads_agree (reads_leaf {p = p} {kind = kind} k) h =
          subst (λ b. ReadsWith p (leaf kind) (number (kind_value kind b)) (number_leaf p kind (kind_value kind b) ∷ [])) h.same (reads_leaf (subst (IsLegal kind) (sym h.same) k), refl)
      reads_agree (reads_parts {p = p} {ps = ps} r) h =
          let q = parts_agree r (agrees_part (p + 0) (parts_end s.layouts 0 ps - 0) (omega arith) (omega (arith, up_le (parts_end s.layouts 0 ps) (parts_align s.layouts ps) (parts_align_pos s.layouts ps))) h) in (reads_parts (q.0), q.1)
      reads_agree (reads_choice {p = p} {name = name} {variants = vs} {ps = ps} {vs = ws} e r) h =
          let most = up_le (variants_end s.layouts vs) (variants_align s.layouts vs) (variants_align_pos s.layouts vs) in
          let least = variant_end_le s laid vs _ ps e in
          let first = parts_end_le s laid ps 1 in
          let tag : slice_index new p ≡ slice_index bytes p = byte_same (omega arith) h in
          let q = parts_agree r (agrees_part (p + 1) (parts_end s.layouts 1 ps - 1) (omega arith) (omega arith) h) in
          subst (λ t. ReadsWith p (choice name vs) (case t ws) (leaves_of_parts r)) tag (reads_choice (rw tag e) (q.0), q.1)
      reads_agree (reads_array r) h = let q = run_agree r h in (reads_array (q.0), q.1)
      reads_agree (reads_boxed {p = p} {P = P}) h = subst (λ q. ReadsWith p (boxed P) (box (hole q)) []) (pointer_same None P (omega arith) h) (reads_boxed, refl)
      reads_agree (reads_vec {p = p} {X = X}) h = subst (λ q. ReadsWith p (vec X) (hole q) []) (pointer_same None (run X) (omega arith) h) (reads_vec, refl)
      reads_agree (reads_map {p = p} {K = K} {V = V}) h = subst (λ q. ReadsWith p (sorted_map K V) (hole q) []) (map_same K V (omega arith) h) (reads_map, refl)
      reads_agree (reads_inline {p = p} o u) h =
          let first = byte_same (omega arith) h in
          subst (λ b. ReadsWith p str (text_value (before_end b)) (text_leaf p (before_end b) ∷ [])) h.same (reads_inline (rw first o) (subst (λ b. IsUtf8 (before_end b)) (sym h.same) u), refl)
      reads_agree (reads_out_of_line {p = p} o l) h =
          let first = byte_same (omega arith) h in
          subst (λ q. ReadsWith p str (hole q) []) (string_same (omega arith) h) (reads_out_of_line (rw first o) (subst (λ n. 8 < decoded_length n) (sym (u32_same p (omega arith) (omega arith) h)) l), refl)
      reads_agree (reads_shared {p = p} {flavor = flavor} {P = P}) h = subst (λ q. ReadsWith p (shared flavor P) (hole q) []) (pointer_same (Some flavor) P (omega arith) h) (reads_shared, refl)
      reads_agree (reads_null {p = p} {P = P} e) h = (reads_null (i32_same p (omega arith) (omega (arith, pointer_few P)) h ∙ e), refl)
      reads_agree (reads_weak {p = p} {flavor = flavor} {P = P} e) h =
          subst (λ q. ReadsWith p (weak flavor P) (hole q) []) (pointer_same (Some flavor) P (omega arith) h) (reads_weak (rw (i32_same p (omega arith) (omega (arith, pointer_few P)) h) e), refl)
      reads_agree (reads_named {p = p} {name = name} {X = X} d r) h =
          let size = ap (λ l. l.size) (laid.solves name X d) in
          let q = reads_agree r (agrees_part p (size_of s.layouts X) (omega arith) (omega (arith, size)) h) in (reads_named d (q.0), q.1)

      pub parts_agree : {p at : ℕ} {ps : Parts} {vs : Values} (r : ReadsParts s bytes p at ps vs) → Agrees bytes new (p + at) (parts_end s.layouts at ps - at) → (q : ReadsParts s new p at ps vs) × (leaves_of_parts q ≡ leaves_of_parts r)
      parts_agree reads_no_part h = (reads_no_part, refl)
      parts_agree (reads_part {p = p} {at = at} {X = X} {ps = ps} r rs) h =
          let rest = parts_end_le s laid ps (up at (align_of s.layouts X) + size_of s.layouts X) in
          let more = up_le at (align_of s.layouts X) (positive s laid X) in
          let q = reads_agree r (agrees_part (p + up at (align_of s.layouts X)) (size_of s.layouts X) (omega arith) (omega arith) h) in
          let qs = parts_agree rs (agrees_part (p + (up at (align_of s.layouts X) + size_of s.layouts X)) (parts_end s.layouts (up at (align_of s.layouts X) + size_of s.layouts X) ps - (up at (align_of s.layouts X) + size_of s.layouts X)) (omega arith) (omega arith) h) in
          (reads_part (q.0) (qs.0), ap₂ (λ a b. a ++ b) (q.1) (qs.1))

      pub run_agree : {p n : ℕ} {X : Shape} {vs : Values} (r : ReadsRun s bytes p n X vs) → Agrees bytes new p (n * size_of s.layouts X) → (q : ReadsRun s new p n X vs) × (leaves_of_run q ≡ leaves_of_run r)
      run_agree reads_none h = (reads_none, refl)
      run_agree (reads_element {p = p} {n = n} {X = X} r rs) h =
          let q = reads_agree r (agrees_part p (size_of s.layouts X) (omega arith) (omega arith) h) in
          let qs = run_agree rs (agrees_part (p + size_of s.layouts X) (n * size_of s.layouts X) (omega arith) (omega arith) h) in
          (reads_element (q.0) (qs.0), ap₂ (λ a b. a ++ b) (q.1) (qs.1))
