-- The bytes of a leaf, a tag, a pointer or a string are the same in two buffers, where they say the same there.
use Rattle.std.proofs.Common.{◌≡◌, ⊎_elim, ℕ, suc, ◌+◌, ◌-◌, ◌/◌, ◌%◌, ◌*◌, ◌<◌, ◌≤◌, ℤ, pos, ◌+ℤ◌, List, ◌∷◌, length, take, drop, Option, Some, None, slice_index, arith, refl, sym, ap, ◌∙◌, subst, w32, drop-cons}
use Rattle.std.proofs.Math.IntN.{◌-ℤ◌, +ℤ_comm, +ℤ-neg_ℤ_cancel}
use Rattle.std.proofs.lemmas.Bool.{cases_lt}
use Rattle.std.proofs.lemmas.List.Elements.{All-take, All-drop}
use Rattle.archive_check.specs.Shape.{signed, Flavor, Key, entry_of, Shape, str, weak, Pointee, one, run, text}
use Rattle.archive_check.specs.Layout.{kind_size, size_of, pointer_size}
use Rattle.archive_check.specs.Value.{Value}
use Rattle.archive_check.specs.Reads.{SchemaTable, bytes_at, u32_at, i32_at, IsOutOfLine, before_end, decoded_length, length_at, pointer_at, map_at, string_at, Reads, reads_leaf, reads_parts, reads_choice, reads_array, reads_boxed, reads_vec, reads_map, reads_inline, reads_out_of_line, reads_shared, reads_null, reads_weak, reads_named}
use Rattle.archive_check.specs.LittleEndian.{little_number, AreBytes}
use Rattle.archive_check.specs.Tightness.{own_size}
use Rattle.archive_check.proofs.format.BytesAt.{byte_in}
use Rattle.archive_check.proofs.format.LegalBytes.{encoding_unique}
use Rattle.archive_check.proofs.Editing.EditedBytes.{bytes_long}
use Rattle.archive_check.proofs.LittleEndian.{from_le_bytes-little, from_le_bytes-one, with_sign-one}
use Rattle.archive_check.proofs.Editing.Texts.{inline_bytes}

-- a part of the bytes is bytes
few : (bytes : List ℕ) (p n : ℕ) → AreBytes bytes → AreBytes (bytes_at bytes p n)
unfolding bytes_at
few bytes p n h = All-take (λ b. b < 256) n (drop p bytes) (All-drop (λ b. b < 256) p bytes h)

-- a number's first byte is its lowest
first_of : (bytes : List ℕ) (p : ℕ) → AreBytes bytes → p + 4 ≤ length bytes → u32_at bytes p % 256 ≡ slice_index bytes p
unfolding u32_at bytes_at
first_of bytes p h fits =
    let parts : take 4 (drop p bytes) ≡ slice_index bytes p ∷ take 3 (drop (suc p) bytes) = ap (take 4) (drop-cons bytes p 0 (omega arith)) in
    let is = from_le_bytes-little w32 (take 4 (drop p bytes)) (bytes_long bytes p 4 fits) in
    let sum : little_number (take 4 (drop p bytes)) ≡ slice_index bytes p + 256 * little_number (take 3 (drop (suc p) bytes)) = ap little_number parts in
    let small : slice_index bytes p < 256 = h p 0 (omega arith) in
    rw is (rw sum (omega (arith, small)))

-- the length that an out-of-line string codes, and its first byte's highest bits, say the whole number
same_code : (x y : ℕ) → x % 256 / 64 ≡ 2 → y % 256 / 64 ≡ 2 → x % 64 + x / 256 * 64 ≡ y % 64 + y / 256 * 64 → x ≡ y
same_code x y h k e = omega arith

add_one : (p : ℕ) (x y : ℤ) → pos p +ℤ x ≡ pos p +ℤ y → x ≡ y
add_one p x y e = sym (+ℤ-neg_ℤ_cancel x (pos p)) ∙ ap (λ z. z -ℤ pos p) (+ℤ_comm x (pos p) ∙ e ∙ +ℤ_comm (pos p) y) ∙ +ℤ-neg_ℤ_cancel y (pos p)

module _ (a b : List ℕ) where
  pub byte_there : (p n i : ℕ) → p ≤ i → i < p + n → bytes_at a p n ≡ bytes_at b p n → slice_index a i ≡ slice_index b i
  byte_there p n i low high e =
      let k : ℕ = i - p in let here : p + k ≡ i = omega arith in
      subst (λ j. slice_index a j ≡ slice_index b j) here (sym (byte_in a p n k (omega arith)) ∙ ap (λ x. slice_index x k) e ∙ byte_in b p n k (omega arith))

  -- the same bytes at p
  abbrev Same : ℕ → ℕ → Type 0
  Same p n = (i : ℕ) → p ≤ i → i < p + n → slice_index a i ≡ slice_index b i

  two : (p n m : ℕ) → Same p n → Same (p + n) m → Same p (n + m)
  two p n m h k i low high = ⊎_elim (λ lt. h i low lt) (λ ge. k i ge (omega arith)) (cases_lt i (p + n))

  module _ (h : AreBytes a) (k : AreBytes b) where
    u32_bytes : (p : ℕ) → u32_at a p ≡ u32_at b p → p + 4 ≤ length a → p + 4 ≤ length b → Same p 4
    unfolding u32_at
    u32_bytes p e fits room i low high = byte_there p 4 i low high (from_le_bytes-one w32 (bytes_at a p 4) (bytes_at b p 4) (bytes_long a p 4 fits) (bytes_long b p 4 room) (few a p 4 h) (few b p 4 k) e)

    i32_bytes : (p : ℕ) → i32_at a p ≡ i32_at b p → p + 4 ≤ length a → p + 4 ≤ length b → Same p 4
    unfolding i32_at u32_at
    i32_bytes p e fits room i low high = byte_there p 4 i low high (with_sign-one signed w32 (bytes_at a p 4) (bytes_at b p 4) (bytes_long a p 4 fits) (bytes_long b p 4 room) (few a p 4 h) (few b p 4 k) e)

    -- an offset, and a length behind it where there is one
    offset_bytes : (p : ℕ) (P : Pointee) → i32_at a p ≡ i32_at b p → length_at a p P ≡ length_at b p P → p + pointer_size P ≤ length a → p + pointer_size P ≤ length b → Same p (pointer_size P)
    offset_bytes p (one X) e f fits room = i32_bytes p e fits room
    offset_bytes p (run X) e f fits room = two p 4 4 (i32_bytes p e (omega arith) (omega arith)) (u32_bytes (p + 4) f (omega arith) (omega arith))
    offset_bytes p text e f fits room = two p 4 4 (i32_bytes p e (omega arith) (omega arith)) (u32_bytes (p + 4) f (omega arith) (omega arith))

    pointer_bytes : (p : ℕ) (sharing : Option Flavor) (P : Pointee) → pointer_at a p sharing P ≡ pointer_at b p sharing P → p + pointer_size P ≤ length a → p + pointer_size P ≤ length b → Same p (pointer_size P)
    pointer_bytes p sharing P e fits room = offset_bytes p P (add_one p (i32_at a p) (i32_at b p) (ap (λ z. z.target) e)) (ap (λ z. z.length) e) fits room

    map_bytes : (p : ℕ) (K : Key) (V : Shape) → map_at a p K V ≡ map_at b p K V → p + 8 ≤ length a → p + 8 ≤ length b → Same p 8
    map_bytes p K V e fits room = offset_bytes p (run (entry_of K V)) (add_one p (i32_at a p) (i32_at b p) (ap (λ z. z.target) e)) (ap (λ z. z.length) e) fits room

    string_bytes : (p : ℕ) → IsOutOfLine a p → IsOutOfLine b p → string_at a p ≡ string_at b p → p + 8 ≤ length a → p + 8 ≤ length b → Same p 8
    unfolding decoded_length
    string_bytes p o q e fits room =
        let code = same_code (u32_at a p) (u32_at b p) (rw (first_of a p h (omega arith)) o) (rw (first_of b p k (omega arith)) q) (ap (λ z. z.length) e) in
        two p 4 4 (u32_bytes p code (omega arith) (omega arith)) (i32_bytes (p + 4) (add_one p (i32_at a (p + 4)) (i32_at b (p + 4)) (ap (λ z. z.target) e)) (omega arith) (omega arith))

-- the unused bytes of the string at p are 0xff, if it stands in place
abbrev pub FilledAt : List ℕ → ℕ → Type 0
FilledAt bytes p = (i : ℕ) → length (before_end (bytes_at bytes p 8)) ≤ i → i < 8 → slice_index bytes (p + i) ≡ 0xff

-- what a clean buffer has at p: a string's unused bytes, and a null's length
pub record Trimmed (bytes : List ℕ) (p : ℕ) (Y : Shape) : Type 0 where
  pub strings : Y ≡ str → (IsOutOfLine bytes p → ⊥) → FilledAt bytes p
  pub nulls : (flavor : Flavor) (P : Pointee) → Y ≡ weak flavor P → i32_at bytes p ≡ pos 1 → length_at bytes p P ≡ 0

module _ (a b : List ℕ) where
  inline_byte : (p i : ℕ) → before_end (bytes_at a p 8) ≡ before_end (bytes_at b p 8) → FilledAt a p → FilledAt b p → i < 8 → slice_index a (p + i) ≡ slice_index b (p + i)
  inline_byte p i e f g high =
      let n = length (before_end (bytes_at a p 8)) in
      let same : n ≡ length (before_end (bytes_at b p 8)) = ap length e in
      ⊎_elim
      (λ lt. byte_there a b p n (p + i) (omega arith) (omega (arith, lt)) (inline_bytes a p ∙ e ∙ sym (inline_bytes b p) ∙ ap (bytes_at b p) (sym same)))
      (λ ge. f i ge high ∙ sym (g i (omega (arith, ge, same)) high))
      (cases_lt i n)

  -- its own bytes are the same in both
  pub own_bytes : {s : SchemaTable} {p : ℕ} {Y : Shape} {v w : Value} → AreBytes a → AreBytes b → Reads s a p Y v → Reads s b p Y w → v ≡ w → p + size_of s.layouts Y ≤ length a → p + size_of s.layouts Y ≤ length b → Trimmed a p Y → Trimmed b p Y
      → (i : ℕ) → p ≤ i → i < p + own_size Y → slice_index a i ≡ slice_index b i
  own_bytes h k (reads_leaf {p = p} {kind = kind} l) (reads_leaf m) e fits room t u i low high =
      byte_there a b p (kind_size kind) i low high (encoding_unique kind (bytes_at a p (kind_size kind)) (bytes_at b p (kind_size kind)) l m (few a p (kind_size kind) h) (few b p (kind_size kind) k) (cc))
  own_bytes h k (reads_parts r) q e fits room t u i low high = absurd (omega arith)
  own_bytes h k (reads_choice {p = p} d r) (reads_choice f q) e fits room t u i low high =
      let here : p ≡ i = omega arith in let tag : slice_index a p ≡ slice_index b p = cc in subst (λ j. slice_index a j ≡ slice_index b j) here tag
  own_bytes h k (reads_array r) q e fits room t u i low high = absurd (omega arith)
  own_bytes h k (reads_boxed {p = p} {P = P}) reads_boxed e fits room t u i low high = pointer_bytes a b h k p None P (cc) fits room i low high
  own_bytes h k (reads_vec {p = p} {X = X}) reads_vec e fits room t u i low high = pointer_bytes a b h k p None (run X) (cc) fits room i low high
  own_bytes h k (reads_map {p = p} {K = K} {V = V}) reads_map e fits room t u i low high = map_bytes a b h k p K V (cc) fits room i low high
  own_bytes h k (reads_inline {p = p} o r) (reads_inline q x) e fits room t u i low high =
      let j : ℕ = i - p in let here : p + j ≡ i = omega arith in
      subst (λ m. slice_index a m ≡ slice_index b m) here (inline_byte p j (cc) (t.strings refl o) (u.strings refl q) (omega arith))
  own_bytes h k (reads_inline o r) (reads_out_of_line q x) e fits room t u i low high = cc
  own_bytes h k (reads_out_of_line o r) (reads_inline q x) e fits room t u i low high = cc
  own_bytes h k (reads_out_of_line {p = p} o r) (reads_out_of_line q x) e fits room t u i low high = string_bytes a b h k p o q (cc) fits room i low high
  own_bytes h k (reads_shared {p = p} {flavor = flavor} {P = P}) reads_shared e fits room t u i low high = pointer_bytes a b h k p (Some flavor) P (cc) fits room i low high
  own_bytes h k (reads_null {p = p} {flavor = flavor} {P = P} m) (reads_null n) e fits room t u i low high =
      offset_bytes a b h k p P (m ∙ sym n) (t.nulls flavor P refl m ∙ sym (u.nulls flavor P refl n)) fits room i low high
  own_bytes h k (reads_null m) (reads_weak n) e fits room t u i low high = cc
  own_bytes h k (reads_weak m) (reads_null n) e fits room t u i low high = cc
  own_bytes h k (reads_weak {p = p} {flavor = flavor} {P = P} m) (reads_weak n) e fits room t u i low high = pointer_bytes a b h k p (Some flavor) P (cc) fits room i low high
  own_bytes h k (reads_named d r) q e fits room t u i low high = absurd (omega arith)
