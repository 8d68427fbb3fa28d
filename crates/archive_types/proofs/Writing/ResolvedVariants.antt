-- The bytes of variants with no part or one: what they read as, and that they are clean.
use Rattle.std.proofs.Common.{◌≡◌, ℕ, ◌+◌, ◌-◌, ◌<◌, ◌≤◌, List, ◌++◌, length, take, drop, slice_index, slice_set, refl, sym, ap, subst, ◌∙◌, arith, add-zero, append_assoc, length-append, Some, Result, Ok, Err, OnOk}
use Rattle.std.proofs.lemmas.List.{take-append-drop, length-take, length-drop, length-set, get_or-set_same, get_or-set_other, get_or_append_left, get_or-append_right, get_or-take, get_or-drop, drop_at, take_at}
use Rattle.archive_check.specs.declared.format.error.Error.{Error}
use Rattle.archive_check.specs.Shape.{Name, Shape, choice, Variants, part, no_part, variant_at}
use Rattle.archive_check.specs.Layout.{Layout, up, size_of, align_of}
use Rattle.archive_check.specs.Definitions.{Definitions, Knows, HasLayout}
use Rattle.archive_check.specs.Value.{Value, case, no_value}
use Rattle.archive_check.specs.Reads.{SchemaTable, bytes_at, Reads, reads_choice, reads_part, reads_no_part}
use Rattle.archive_check.specs.CleanRegions.{Occurs, AreZero, IsZeroed, CleanValue, clean_choice, clean_part, clean_no_part}
use Rattle.archive_check.proofs.Tours.StandingBytes.{stands_index}
use Rattle.archive_types.specs.Writing.{Resolves}
use Rattle.archive_types.specs.Members.Variants.{case_of, HoldsCase}
use Rattle.archive_types.proofs.Writing.Appending.{size_is, align_is}

-- a part of bytes that stand somewhere
pub stands_within : (B : List ℕ) (p o n : ℕ) (a : List ℕ) → o + n ≤ length a → Occurs B p a → Occurs B (p + o) (bytes_at a o n)
unfolding bytes_at
stands_within B p o n a few h = record {
  before = h.before ++ take o a;
  behind = drop n (drop o a) ++ h.behind;
  is = h.is ∙ ap (λ x. h.before ++ (x ++ h.behind)) (sym (take-append-drop o a) ∙ ap (λ y. take o a ++ y) (sym (take-append-drop n (drop o a)))) ∙ simp append_assoc;
  at = omega (arith, length-append h.before (take o a), length-take o a, h.at);
}

-- zeros among them
stands_zeros : (B : List ℕ) (p lo hi : ℕ) (a : List ℕ) → hi ≤ length a → ((i : ℕ) → lo ≤ i → i < hi → slice_index a i ≡ 0) → Occurs B p a → AreZero B (p + lo) (p + hi)
stands_zeros B p lo hi a few z h = record {
  zero_at = λ k above below. (
      let i : ℕ = k - p in
      let here : p + i ≡ k = omega arith in
      rw (← here) (stands_index B p i a (omega arith) h ∙ z i (omega arith) (omega arith)));
}

pub first_stands : (B : List ℕ) (p tag : ℕ) (a : List ℕ) → 0 < length a → slice_index a 0 ≡ tag → Occurs B p a → slice_index B p ≡ tag
first_stands B p tag a some is h = ap (slice_index B) (sym (add-zero p)) ∙ stands_index B p 0 a some h ∙ is

module _ (D E : Definitions) (known : (s : SchemaTable) → Knows s D → Knows s E) (name : Name) (vs : Variants) (tag : ℕ) (X : Shape) (is : variant_at vs tag ≡ Some (part X no_part)) (L C : Layout) (inner : HasLayout E X L)
    (outer : HasLayout D (choice name vs) C) (p offset size : ℕ) (flat : Value) (a : List ℕ) (there : offset ≡ up 1 L.align) (positive : 0 < offset) (same : size ≡ L.size) (sized : length a ≡ C.size)
    (h : HoldsCase E p tag offset size X flat a) where
  begins : (s : SchemaTable) → Knows s D → up 1 (align_of s.layouts X) ≡ offset
  begins s k = rw (align_is inner s (known s k)) (sym there)

  ends : (s : SchemaTable) → Knows s D → up 1 (align_of s.layouts X) + size_of s.layouts X ≡ offset + size
  ends s k = rw (begins s k, size_is inner s (known s k), same) refl

  part_stands : (s : SchemaTable) (bytes : List ℕ) → Knows s D → Occurs bytes p a → Occurs bytes (p + offset) (bytes_at a offset size)
  part_stands s bytes k stands = stands_within bytes p offset size a h.fits stands

  pub resolves_case : Resolves D p a (choice name vs) (case_of tag flat)
  resolves_case = record {
    reads = λ s bytes k stands. (
        let first : slice_index bytes p ≡ tag = first_stands bytes p tag a (omega (arith, h.fits)) h.tag_is stands in
        let part_reads : Reads s bytes (p + up 1 (align_of s.layouts X)) X flat = rw (begins s k) (h.holds.reads s bytes (known s k) (part_stands s bytes k stands)) in
        subst (λ t. Reads s bytes p (choice name vs) (case_of t flat)) first (reads_choice (rw first is) (reads_part part_reads reads_no_part)));
    clean = λ s bytes k stands. (
        let first : slice_index bytes p ≡ tag = first_stands bytes p tag a (omega (arith, h.fits)) h.tag_is stands in
        let part_clean : CleanValue s bytes (p + up 1 (align_of s.layouts X)) X = rw (begins s k) (h.holds.clean s bytes (known s k) (part_stands s bytes k stands)) in
        let gap : AreZero bytes (p + 1) (p + up 1 (align_of s.layouts X)) = rw (begins s k) (stands_zeros bytes p 1 offset a (omega (arith, h.fits)) (λ i low high. h.before i (omega arith) high) stands) in
        let rest : AreZero bytes (p + (up 1 (align_of s.layouts X) + size_of s.layouts X)) (p + size_of s.layouts (choice name vs))
        = rw (ends s k, size_is outer s k, ← sized) (stands_zeros bytes p (offset + size) (length a) a (omega arith) h.behind stands) in
        clean_choice (rw first is) (clean_part gap part_clean (clean_no_part rest)));
  }

-- a variant with none
module _ (D : Definitions) (name : Name) (vs : Variants) (tag : ℕ) (is : variant_at vs tag ≡ Some no_part) (C : Layout) (outer : HasLayout D (choice name vs) C) (p : ℕ) (a : List ℕ) (some : 0 < length a) (sized : length a ≡ C.size)
    (tag_is : slice_index a 0 ≡ tag) (zeros : (i : ℕ) → 0 < i → i < length a → slice_index a i ≡ 0) where
  pub resolves_empty_case : Resolves D p a (choice name vs) (case tag no_value)
  resolves_empty_case = record {
    reads = λ s bytes k stands. (
        let first : slice_index bytes p ≡ tag = first_stands bytes p tag a some tag_is stands in
        subst (λ t. Reads s bytes p (choice name vs) (case t no_value)) first (reads_choice (rw first is) reads_no_part));
    clean = λ s bytes k stands. (
        let first : slice_index bytes p ≡ tag = first_stands bytes p tag a some tag_is stands in
        let rest : AreZero bytes (p + 1) (p + size_of s.layouts (choice name vs)) = rw (size_is outer s k, ← sized) (stands_zeros bytes p 1 (length a) a (omega arith) (λ i low high. zeros i (omega arith) high) stands) in
        clean_choice (rw first is) (clean_no_part rest));
  }

-- zeros are the first variant, where it has no part
pub resolves_zeros : (D : Definitions) (name : Name) (vs : Variants) → variant_at vs 0 ≡ Some no_part → (C : Layout) → HasLayout D (choice name vs) C → (p : ℕ) (a : List ℕ) → 0 < length a → length a ≡ C.size → IsZeroed a
    → Resolves D p a (choice name vs) (case 0 no_value)
resolves_zeros D name vs is C outer p a some sized z = resolves_empty_case D name vs 0 is C outer p a some sized (z.zero_at 0 some) (λ i low high. z.zero_at i high)

-- a tag, and then a part, written over zeros
module _ (D : Definitions) (p tag o n k : ℕ) (X : Shape) (flat : Value) (old part_bytes : List ℕ) (zeros : IsZeroed old) (positive : 0 < o) (few : o + n ≤ length old) (sized : length part_bytes ≡ n) (same : k ≡ n) where
  abbrev tagged : List ℕ
  tagged = slice_set old 0 tag

  abbrev written : List ℕ
  written = take o tagged ++ (part_bytes ++ drop k (drop o tagged))

  front : length (take o tagged) ≡ o
  front = omega (arith, length-take o tagged, length-set old 0 tag)

  whole_length : length written ≡ length old
  whole_length = omega (arith, length-append (take o tagged) (part_bytes ++ drop k (drop o tagged)), length-append part_bytes (drop k (drop o tagged)), front, length-drop k (drop o tagged), length-drop o tagged, length-set old 0 tag)

  zero_tagged : (i : ℕ) → 0 < i → i < length old → slice_index tagged i ≡ 0
  zero_tagged i low high = get_or-set_other old 0 i tag 0 (λ e. omega (arith, e)) ∙ zeros.zero_at i high

  in_front : (i : ℕ) → i < o → slice_index written i ≡ slice_index tagged i
  in_front i low = get_or_append_left (take o tagged) (part_bytes ++ drop k (drop o tagged)) 0 i (omega (arith, front)) ∙ get_or-take o tagged i 0 low

  in_back : (i : ℕ) → o + n ≤ i → slice_index written i ≡ slice_index tagged i
  in_back i high =
      let j : ℕ = i - o - n in
      let there : o + (k + j) ≡ i = omega arith in
      get_or-append_right (take o tagged) (part_bytes ++ drop k (drop o tagged)) o i 0 front (omega arith)
      ∙ get_or-append_right part_bytes (drop k (drop o tagged)) n (i - o) 0 sized (omega arith)
      ∙ get_or-drop k (drop o tagged) j 0
      ∙ get_or-drop o tagged (k + j) 0
      ∙ ap (slice_index tagged) there

  part_is : bytes_at written o n ≡ part_bytes
  unfolding bytes_at
  part_is = ap (take n) (drop_at (take o tagged) (part_bytes ++ drop k (drop o tagged)) o front) ∙ take_at part_bytes (drop k (drop o tagged)) n sized

  pub case_written : Resolves D (p + o) part_bytes X flat → HoldsCase D p tag o n X flat (take o (slice_set old 0 tag) ++ (part_bytes ++ drop k (drop o (slice_set old 0 tag))))
  case_written h = record {
    tag_is = in_front 0 positive ∙ get_or-set_same old 0 tag 0 (omega arith);
    before = λ i low high. in_front i high ∙ zero_tagged i low (omega arith);
    fits = omega (arith, whole_length);
    holds = rw part_is h;
    behind = λ i low high. in_back i low ∙ zero_tagged i (omega arith) (omega (arith, whole_length));
  }

pub on_ok : {U A B : Type 0} (r : Result U Error) → (A → B) → OnOk r A → OnOk r B
on_ok (Ok u) f h = f h
on_ok (Err e) f h = tt
