-- Keys that stay as they are stay in their order.
use Rattle.std.proofs.Common.{◌≡◌, inl, inr, ℕ, zero, suc, ◌+◌, ◌/◌, ◌==◌, if◌then◌else◌, pos, ◌+ℤ◌, List, length, slice_index, Option, Some, None, Bool, true, false, refl, ap, ◌∙◌, arith, nat_eq}
use Rattle.std.proofs.lemmas.Bool.Decides.{nat_tests}
use Rattle.std.specs.Ordering.{int_cmp, nat_cmp}
use Rattle.std.specs.Cmp.Lexicographic.{slice_cmp}
use Rattle.archive_check.specs.Shape.{Key, leaf_key, str_key, Pointee, one, run, text}
use Rattle.archive_check.specs.Layout.{kind_size, size_of}
use Rattle.archive_check.specs.Value.{Pointer}
use Rattle.archive_check.specs.Reads.{SchemaTable, bytes_at, u32_at, i32_at, kind_value, IsOutOfLine, before_end, decoded_length}
use Rattle.archive_check.specs.Readable.{position, target_from, string_text}
use Rattle.archive_check.specs.Keys.{order_of, key_cmp, ComesBehind, Ascend, IsInOrder, in_any_order, in_key_order}
use Rattle.archive_check.specs.Tour.{Region, Seen, Tour, tour_end, tour_unique, tour_new, tour_again}
use Rattle.archive_check.specs.Leaves.{PlacedLeaf, leaf_begin, leaf_size, Beside, IsBesideKey, AreBesideKeys, IsBesideKeysOf, IsFreeOn}
use Rattle.archive_check.proofs.Tours.EqualBytes.{Agrees, byte_same, u32_same, i32_same}
use Rattle.archive_check.proofs.Editing.EditedBytes.{Edits}

module _ (bytes new : List ℕ) where
  -- the text of the string at q is as it was, wherever it stands
  abbrev pub TextStays : ℕ → Type 0
  TextStays q = IsOutOfLine bytes q → Agrees bytes new (target_from bytes q (q + 4)) (decoded_length (u32_at bytes q))

  -- the key at q is as it was
  abbrev pub KeyStays : Key → ℕ → Type 0
  KeyStays (leaf_key kind) q = Agrees bytes new q (kind_size kind)
  KeyStays str_key q = Agrees bytes new q 8 × TextStays q

  text_by : (q : ℕ) (b : Bool) → nat_eq (slice_index bytes q / 64) 2 ≡ b → Agrees bytes new q 8 → TextStays q
      → (if b then bytes_at new (target_from bytes q (q + 4)) (decoded_length (u32_at bytes q)) else before_end (bytes_at new q 8)) ≡ (if b then bytes_at bytes (target_from bytes q (q + 4)) (decoded_length (u32_at bytes q)) else before_end (bytes_at bytes q 8))
  text_by q true e h k = let o : IsOutOfLine bytes q = grind (arith, nat_tests) in (k o).same
  text_by q false e h k = ap before_end h.same

  pub text_same : (q : ℕ) → Agrees bytes new q 8 → TextStays q → string_text new q ≡ string_text bytes q
  text_same q h k =
      let first : slice_index new q ≡ slice_index bytes q = byte_same bytes new {p = q} {n = 8} (omega arith) h in
      let offset : i32_at new (q + 4) ≡ i32_at bytes (q + 4) = i32_same bytes new {p = q} {n = 8} (q + 4) (omega arith) (omega arith) h in
      let code : u32_at new q ≡ u32_at bytes q = u32_same bytes new {p = q} {n = 8} q (omega arith) (omega arith) h in
      (λ i. if (first i / 64) == 2 then bytes_at new (position (pos q +ℤ offset i)) (decoded_length (code i)) else before_end (bytes_at new q 8))
      ∙ text_by q (nat_eq (slice_index bytes q / 64) 2) refl h k

  cmp_same : (K : Key) (p q : ℕ) → KeyStays K p → KeyStays K q → key_cmp K new p q ≡ key_cmp K bytes p q
  cmp_same (leaf_key kind) p q h k = λ i. int_cmp (kind_value kind (h.same i)) (kind_value kind (k.same i))
  cmp_same str_key p q h k = let a = text_same p h.0 h.1 in let b = text_same q k.0 k.1 in λ i. slice_cmp nat_cmp (a i) (b i)

  -- so are n keys, the first at q and each z bytes behind the one before
  abbrev pub KeysStay : Key → ℕ → ℕ → ℕ → Type 0
  KeysStay K q z zero = Unit {0}
  KeysStay K q z (suc n) = KeyStays K q × KeysStay K (q + z) z n

  abbrev BeforeStays : Key → Option ℕ → Type 0
  BeforeStays K None = Unit {0}
  BeforeStays K (Some p) = KeyStays K p

  behind_same : (K : Key) (before : Option ℕ) (q : ℕ) → BeforeStays K before → KeyStays K q → ComesBehind K bytes before q → ComesBehind K new before q
  behind_same K None q b k h = tt
  behind_same K (Some p) q b k h = cmp_same K p q b k ∙ h

  pub ascend_same : (K : Key) (before : Option ℕ) (q z n : ℕ) → BeforeStays K before → KeysStay K q z n → Ascend K bytes before q z n → Ascend K new before q z n
  ascend_same K before q z zero b k h = tt
  ascend_same K before q z (suc n) b k h = (behind_same K before q b k.0 h.0, ascend_same K (Some q) (q + z) z n k.0 k.1 h.1)

  -- so is each key of what stands at t, if it is in an order
  abbrev pub OrderStays : SchemaTable → ℕ → ℕ → Option Key → Pointee → Type 0
  OrderStays s t n (Some K) (run X) = KeysStay K t (size_of s.layouts X) n
  OrderStays s t n _ _ = Unit {0}

  pub order_same : {s : SchemaTable} {t n : ℕ} {o : Option Key} {P : Pointee} → OrderStays s t n o P → IsInOrder s bytes t n o P → IsInOrder s new t n o P
  order_same k in_any_order = in_any_order
  order_same k (in_key_order h) = in_key_order (ascend_same _ None _ _ _ tt k h)

-- what a tour visits is in its order in the new bytes, too
abbrev pub StaysOrdered : {s : SchemaTable} {bytes : List ℕ} (new : List ℕ) {pending : List ℕ} {seen last : Seen} {O : List Pointer} {C : List Region} → Tour s bytes pending seen O C last → Type 0
StaysOrdered new tour_end = Unit {0}
StaysOrdered {s} new (tour_unique {p = p} {t = t} e h i j) = IsInOrder s new t p.length (order_of p) p.pointee × StaysOrdered new i × StaysOrdered new j
StaysOrdered {s} new (tour_new {p = p} {t = t} e none h i j) = IsInOrder s new t p.length (order_of p) p.pointee × StaysOrdered new i × StaysOrdered new j
StaysOrdered new (tour_again e t known free j) = StaysOrdered new j

-- where bytes are written over a leaf that no key has

module _ (bytes new b : List ℕ) (x : PlacedLeaf) (d : Edits bytes new (leaf_begin x) b) (size : length b ≡ leaf_size x) where
  beside_agrees : (q n : ℕ) → Beside x q n → Agrees bytes new q n
  beside_agrees q n (inl h) = d.behind q n (omega (arith, h, size))
  beside_agrees q n (inr h) = d.before q n h

  beside_stays : (K : Key) (q : ℕ) → IsBesideKey K bytes q x → KeyStays bytes new K q
  beside_stays (leaf_key kind) q h = beside_agrees q (kind_size kind) h
  beside_stays str_key q h = (beside_agrees q 8 h.0, λ o. beside_agrees (target_from bytes q (q + 4)) (decoded_length (u32_at bytes q)) (h.1 o))

  beside_all : (K : Key) (q z n : ℕ) → AreBesideKeys K bytes q z n x → KeysStay bytes new K q z n
  beside_all K q z zero h = tt
  beside_all K q z (suc n) h = (beside_stays K q h.0, beside_all K (q + z) z n h.1)

  order_beside : (s : SchemaTable) (t n : ℕ) (o : Option Key) (P : Pointee) → IsBesideKeysOf s bytes t n o P x → OrderStays bytes new s t n o P
  order_beside s t n None P h = tt
  order_beside s t n (Some K) (one X) h = tt
  order_beside s t n (Some K) (run X) h = beside_all K t (size_of s.layouts X) n h
  order_beside s t n (Some K) text h = tt

  pub free_keeps : {s : SchemaTable} {pending : List ℕ} {seen last : Seen} {O : List Pointer} {C : List Region} (i : Tour s bytes pending seen O C last) → IsFreeOn x i → StaysOrdered new i
  free_keeps tour_end f = tt
  free_keeps {s} (tour_unique {p = p} {t = t} e h i j) f = (order_same bytes new (order_beside s t p.length (order_of p) p.pointee f.0) h.ordered, free_keeps i f.1, free_keeps j f.2)
  free_keeps {s} (tour_new {p = p} {t = t} e none h i j) f = (order_same bytes new (order_beside s t p.length (order_of p) p.pointee f.0) h.ordered, free_keeps i f.1, free_keeps j f.2)
  free_keeps (tour_again e t known free j) f = free_keeps j f
