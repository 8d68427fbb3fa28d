-- A tight list of regions, each of them clean, is clean as a whole.
use Rattle.std.proofs.Common.{◌≡◌, inl, inr, ℕ, zero, suc, pos, ◌+◌, ◌*◌, ◌<◌, ◌≤◌, List, [], ◌∷◌, length, slice_index, Some, refl, ap, subst, arith, Contains}
use Rattle.std.proofs.lemmas.Bool.{cases_lt}
use Rattle.archive_check.specs.Shape.{Name, Flavor, Shape, parts, choice, array, str, weak, named, Pointee, one, run, text, Parts, Variants, definition, variant_at}
use Rattle.archive_check.specs.Layout.{up, size_of, align_of, Solves}
use Rattle.archive_check.specs.Reads.{SchemaTable, i32_at, length_at, IsOutOfLine}
use Rattle.archive_check.specs.Tour.{Region, pointee_size}
use Rattle.archive_check.specs.Within.{IsPart, first_part, later_part, Within, whole, in_parts, in_choice, in_array, in_named, PartOfRegion, whole_region, in_one, in_run, in_string, PartOfSome}
use Rattle.archive_check.specs.Tightness.{after, Tight, own_size, Owned, owned_part, owned_text, Clean}
use Rattle.archive_check.specs.CleanRegions.{IsFilled, CleanValue, clean_leaf, clean_parts, clean_choice, clean_array, clean_boxed, clean_vec, clean_map, clean_inline, clean_out_of_line, clean_shared, clean_null, clean_weak, clean_named, CleanParts, clean_no_part, clean_part, CleanRun, clean_none, clean_element, CleanPointee, clean_one, clean_run, clean_text, CleanRegions}
use Rattle.archive_check.proofs.Meanings.ReachedParts.{within_trans}
use Rattle.archive_check.proofs.Elements.{contains_first, contains_later}

abbrev pub AreSized : SchemaTable → List Region → Type 0
AreSized s [] = Unit {0}
AreSized s (r ∷ C) = (r.size ≡ pointee_size s r.pointee r.length) × AreSized s C

module _ (s : SchemaTable) (bytes : List ℕ) where
  -- each part of what is clean is clean

  part_clean : {p at stop q : ℕ} {ps : Parts} {Y : Shape} → CleanParts s bytes p at ps stop → IsPart s p at ps q Y → CleanValue s bytes q Y
  part_clean (clean_no_part z) i = elim i [ ]
  part_clean (clean_part z h i) first_part = h
  part_clean (clean_part z h i) (later_part j) = part_clean i j

  run_clean : {p n k : ℕ} {X : Shape} → CleanRun s bytes p n X → k < n → CleanValue s bytes (p + k * size_of s.layouts X) X
  run_clean clean_none less = absurd (omega arith)
  run_clean {p = p} {k = zero} {X = X} (clean_element h i) less = subst (λ q. CleanValue s bytes q X) (omega arith) h
  run_clean {p = p} {k = suc k} {X = X} (clean_element h i) less = subst (λ q. CleanValue s bytes q X) (omega arith) (run_clean {k = k} i (omega arith))

  of_parts : {p : ℕ} {ps : Parts} → CleanValue s bytes p (parts ps) → CleanParts s bytes p 0 ps (p + size_of s.layouts (parts ps))
  of_parts (clean_parts h) = h

  of_choice : {p : ℕ} {name : Name} {variants : Variants} {ps : Parts} → CleanValue s bytes p (choice name variants) → variant_at variants (slice_index bytes p) ≡ Some ps → CleanParts s bytes p 1 ps (p + size_of s.layouts (choice name variants))
  of_choice {ps = ps} (clean_choice {ps = qs} e h) d = let same : qs ≡ ps = cc in rw same at h

  of_array : {p n : ℕ} {X : Shape} → CleanValue s bytes p (array n X) → CleanRun s bytes p n X
  of_array (clean_array h) = h

  of_named : {p : ℕ} {name : Name} {Y : Shape} → CleanValue s bytes p (named name) → definition s.table name ≡ Some Y → CleanValue s bytes p Y
  of_named {Y = Y} (clean_named {X = X} d h) e = let same : X ≡ Y = cc in rw same at h

  clean_within : {p : ℕ} {X : Shape} {q : ℕ} {Y : Shape} → CleanValue s bytes p X → Within s bytes p X q Y → CleanValue s bytes q Y
  clean_within h whole = h
  clean_within h (in_parts w i) = part_clean (of_parts (clean_within h w)) i
  clean_within h (in_choice w e i) = part_clean (of_choice (clean_within h w) e) i
  clean_within h (in_array w k) = run_clean (of_array (clean_within h w)) k
  clean_within h (in_named w d) = of_named (clean_within h w) d

  -- what belongs to nothing is 0

  abbrev Free : ℕ → ℕ → Shape → Type 0
  Free i p X = (q : ℕ) (Y : Shape) → Within s bytes p X q Y → q ≤ i → i < q + own_size Y → ⊥

  module _ (solves : Solves s.table s.layouts) where
    mutual
      clean_zero : {p : ℕ} {X : Shape} (i : ℕ) → CleanValue s bytes p X → p ≤ i → i < p + size_of s.layouts X → Free i p X → slice_index bytes i ≡ 0
      clean_zero i clean_leaf above below free = absurd (free _ _ whole above below)
      clean_zero i (clean_parts {p = p} {ps = ps} h) above below free = parts_zero i h (omega arith) below (λ q Y j. λ r Z w. free r Z (within_trans s bytes (in_parts whole j) w))
      clean_zero i (clean_choice {p = p} {name = name} {variants = vs} {ps = ps} e h) above below free =
          elim (cases_lt p i) [
            | inl later ↦ parts_zero i h (omega arith) below (λ q Y j. λ r Z w. free r Z (within_trans s bytes (in_choice whole e j) w))
            | inr same ↦ absurd (free p (choice name vs) whole above (omega arith))
          ]
      clean_zero i (clean_array {n = n} {X = X} h) above below free = run_zero i n 0 h above below (λ k less. λ r Z w. free r Z (within_trans s bytes (in_array whole less) w))
      clean_zero i clean_boxed above below free = absurd (free _ _ whole above below)
      clean_zero i clean_vec above below free = absurd (free _ _ whole above below)
      clean_zero i clean_map above below free = absurd (free _ _ whole above below)
      clean_zero i (clean_inline o f) above below free = absurd (free _ _ whole above below)
      clean_zero i (clean_out_of_line o) above below free = absurd (free _ _ whole above below)
      clean_zero i clean_shared above below free = absurd (free _ _ whole above below)
      clean_zero i (clean_null e f) above below free = absurd (free _ _ whole above below)
      clean_zero i (clean_weak e) above below free = absurd (free _ _ whole above below)
      clean_zero i (clean_named {name = name} {X = X} d h) above below free =
          let same = ap (λ l. l.size) (solves name X d) in
          clean_zero i h above (omega (arith, same)) (λ r Z w. free r Z (within_trans s bytes (in_named whole d) w))

      parts_zero : {p at stop : ℕ} {ps : Parts} (i : ℕ) → CleanParts s bytes p at ps stop → p + at ≤ i → i < stop
          → ((q : ℕ) (Y : Shape) → IsPart s p at ps q Y → Free i q Y) → slice_index bytes i ≡ 0
      parts_zero i (clean_no_part z) above below free = z.zero_at i above below
      parts_zero i (clean_part {p = p} {at = at} {X = X} z h j) above below free =
          elim (cases_lt i (p + up at (align_of s.layouts X))) [
            | inl before ↦ z.zero_at i above before
            | inr behind ↦ elim (cases_lt i (p + up at (align_of s.layouts X) + size_of s.layouts X)) [
              | inl here ↦ clean_zero i h behind here (free _ X first_part)
              | inr later ↦ parts_zero i j (omega arith) below (λ q Y k. free q Y (later_part k))
            ]
          ]

      run_zero : {p : ℕ} {X : Shape} (i n m : ℕ) → CleanRun s bytes p n X → p ≤ i → i < p + n * size_of s.layouts X
          → ((k : ℕ) → k < n → Free i (p + k * size_of s.layouts X) X) → slice_index bytes i ≡ 0
      run_zero i zero m clean_none above below free = absurd (omega arith)
      run_zero {p = p} {X = X} i (suc n) m (clean_element h j) above below free =
          elim (cases_lt i (p + size_of s.layouts X)) [
            | inl here ↦ clean_zero i h above here (subst (λ q. Free i q X) (omega arith) (free 0 (omega arith)))
            | inr later ↦ run_zero i n m j later (omega arith) (λ k less. subst (λ q. Free i q X) (omega arith) (free (suc k) (omega arith)))
          ]

    pointee_zero : (i : ℕ) (r : Region) (P : Pointee) → r.pointee ≡ P → CleanPointee s bytes r.begin P r.length → r.begin ≤ i → i < r.begin + pointee_size s P r.length
        → ((q : ℕ) (Y : Shape) → PartOfRegion s bytes r q (one Y) 0 → q ≤ i → i < q + own_size Y → ⊥) → (P ≡ text → ⊥) → slice_index bytes i ≡ 0
    pointee_zero i r (one X) is (clean_one h) above below free other = clean_zero i h above below (λ q Y w. free q Y (in_one is w))
    pointee_zero i r (run X) is (clean_run h) above below free other = run_zero i r.length 0 h above below (λ k less. λ q Y w. free q Y (in_run is less w))
    pointee_zero i r text is clean_text above below free other = absurd (other refl)

    clean_regions_zero : (i start stop : ℕ) (C : List Region) → AreSized s C → Tight start C stop → CleanRegions s bytes start C → start ≤ i → i < stop → (Owned s bytes C i → ⊥) → slice_index bytes i ≡ 0
    clean_regions_zero i start stop [] sized tight clean above below free = absurd (omega arith)
    clean_regions_zero i start stop (r ∷ C) sized tight clean above below free =
        elim (cases_lt i r.begin) [
          | inl before ↦ clean.0.zero_at i above before
          | inr behind ↦ elim (cases_lt i (r.begin + r.size)) [
            | inl here ↦ pointee_zero i r r.pointee refl clean.1 behind (omega (arith, sized.0))
                (λ q Y w a b. free (owned_part (r, contains_first C r, w) a b))
                (λ e. free (owned_text (contains_first C r) e behind (let same : pointee_size s r.pointee r.length ≡ r.length = ap (λ P. pointee_size s P r.length) e in omega (arith, sized.0))))
            | inr later ↦ elim (cases_lt i (after r)) [
              | inl gap ↦ clean.2.zero_at i later gap
              | inr next ↦ clean_regions_zero i (after r) stop C sized.1 tight.1 clean.3 next below (λ o. free (owned_later r C i o))
            ]
          ]
        ]
      where
        owned_later : (r : Region) (C : List Region) (i : ℕ) → Owned s bytes C i → Owned s bytes (r ∷ C) i
        owned_later r C i (owned_part (q, c, w) a b) = owned_part (q, contains_later r C q c, w) a b
        owned_later r C i (owned_text {r = q} c e a b) = owned_text (contains_later r C q c) e a b

    region_clean : (start : ℕ) (C : List Region) (r : Region) → Contains C r → CleanRegions s bytes start C → CleanPointee s bytes r.begin r.pointee r.length
    region_clean start [] r (k, less, e) clean = absurd (omega arith)
    region_clean start (q ∷ C) r (zero, less, e) clean = rw e at clean.1
    region_clean start (q ∷ C) r (suc k, less, e) clean = region_clean (after q) C r (k, omega arith, e) clean.3

    clean_of_one : {t n : ℕ} {X : Shape} → CleanPointee s bytes t (one X) n → CleanValue s bytes t X
    clean_of_one (clean_one h) = h

    clean_of_run : {t n : ℕ} {X : Shape} → CleanPointee s bytes t (run X) n → CleanRun s bytes t n X
    clean_of_run (clean_run h) = h

    part_of_clean : {r : Region} {q n : ℕ} {P : Pointee} {Y : Shape} → CleanPointee s bytes r.begin r.pointee r.length → PartOfRegion s bytes r q P n → P ≡ one Y → CleanValue s bytes q Y
    part_of_clean h whole_region e = clean_of_one (rw e at h)
    part_of_clean {Y = Y} h (in_one {Y = Z} e w) f = let same : Z ≡ Y = cc in rw same at (clean_within (clean_of_one (rw e at h)) w)
    part_of_clean {Y = Y} h (in_run {Y = Z} e less w) f = let same : Z ≡ Y = cc in rw same at (clean_within (run_clean (clean_of_run (rw e at h)) less) w)
    part_of_clean h (in_string w inline) e = cc e

    reached_clean : (start : ℕ) (C : List Region) (q : ℕ) (Y : Shape) → CleanRegions s bytes start C → PartOfSome s bytes C q (one Y) 0 → CleanValue s bytes q Y
    reached_clean start C q Y clean (r, c, w) = part_of_clean (region_clean start C r c clean) w refl

    string_filled : {q : ℕ} → CleanValue s bytes q str → (IsOutOfLine bytes q → ⊥) → IsFilled bytes q
    string_filled (clean_inline o f) inline = f
    string_filled (clean_out_of_line o) inline = absurd (inline o)

    null_empty : {q : ℕ} {P : Pointee} {flavor : Flavor} → CleanValue s bytes q (weak flavor P) → i32_at bytes q ≡ pos 1 → length_at bytes q P ≡ 0
    null_empty (clean_null d h) e = h
    null_empty (clean_weak n) e = absurd (n e)

    pub regions_clean : (start : ℕ) (C : List Region) → AreSized s C → Tight start C (length bytes) → CleanRegions s bytes start C → Clean s bytes start C
    regions_clean start C sized tight clean = record {
      padding = λ i above below free. clean_regions_zero i start (length bytes) C sized tight clean above below free;
      strings = λ q i above there inline few less. (string_filled (reached_clean start C q str clean there) inline).filled i few less;
      nulls = λ q flavor P above there e. null_empty (reached_clean start C q (weak flavor P) clean there) e;
    }
