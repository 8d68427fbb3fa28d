-- Runs that a check passes in one step.
use Rattle.std.proofs.Common.{◌≡◌, ℕ, zero, suc, ◌+◌, ◌*◌, ◌≤◌, List, length, Option, IsTrue, Bool, true, false, ◌&&◌, arith, refl, ap}
use Rattle.archive_check.specs.Shape.{Kind, unit, bool, char, number, non_zero, raw_rel, Shape, leaf, parts, choice, array, boxed, vec, sorted_map, str, shared, weak, named, Parts, no_part, part}
use Rattle.archive_check.specs.Layout.{up, kind_size, align_of, size_of, parts_align, parts_end, variants_align, variants_end}
use Rattle.archive_check.specs.Reads.{SchemaTable, LaidOut, bytes_at, IsLegalNumber, kind_number}
use Rattle.archive_check.specs.Tour.{Seen}
use Rattle.archive_check.specs.Walk.{Walk, walk_leaf, walk_parts, walk_choice, walk_array, walk_boxed, walk_vec, walk_map, walk_inline, walk_out_of_line, walk_shared, walk_null, walk_weak, walk_named, WalkParts, walk_no_part, walk_part, WalkRun, walk_none, walk_element}
use Rattle.archive_check.specs.Words.PlainData.{is_plain_kind}
use Rattle.archive_check.proofs.Tours.PartsInside.{up_le, pointer_few, positive, parts_end_le, variant_end_le}
use Rattle.archive_check.proofs.Editing.EditedBytes.{bytes_long}
use Rattle.archive_check.proofs.Names.PositiveAlignments.{parts_align_pos, variants_align_pos}
use Rattle.std.proofs.lemmas.Bool.{and_parts}

-- Plain data: shapes that any bytes are legal for, and that lead nowhere. A name is not looked up, so what has one is not plain.
abbrev mutual
  pub is_plain : Shape → Bool
  is_plain (leaf kind) = is_plain_kind kind
  is_plain (parts ps) = are_plain ps
  is_plain (array n X) = is_plain X
  is_plain _ = false

  pub are_plain : Parts → Bool
  are_plain no_part = true
  are_plain (part X ps) = is_plain X && are_plain ps

any_number : (kind : Kind) (n : ℕ) → IsTrue (is_plain_kind kind) → IsLegalNumber kind n
any_number unit n h = tt
any_number bool n h = cc
any_number char n h = cc
any_number (number sign width) n h = tt
any_number (non_zero sign width) n h = cc
any_number (raw_rel sign width) n h = tt

module _ (s : SchemaTable) (laid : LaidOut s) (bytes : List ℕ) {pending : List ℕ} {depth : Option ℕ} {stop start : ℕ} {seen : Seen} where
  -- elements that are walked wherever they lie in the buffer
  run_of : (n : ℕ) {X : Shape} (p : ℕ) → ((q : ℕ) → q + size_of s.layouts X ≤ length bytes → Walk s bytes pending depth stop q X start seen start seen) → p + n * size_of s.layouts X ≤ length bytes → WalkRun s bytes pending depth stop p n X start seen start seen
  run_of zero p walk fits = walk_none
  run_of (suc n) {X} p walk fits = walk_element (walk p (omega arith)) (run_of n (p + size_of s.layouts X) walk (omega arith))

  mutual
    pub plain_walk : (X : Shape) (p : ℕ) → IsTrue (is_plain X) → p + size_of s.layouts X ≤ length bytes → Walk s bytes pending depth stop p X start seen start seen
    plain_walk (leaf kind) p h fits = walk_leaf (record { size = bytes_long bytes p (kind_size kind) fits; number = any_number kind (kind_number kind (bytes_at bytes p (kind_size kind))) h })
    plain_walk (parts ps) p h fits = walk_parts (plain_parts ps p 0 h (omega (arith, up_le (parts_end s.layouts 0 ps) (parts_align s.layouts ps) (parts_align_pos s.layouts ps))))
    plain_walk (array n X) p h fits = walk_array (run_of n p (λ q below. plain_walk X q h below) fits)
    plain_walk (choice name vs) p h fits = cc
    plain_walk (boxed P) p h fits = cc
    plain_walk (vec X) p h fits = cc
    plain_walk (sorted_map K X) p h fits = cc
    plain_walk str p h fits = cc
    plain_walk (shared flavor P) p h fits = cc
    plain_walk (weak flavor P) p h fits = cc
    plain_walk (named name) p h fits = cc

    plain_parts : (ps : Parts) (p at : ℕ) → IsTrue (are_plain ps) → p + parts_end s.layouts at ps ≤ length bytes → WalkParts s bytes pending depth stop p at ps start seen start seen
    plain_parts no_part p at h fits = walk_no_part
    plain_parts (part X ps) p at h fits =
        let rest = parts_end_le s laid ps (up at (align_of s.layouts X) + size_of s.layouts X) in
        walk_part (plain_walk X (p + up at (align_of s.layouts X)) (and_parts (is_plain X) (are_plain ps) h).0 (omega arith))
        (plain_parts ps p (up at (align_of s.layouts X) + size_of s.layouts X) (and_parts (is_plain X) (are_plain ps) h).1 fits)

  pub plain_run : (n : ℕ) (X : Shape) (p : ℕ) → IsTrue (is_plain X) → p + n * size_of s.layouts X ≤ length bytes → WalkRun s bytes pending depth stop p n X start seen start seen
  plain_run n X p h fits = run_of n p (λ q below. plain_walk X q h below) fits

-- where a walk comes to that enters nothing
abbrev IsLegalHere : ℕ → Seen → ℕ → Seen → Type 0
IsLegalHere a l b m = (b ≡ a) × (m ≡ l)

module _ (s : SchemaTable) (laid : LaidOut s) (bytes : List ℕ) where
  mutual
    pub empty_stays : {pending : List ℕ} {depth : Option ℕ} {stop p : ℕ} {X : Shape} {a : ℕ} {l : Seen} {b : ℕ} {m : Seen} → Walk s bytes pending depth stop p X a l b m → size_of s.layouts X ≡ 0 → IsLegalHere a l b m
    empty_stays (walk_leaf h) e = (refl, refl)
    empty_stays (walk_parts {ps = ps} w) e = parts_stay w (omega (arith, up_le (parts_end s.layouts 0 ps) (parts_align s.layouts ps) (parts_align_pos s.layouts ps)))
    empty_stays (walk_choice {variants = vs} {ps = ps} d w) e = absurd (omega (arith, parts_end_le s laid ps 1, variant_end_le s laid vs _ ps d, up_le (variants_end s.layouts vs) (variants_align s.layouts vs) (variants_align_pos s.layouts vs)))
    empty_stays (walk_array w) e = run_stays w e
    empty_stays (walk_boxed {P = P} w) e = absurd (omega (arith, pointer_few P))
    empty_stays (walk_vec w) e = absurd (omega arith)
    empty_stays (walk_map w) e = absurd (omega arith)
    empty_stays (walk_inline o h) e = absurd (omega arith)
    empty_stays (walk_out_of_line o h w) e = absurd (omega arith)
    empty_stays (walk_shared {P = P} w) e = absurd (omega (arith, pointer_few P))
    empty_stays (walk_null h) e = (refl, refl)
    empty_stays (walk_weak {P = P} h w) e = absurd (omega (arith, pointer_few P))
    empty_stays (walk_named {name = name} {X = X} d w) e = let same = ap (λ l. l.size) (laid.solves name X d) in empty_stays w (omega (arith, same))

    parts_stay : {pending : List ℕ} {depth : Option ℕ} {stop p at : ℕ} {ps : Parts} {a : ℕ} {l : Seen} {b : ℕ} {m : Seen} → WalkParts s bytes pending depth stop p at ps a l b m → parts_end s.layouts at ps ≤ at → IsLegalHere a l b m
    parts_stay walk_no_part e = (refl, refl)
    parts_stay (walk_part {at = at} {X = X} {ps = ps} w ws) e =
        let more = up_le at (align_of s.layouts X) (positive s laid X) in
        let rest = parts_end_le s laid ps (up at (align_of s.layouts X) + size_of s.layouts X) in
        let h = empty_stays w (omega arith) in let k = parts_stay ws (omega arith) in (cc (h.0, k.0), cc (h.1, k.1))

    run_stays : {pending : List ℕ} {depth : Option ℕ} {stop p n : ℕ} {X : Shape} {a : ℕ} {l : Seen} {b : ℕ} {m : Seen} → WalkRun s bytes pending depth stop p n X a l b m → n * size_of s.layouts X ≡ 0 → IsLegalHere a l b m
    run_stays walk_none e = (refl, refl)
    run_stays (walk_element w ws) e = let h = empty_stays w (omega arith) in let k = run_stays ws (omega arith) in (cc (h.0, k.0), cc (h.1, k.1))

  run_again : {pending : List ℕ} {depth : Option ℕ} {stop p : ℕ} {X : Shape} {a : ℕ} {l : Seen} → size_of s.layouts X ≡ 0 → Walk s bytes pending depth stop p X a l a l → (n q : ℕ) → q ≡ p → WalkRun s bytes pending depth stop q n X a l a l
  run_again e w zero q same = walk_none
  run_again {X = X} e w (suc n) q same = walk_element (rw same w) (run_again e w n (q + size_of s.layouts X) (omega arith))

  -- where one element of size zero is walked, so is a run of them
  pub empty_run : {pending : List ℕ} {depth : Option ℕ} {stop p : ℕ} {X : Shape} {a : ℕ} {l : Seen} {b : ℕ} {m : Seen} (n : ℕ) → size_of s.layouts X ≡ 0 → Walk s bytes pending depth stop p X a l b m → WalkRun s bytes pending depth stop p n X a l a l
  empty_run {p = p} n e w = let h = empty_stays w e in run_again e (rw (h.0, h.1) at w) n p refl
