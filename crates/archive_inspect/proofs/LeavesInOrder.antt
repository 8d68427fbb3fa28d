-- The leaves of an archive lie one behind another, in the order of its tour.
use Rattle.std.proofs.Common.{ℕ, suc, ◌+◌, ◌*◌, ◌≤◌, List, [], ◌∷◌, ◌++◌, length, ap, arith}
use Rattle.archive_check.specs.Shape.{Shape, Pointee, Parts, part}
use Rattle.archive_check.specs.Layout.{up, align_of, size_of, parts_align, parts_end, variants_align, variants_end}
use Rattle.archive_check.specs.Value.{Pointer, Value, Values}
use Rattle.archive_check.specs.Reads.{SchemaTable, LaidOut, bytes_at, Reads, reads_leaf, reads_parts, reads_choice, reads_array, reads_boxed, reads_vec, reads_map, reads_inline, reads_out_of_line, reads_shared, reads_null, reads_weak, reads_named, ReadsParts, reads_no_part, reads_part, ReadsRun, reads_none, reads_element}
use Rattle.archive_check.specs.Tour.{Region, region_of, root_region, pointee_size, Rising, Contents, contents_one, contents_run, contents_text, Seen, Tour, tour_end, tour_unique, tour_new, tour_again, Accepted}
use Rattle.archive_check.specs.Leaves.{PlacedLeaf, leaf_begin, leaf_size, leaves, leaves_of_parts, leaves_of_run, leaves_of_contents, leaves_of_tour, leaves_of}
use Rattle.archive_check.proofs.Names.PositiveAlignments.{parts_align_pos, variants_align_pos}
use Rattle.archive_check.proofs.Tours.JoinedTours.{rising_front, rising_back}
use Rattle.archive_check.proofs.Tours.PartsInside.{up_le, positive, variant_end_le}
use Rattle.archive_check.proofs.Tours.RegionsApart.{before_end_le, bytes_few}

-- from a position on the leaves lie one behind another, and end by another one
abbrev pub Ascend : ℕ → List PlacedLeaf → ℕ → Type 0
Ascend start [] stop = start ≤ stop
Ascend start (x ∷ xs) stop = (start ≤ leaf_begin x) × Ascend (leaf_begin x + leaf_size x) xs stop

-- so they do between positions that are further apart
wider : (a b c d : ℕ) (xs : List PlacedLeaf) → a ≤ b → c ≤ d → Ascend b xs c → Ascend a xs d
wider a b c d [] low high h = omega arith
wider a b c d (x ∷ xs) low high h = (omega arith, wider (leaf_begin x + leaf_size x) (leaf_begin x + leaf_size x) c d xs (omega arith) high (h.1))

-- and with others behind them
joined : (a b c : ℕ) (xs ys : List PlacedLeaf) → Ascend a xs b → Ascend b ys c → Ascend a (xs ++ ys) c
joined a b c [] ys h i = wider a b c c ys h (omega arith) i
joined a b c (x ∷ xs) ys h i = (h.0, joined (leaf_begin x + leaf_size x) b c xs ys (h.1) i)

module _ (s : SchemaTable) (laid : LaidOut s) (bytes : List ℕ) where
  mutual
    reads_ascend : {p : ℕ} {X : Shape} {v : Value} (r : Reads s bytes p X v) → Ascend p (leaves r) (p + size_of s.layouts X)
    reads_ascend (reads_leaf h) = (omega arith, omega arith)
    reads_ascend (reads_parts {p = p} {ps = ps} r) =
        wider p (p + 0) (p + parts_end s.layouts 0 ps) _ _ (omega arith) (omega (arith, up_le (parts_end s.layouts 0 ps) (parts_align s.layouts ps) (parts_align_pos s.layouts ps))) (parts_ascend r)
    reads_ascend (reads_choice {p = p} {variants = vs} {ps = ps} e r) =
        wider p (p + 1) (p + parts_end s.layouts 1 ps) _ _ (omega arith) (omega (arith, variant_end_le s laid vs _ ps e, up_le (variants_end s.layouts vs) (variants_align s.layouts vs) (variants_align_pos s.layouts vs))) (parts_ascend r)
    reads_ascend (reads_array r) = run_ascend r
    reads_ascend reads_boxed = omega arith
    reads_ascend reads_vec = omega arith
    reads_ascend reads_map = omega arith
    reads_ascend (reads_inline {p = p} o h) = (omega arith, omega (arith, before_end_le (bytes_at bytes p 8), bytes_few bytes p 8))
    reads_ascend (reads_out_of_line o h) = omega arith
    reads_ascend reads_shared = omega arith
    reads_ascend (reads_null e) = omega arith
    reads_ascend (reads_weak e) = omega arith
    reads_ascend (reads_named {p = p} {name = name} {X = X} d r) =
        let same = ap (λ l. l.size) (laid.solves name X d) in wider p p (p + size_of s.layouts X) _ _ (omega arith) (omega (arith, same)) (reads_ascend r)

    parts_ascend : {p at : ℕ} {ps : Parts} {vs : Values} (r : ReadsParts s bytes p at ps vs) → Ascend (p + at) (leaves_of_parts r) (p + parts_end s.layouts at ps)
    parts_ascend reads_no_part = omega arith
    parts_ascend (reads_part {p = p} {at = at} {X = X} {ps = ps} r rs) =
        let start : ℕ = up at (align_of s.layouts X) in
        let more = up_le at (align_of s.layouts X) (positive s laid X) in
        joined (p + at) (p + start + size_of s.layouts X) (p + parts_end s.layouts at (part X ps)) (leaves r) (leaves_of_parts rs)
        (wider (p + at) (p + start) _ _ _ (omega (arith, more)) (omega arith) (reads_ascend r))
        (wider (p + start + size_of s.layouts X) (p + (start + size_of s.layouts X)) _ _ _ (omega arith) (omega arith) (parts_ascend rs))

    run_ascend : {p n : ℕ} {X : Shape} {vs : Values} (r : ReadsRun s bytes p n X vs) → Ascend p (leaves_of_run r) (p + n * size_of s.layouts X)
    run_ascend reads_none = omega arith
    run_ascend (reads_element {p = p} {n = n} {X = X} r rs) =
        joined p (p + size_of s.layouts X) (p + suc n * size_of s.layouts X) (leaves r) (leaves_of_run rs) (reads_ascend r)
        (wider (p + size_of s.layouts X) (p + size_of s.layouts X) (p + size_of s.layouts X + n * size_of s.layouts X) _ _ (omega arith) (omega arith) (run_ascend rs))

  contents_ascend : {t n : ℕ} {P : Pointee} {v : Value} (h : Contents s bytes t P n v) → Ascend t (leaves_of_contents h) (t + pointee_size s P n)
  contents_ascend (contents_one r) = reads_ascend r
  contents_ascend (contents_run r) = run_ascend r
  contents_ascend {t = t} (contents_text {n = n} u) = (omega arith, omega (arith, bytes_few bytes t n))

  -- the leaves of what a region leads to, its own, and those of the regions behind it
  around : (a t e c : ℕ) (xs ys zs : List PlacedLeaf) → Ascend a xs t → Ascend t ys e → Ascend e zs c → Ascend a (xs ++ (ys ++ zs)) c
  around a t e c xs ys zs h i j = joined a t c xs (ys ++ zs) h (joined t e c ys zs i j)

  tour_ascend : {pending : List ℕ} {seen last : Seen} {O : List Pointer} {C : List Region} (i : Tour s bytes pending seen O C last) (a c : ℕ) → Rising a C c → Ascend a (leaves_of_tour i) c
  tour_ascend tour_end a c h = h
  tour_ascend (tour_unique {p = p} {t = t} {C = C} {D = D} e l i j) a c h =
      around a t (t + pointee_size s p.pointee p.length) c _ _ _ (tour_ascend i a t (rising_front a C (region_of s p t) D c h)) (contents_ascend l.contents) (tour_ascend j _ c (rising_back a C (region_of s p t) D c h))
  tour_ascend (tour_new {p = p} {t = t} {C = C} {D = D} e none l i j) a c h =
      around a t (t + pointee_size s p.pointee p.length) c _ _ _ (tour_ascend i a t (rising_front a C (region_of s p t) D c h)) (contents_ascend l.contents) (tour_ascend j _ c (rising_back a C (region_of s p t) D c h))
  tour_ascend (tour_again e t known free j) a c h = tour_ascend j a c h

  pub leaves_ascend : {root : ℕ} {X : Shape} (a : Accepted s bytes root X) → Ascend 0 (leaves_of a) (length bytes)
  leaves_ascend {root = root} {X = X} a =
      let rest : root + size_of s.layouts X ≤ length bytes = rising_back 0 a.regions (root_region s root X) [] (length bytes) a.rising in
      joined 0 root (length bytes) (leaves_of_tour a.tour) (leaves a.flat.reads) (tour_ascend a.tour 0 root (rising_front 0 a.regions (root_region s root X) [] (length bytes) a.rising))
      (wider root root (root + size_of s.layouts X) (length bytes) _ (omega arith) rest (reads_ascend a.flat.reads))
