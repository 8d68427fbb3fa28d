-- The regions of an accepted buffer lie apart, and each leaf in one of them.
use Rattle.std.proofs.Common.{◌≡◌, ◌⊎◌, inl, inr, ℕ, ◌+◌, ◌*◌, ◌<◌, ◌≤◌, List, [], ◌∷◌, ◌++◌, length, drop, cond, Bool, true, false, nat_eq, Contains, All, slice_index_or, suc, arith, ap}
use Rattle.std.proofs.lemmas.List.{length-take}
use Rattle.std.proofs.lemmas.List.Elements.{All-nil, All-cons, All-append, All-contains, Contains-append_left, Contains-append_right, Contains-push}
use Rattle.archive_check.specs.Shape.{Shape, Parts, part, Pointee}
use Rattle.archive_check.specs.Layout.{up, kind_size, align_of, size_of, parts_align, parts_end, variants_align, variants_end}
use Rattle.archive_check.specs.Value.{Pointer, Value, Values}
use Rattle.archive_check.specs.Reads.{SchemaTable, LaidOut, bytes_at, before_end, Reads, reads_leaf, reads_parts, reads_choice, reads_array, reads_boxed, reads_vec, reads_map, reads_inline, reads_out_of_line, reads_shared, reads_null, reads_weak, reads_named, ReadsParts, reads_no_part, reads_part, ReadsRun, reads_none, reads_element}
use Rattle.archive_check.specs.Tour.{Region, region_of, root_region, pointee_size, Rising, Contents, contents_one, contents_run, contents_text, Seen, Tour, tour_end, tour_unique, tour_new, tour_again, Accepted}
use Rattle.archive_check.specs.Leaves.{PlacedLeaf, text_leaf, leaf_begin, leaf_size, leaves, leaves_of_parts, leaves_of_run, leaves_of_contents, leaves_of_tour, leaves_of, regions_of, Disjoint, PairwiseDisjoint, LiesIn, LiesInOne}
use Rattle.archive_check.proofs.Tours.PartsInside.{up_le, positive, parts_end_le, variant_end_le}
use Rattle.archive_check.proofs.Elements.{contains_cases}
use Rattle.archive_check.proofs.Names.PositiveAlignments.{parts_align_pos, variants_align_pos}

-- the leaf lies between two positions
abbrev pub Between : ℕ → ℕ → PlacedLeaf → Type 0
Between a b x = (a ≤ leaf_begin x) × (leaf_begin x + leaf_size x ≤ b)

pub between_more : (a b c d : ℕ) → c ≤ a → b ≤ d → (xs : List PlacedLeaf) → All (Between a b) xs → All (Between c d) xs
between_more a b c d low high xs h = λ k x l. let here : Between a b (slice_index_or xs k x) = h k x l in omega arith

between_one : (a b : ℕ) (x : PlacedLeaf) → Between a b x → All (Between a b) (x ∷ [])
between_one a b x h = All-cons (Between a b) x [] h (All-nil (Between a b))

pub before_end_le : (b : List ℕ) → length (before_end b) ≤ length b
before_end_le [] = omega arith
before_end_le (x ∷ b) = by_test (nat_eq x 0xff) (before_end_le b)
  where
    by_test : (t : Bool) → length (before_end b) ≤ length b → length (cond t [] (x ∷ before_end b)) ≤ length (x ∷ b)
    by_test true h = omega arith
    by_test false h = omega arith

pub bytes_few : (bytes : List ℕ) (p n : ℕ) → length (bytes_at bytes p n) ≤ n
unfolding bytes_at
bytes_few bytes p n = omega (arith, length-take n (drop p bytes))

module _ (s : SchemaTable) (laid : LaidOut s) (bytes : List ℕ) where
  mutual
    pub leaves_between : {p : ℕ} {X : Shape} {v : Value} (r : Reads s bytes p X v) → All (Between p (p + size_of s.layouts X)) (leaves r)
    leaves_between (reads_leaf {p = p} {kind = kind} h) = between_one p (p + kind_size kind) _ (omega arith)
    leaves_between (reads_parts {p = p} {ps = ps} r) = between_more p (p + parts_end s.layouts 0 ps) p _ (omega arith) (omega (arith, up_le (parts_end s.layouts 0 ps) (parts_align s.layouts ps) (parts_align_pos s.layouts ps))) _ (between_more (p + 0) _ p _ (omega arith) (omega arith) _ (parts_between r))
    leaves_between (reads_choice {p = p} {variants = vs} {ps = ps} e r) = between_more (p + 1) (p + parts_end s.layouts 1 ps) p _ (omega arith) (omega (arith, variant_end_le s laid vs _ ps e, up_le (variants_end s.layouts vs) (variants_align s.layouts vs) (variants_align_pos s.layouts vs))) _ (parts_between r)
    leaves_between (reads_array r) = run_between r
    leaves_between reads_boxed = All-nil _
    leaves_between reads_vec = All-nil _
    leaves_between reads_map = All-nil _
    leaves_between (reads_inline {p = p} o h) = between_one p (p + 8) (text_leaf p (before_end (bytes_at bytes p 8))) (omega (arith, before_end_le (bytes_at bytes p 8), bytes_few bytes p 8))
    leaves_between (reads_out_of_line o h) = All-nil _
    leaves_between reads_shared = All-nil _
    leaves_between (reads_null e) = All-nil _
    leaves_between (reads_weak e) = All-nil _
    leaves_between (reads_named {p = p} {name = name} {X = X} d r) =
        let same = ap (λ l. l.size) (laid.solves name X d) in between_more p (p + size_of s.layouts X) p _ (omega arith) (omega (arith, same)) _ (leaves_between r)

    pub parts_between : {p at : ℕ} {ps : Parts} {vs : Values} (r : ReadsParts s bytes p at ps vs) → All (Between (p + at) (p + parts_end s.layouts at ps)) (leaves_of_parts r)
    parts_between reads_no_part = All-nil _
    parts_between (reads_part {p = p} {at = at} {X = X} {ps = ps} r rs) =
        let more = up_le at (align_of s.layouts X) (positive s laid X) in
        let rest = parts_end_le s laid ps (up at (align_of s.layouts X) + size_of s.layouts X) in
        All-append (Between (p + at) (p + parts_end s.layouts at (part X ps))) (leaves r) (leaves_of_parts rs)
        (between_more (p + up at (align_of s.layouts X)) (p + up at (align_of s.layouts X) + size_of s.layouts X) _ _ (omega arith) (omega arith) _ (leaves_between r))
        (between_more (p + (up at (align_of s.layouts X) + size_of s.layouts X)) _ _ _ (omega arith) (omega arith) _ (parts_between rs))

    pub run_between : {p n : ℕ} {X : Shape} {vs : Values} (r : ReadsRun s bytes p n X vs) → All (Between p (p + n * size_of s.layouts X)) (leaves_of_run r)
    run_between reads_none = All-nil _
    run_between (reads_element {p = p} {n = n} {X = X} r rs) =
        All-append (Between p (p + suc n * size_of s.layouts X)) (leaves r) (leaves_of_run rs)
        (between_more p (p + size_of s.layouts X) _ _ (omega arith) (omega arith) _ (leaves_between r))
        (between_more (p + size_of s.layouts X) (p + size_of s.layouts X + n * size_of s.layouts X) _ _ (omega arith) (omega arith) _ (run_between rs))

  pub contents_between : {t n : ℕ} {P : Pointee} {v : Value} (h : Contents s bytes t P n v) → All (Between t (t + pointee_size s P n)) (leaves_of_contents h)
  contents_between (contents_one r) = leaves_between r
  contents_between (contents_run r) = run_between r
  contents_between {t = t} (contents_text {n = n} u) = between_one t (t + n) (text_leaf t (bytes_at bytes t n)) (omega (arith, bytes_few bytes t n))

  -- a leaf lies in one of the regions
  abbrev pub InSome : List Region → PlacedLeaf → Type 0
  InSome C x = (r : Region) × Contains C r × LiesIn x r

  in_left : (C D : List Region) (xs : List PlacedLeaf) → All (InSome C) xs → All (InSome (C ++ D)) xs
  in_left C D xs h = λ k x l. let (r, c, i) = h k x l in (r, Contains-append_left C D r c, i)

  in_right : (C D : List Region) (xs : List PlacedLeaf) → All (InSome D) xs → All (InSome (C ++ D)) xs
  in_right C D xs h = λ k x l. let (r, c, i) = h k x l in (r, Contains-append_right C D r c, i)

  in_this : (r : Region) (xs : List PlacedLeaf) → All (Between r.begin (r.begin + r.size)) xs → All (InSome (r ∷ [])) xs
  in_this r xs h = λ k x l. (r, Contains-push [] r, h k x l)

  in_region : (C : List Region) (r : Region) (D : List Region) (xs ys zs : List PlacedLeaf) → All (InSome C) xs → All (Between r.begin (r.begin + r.size)) ys → All (InSome D) zs → All (InSome (C ++ r ∷ D)) (xs ++ (ys ++ zs))
  in_region C r D xs ys zs h i j =
      All-append (InSome (C ++ r ∷ D)) xs (ys ++ zs) (in_left C (r ∷ D) xs h)
      (in_right C (r ∷ D) (ys ++ zs) (All-append (InSome (r ∷ D)) ys zs (in_left (r ∷ []) D ys (in_this r ys i)) (in_right (r ∷ []) D zs j)))

  tour_in : {pending : List ℕ} {seen last : Seen} {O : List Pointer} {C : List Region} (i : Tour s bytes pending seen O C last) → All (InSome C) (leaves_of_tour i)
  tour_in tour_end = All-nil _
  tour_in (tour_unique {p = p} {t = t} {C = C} {D = D} e h i j) = in_region C (region_of s p t) D _ _ _ (tour_in i) (contents_between h.contents) (tour_in j)
  tour_in (tour_new {p = p} {t = t} {C = C} {D = D} e none h i j) = in_region C (region_of s p t) D _ _ _ (tour_in i) (contents_between h.contents) (tour_in j)
  tour_in (tour_again e t known free j) = tour_in j

  accepted_in : {root : ℕ} {X : Shape} (a : Accepted s bytes root X) → All (InSome (regions_of a)) (leaves_of a)
  accepted_in {root = root} {X = X} a =
      All-append (InSome (regions_of a)) (leaves_of_tour a.tour) (leaves a.flat.reads) (in_left a.regions (root_region s root X ∷ []) _ (tour_in a.tour))
      (in_right a.regions (root_region s root X ∷ []) _ (in_this (root_region s root X) _ (leaves_between a.flat.reads)))

-- a region lies between two positions
abbrev Lies : ℕ → ℕ → Region → Type 0
Lies a b r = (a ≤ r.begin) × (r.begin + r.size ≤ b)

rising_lies : (a : ℕ) (C : List Region) (b : ℕ) → Rising a C b → All (Lies a b) C
rising_lies a [] b h = All-nil _
rising_lies a (r ∷ C) b h =
    let rest = rising_lies (r.begin + r.size) C b (h.2) in
    All-cons (Lies a b) r C (omega (arith, rising_end_le (r.begin + r.size) C b (h.2))) (λ k q l. let here : Lies (r.begin + r.size) b (slice_index_or C k q) = rest k q l in omega arith)
  where
    rising_end_le : (a : ℕ) (C : List Region) (b : ℕ) → Rising a C b → a ≤ b
    rising_end_le a [] b h = h
    rising_end_le a (r ∷ C) b h = omega (arith, rising_end_le (r.begin + r.size) C b (h.2))

pub rising_disjoint : (a : ℕ) (C : List Region) (b : ℕ) → Rising a C b → PairwiseDisjoint C
rising_disjoint a [] b h = tt
rising_disjoint a (r ∷ C) b h =
    let rest = rising_lies (r.begin + r.size) C b (h.2) in
    (λ k q l i above below over under. let here : Lies (r.begin + r.size) b (slice_index_or C k q) = rest k q l in omega arith, rising_disjoint (r.begin + r.size) C b (h.2))

-- the byte at i lies in the region
abbrev Has : ℕ → Region → Type 0
Has i r = (r.begin ≤ i) × (i < r.begin + r.size)

one_has : (C : List Region) → PairwiseDisjoint C → (i : ℕ) (r q : Region) → Contains C r → Contains C q → Has i r → Has i q → q ≡ r
one_has [] apart i r q (k, below, e) d h j = absurd (omega arith)
one_has (x ∷ C) apart i r q c d h j = go (contains_cases x C r c) (contains_cases x C q d) (λ c d. one_has C (apart.1) i r q c d h j)
  where
    other : (y : Region) → Contains C y → Has i x → Has i y → ⊥
    other y c h j = All-contains (Disjoint x) C y (apart.0) c i (h.0) (h.1) (j.0) (j.1)

    go : (x ≡ r) ⊎ Contains C r → (x ≡ q) ⊎ Contains C q → (Contains C r → Contains C q → q ≡ r) → q ≡ r
    go (inl e) (inl f) rest = cc
    go (inl e) (inr d) rest = absurd (other q d (rw (← e) at h) j)
    go (inr c) (inl f) rest = absurd (other r c (rw (← f) at j) h)
    go (inr c) (inr d) rest = rest c d

-- the leaves of a tour lie where its regions do
pub tour_between : (s : SchemaTable) (laid : LaidOut s) (bytes : List ℕ) {pending : List ℕ} {seen last : Seen} {O : List Pointer} {C : List Region} (i : Tour s bytes pending seen O C last) (a b : ℕ) → Rising a C b → All (Between a b) (leaves_of_tour i)
tour_between s laid bytes {C = C} i a b h = λ k x l.
    let (r, c, j) = tour_in s laid bytes i k x l in
    let here : Lies a b r = All-contains (Lies a b) C r (rising_lies a C b h) c in omega arith

module _ (s : SchemaTable) (laid : LaidOut s) (bytes : List ℕ) (root : ℕ) (X : Shape) (a : Accepted s bytes root X) where
  pub regions_apart : PairwiseDisjoint (regions_of a)
  regions_apart = rising_disjoint 0 (regions_of a) (length bytes) a.rising

  pub leaf_in_one : (x : PlacedLeaf) → Contains (leaves_of a) x → 1 ≤ leaf_size x → LiesInOne (regions_of a) x
  leaf_in_one x c some =
      let (r, d, i) = All-contains (InSome s laid bytes (regions_of a)) (leaves_of a) x (accepted_in s laid bytes a) c in
      (r, d, i, λ q e j. one_has (regions_of a) regions_apart (leaf_begin x) r q d e (omega arith) (omega arith))
