-- What lies in a region that says the same in two buffers is read in both, and says the same.
use Rattle.std.proofs.Common.{◌≡◌, ℕ, zero, suc, ◌+◌, ◌*◌, ◌<◌, List, Some, arith, slice_index, subst}
use Rattle.archive_check.specs.Shape.{Name, Shape, parts, choice, array, named, Pointee, one, run, text, Parts, Variants, definition, variant_at}
use Rattle.archive_check.specs.Layout.{size_of}
use Rattle.archive_check.specs.Value.{Value, Values}
use Rattle.archive_check.specs.Reads.{SchemaTable, bytes_at, Reads, reads_parts, reads_choice, reads_array, reads_named, ReadsParts, reads_part, ReadsRun, reads_none, reads_element}
use Rattle.archive_check.specs.Tour.{Region, Contents, contents_one, contents_run, contents_text}
use Rattle.archive_check.specs.Within.{IsPart, first_part, later_part, Within, whole, in_parts, in_choice, in_array, in_named, PartOfRegion, whole_region, in_one, in_run, in_string}
use Rattle.archive_check.proofs.OneList.Tours.{Alike}

-- X at p is read in both buffers, and says the same
pub record ReadAlike (s : SchemaTable) (a b : List ℕ) (p : ℕ) (X : Shape) : Type 0 where
  pub value : Value
  pub other : Value
  pub left : Reads s a p X value
  pub right : Reads s b p X other
  pub same : value ≡ other

module _ (s : SchemaTable) (a b : List ℕ) where
  alike : {p : ℕ} {X : Shape} {v w : Value} → Reads s a p X v → Reads s b p X w → v ≡ w → ReadAlike s a b p X
  alike {v = v} {w = w} h k e = record { value = v; other = w; left = h; right = k; same = e }

  part_alike : {p at q : ℕ} {ps : Parts} {Y : Shape} {vs ws : Values} → IsPart s p at ps q Y → ReadsParts s a p at ps vs → ReadsParts s b p at ps ws → vs ≡ ws → ReadAlike s a b q Y
  part_alike first_part (reads_part h hs) (reads_part k ks) e = alike h k (cc)
  part_alike (later_part i) (reads_part h hs) (reads_part k ks) e = part_alike i hs ks (cc)

  run_alike : {p n : ℕ} {X : Shape} {vs ws : Values} (k q : ℕ) → q ≡ p + k * size_of s.layouts X → k < n → ReadsRun s a p n X vs → ReadsRun s b p n X ws → vs ≡ ws → ReadAlike s a b q X
  run_alike k q e below reads_none j same = absurd (omega arith)
  run_alike zero q e below (reads_element {p = p} {X = X} h hs) (reads_element i is) same = let here : p ≡ q = omega arith in subst (λ p. ReadAlike s a b p X) here (alike h i (cc))
  run_alike (suc k) q e below (reads_element h hs) (reads_element i is) same = run_alike k q (omega arith) (omega arith) hs is (cc)

  -- in the other buffer it lies there too
  abbrev Found : ℕ → Shape → ℕ → Shape → Type 0
  Found p X q Y = ReadAlike s a b q Y × Within s b p X q Y

  parts_step : {p q r : ℕ} {X Y : Shape} {ps : Parts} {v w : Value} → Reads s a q (parts ps) v → Reads s b q (parts ps) w → v ≡ w → Within s b p X q (parts ps) → IsPart s q 0 ps r Y → Found p X r Y
  parts_step (reads_parts h) (reads_parts k) e there i = (part_alike i h k (cc), in_parts there i)

  choice_step : {p q r : ℕ} {X Y : Shape} {name : Name} {variants : Variants} {ps : Parts} {v w : Value} → Reads s a q (choice name variants) v → Reads s b q (choice name variants) w → v ≡ w → Within s b p X q (choice name variants)
      → variant_at variants (slice_index a q) ≡ Some ps → IsPart s q 1 ps r Y → Found p X r Y
  choice_step {q = q} {variants = variants} {ps = ps} (reads_choice {ps = ls} d h) (reads_choice {ps = rs} f k) e there g i =
      let tag : slice_index a q ≡ slice_index b q = cc in
      let first : ls ≡ ps = cc in let second : rs ≡ ps = cc in
      (part_alike i (rw first at h) (rw second at k) (cc), in_choice there (rw second at f) i)

  array_step : {p q n k : ℕ} {X Y : Shape} {v w : Value} → Reads s a q (array n Y) v → Reads s b q (array n Y) w → v ≡ w → Within s b p X q (array n Y) → k < n → Found p X (q + k * size_of s.layouts Y) Y
  array_step {q = q} {k = k} {Y = Y} (reads_array h) (reads_array i) e there below = (run_alike k (q + k * size_of s.layouts Y) (omega arith) below h i (cc), in_array there below)

  named_step : {p q : ℕ} {X Y : Shape} {name : Name} {v w : Value} → Reads s a q (named name) v → Reads s b q (named name) w → v ≡ w → Within s b p X q (named name) → definition s.table name ≡ Some Y → Found p X q Y
  named_step {Y = Y} (reads_named {X = L} d h) (reads_named {X = R} f k) e there g =
      let first : L ≡ Y = cc in let second : R ≡ Y = cc in (alike (rw first at h) (rw second at k) e, in_named there g)

  within_alike : {p : ℕ} {X : Shape} {q : ℕ} {Y : Shape} → Within s a p X q Y → ReadAlike s a b p X → Found p X q Y
  within_alike whole h = (h, whole)
  within_alike (in_parts w i) h = let (k, there) = within_alike w h in parts_step k.left k.right k.same there i
  within_alike (in_choice w e i) h = let (k, there) = within_alike w h in choice_step k.left k.right k.same there e i
  within_alike (in_array w below) h = let (k, there) = within_alike w h in array_step k.left k.right k.same there below
  within_alike (in_named w d) h = let (k, there) = within_alike w h in named_step k.left k.right k.same there d

  one_alike : {t n : ℕ} {X : Shape} {v w : Value} → Contents s a t (one X) n v → Contents s b t (one X) n w → v ≡ w → ReadAlike s a b t X
  one_alike (contents_one h) (contents_one k) e = alike h k e

  element_alike : {t n k : ℕ} {X : Shape} {v w : Value} → Contents s a t (run X) n v → Contents s b t (run X) n w → v ≡ w → k < n → ReadAlike s a b (t + k * size_of s.layouts X) X
  element_alike {t = t} {k = k} {X = X} (contents_run h) (contents_run i) e below = run_alike k (t + k * size_of s.layouts X) (omega arith) below h i (cc)

  text_alike : {t n : ℕ} {v w : Value} → Contents s a t text n v → Contents s b t text n w → v ≡ w → bytes_at a t n ≡ bytes_at b t n
  text_alike (contents_text u) (contents_text r) e = cc

  same_shape : {X Y : Shape} → one X ≡ one Y → X ≡ Y
  same_shape e = cc

  -- a part of a region is read in both, and lies there in both
  pub part_of_alike : {r : Region} {q n : ℕ} {P : Pointee} {Y : Shape} → PartOfRegion s a r q P n → P ≡ one Y → Alike s a b r → ReadAlike s a b q Y × PartOfRegion s b r q P n
  part_of_alike whole_region e h = (one_alike (rw e at h.left) (rw e at h.right) h.same, whole_region)
  part_of_alike {q = q} (in_one f w) e h =
      let (k, there) = within_alike w (one_alike (rw f at h.left) (rw f at h.right) h.same) in (subst (ReadAlike s a b q) (same_shape e) k, in_one f there)
  part_of_alike {q = q} (in_run f below w) e h =
      let (k, there) = within_alike w (element_alike (rw f at h.left) (rw f at h.right) h.same below) in (subst (ReadAlike s a b q) (same_shape e) k, in_run f below there)
  part_of_alike (in_string i inline) e h = cc

  -- and so are the bytes of a text
  pub text_of_alike : (r : Region) → r.pointee ≡ text → Alike s a b r → bytes_at a r.begin r.length ≡ bytes_at b r.begin r.length
  text_of_alike r e h = text_alike (rw e at h.left) (rw e at h.right) h.same
