-- What lies in an accepted buffer fits it, and is read, and leads to what lies there too.
use Rattle.std.proofs.Common.{◌≡◌, ℕ, ◌+◌, ◌*◌, ◌≤◌, pos, List, [], ◌∷◌, ◌++◌, length, Contains, All, arith, refl}
use Rattle.std.proofs.Math.Nat.{mul-le-mul_right}
use Rattle.std.proofs.lemmas.List.Elements.{All-nil, All-cons, All-append, All-contains, Contains-push}
use Rattle.archive_check.specs.Shape.{Shape, Pointee, one}
use Rattle.archive_check.specs.Layout.{size_of}
use Rattle.archive_check.specs.Value.{Pointer, Value, pointers}
use Rattle.archive_check.specs.Reads.{SchemaTable, LaidOut, bytes_at}
use Rattle.archive_check.specs.Tour.{Region, region_of, root_region, pointee_size, Contents, Leads, Seen, Tour, tour_end, tour_unique, tour_new, tour_again, Accepted}
use Rattle.archive_check.specs.Leaves.{regions_of}
use Rattle.archive_check.specs.Within.{PartOfRegion, whole_region, in_one, in_run, in_string}
use Rattle.archive_check.specs.Denotes.{Meaning, Denotes}
use Rattle.archive_check.specs.Reached.{Reached}
use Rattle.archive_check.specs.Definitions.{Definitions, Knows}
use Rattle.archive_check.specs.Viewed.{Lies, Says}
use Rattle.archive_check.proofs.Meanings.ReachedParts.{part_reached, pointer_reached, pointer_leads, root_reached}
use Rattle.archive_check.proofs.Tours.ReadingUnique.{contents_one_value}
use Rattle.archive_check.proofs.Meanings.MeaningUnique.{fills_one}
use Rattle.archive_check.proofs.Tours.PartsInside.{within_inside}
use Rattle.archive_check.proofs.Tours.RegionsApart.{before_end_le, bytes_few}

module _ (s : SchemaTable) (bytes : List ℕ) where
  -- the region's pointee lies in the buffer
  abbrev Fits : Region → Type 0
  Fits r = r.begin + pointee_size s r.pointee r.length ≤ length bytes

  around : (C : List Region) (r : Region) (D : List Region) → All Fits C → Fits r → All Fits D → All Fits (C ++ r ∷ D)
  around C r D h f i = All-append Fits C (r ∷ D) h (All-cons Fits r D f i)

  tour_fits : {pending : List ℕ} {seen last : Seen} {O : List Pointer} {C : List Region} → Tour s bytes pending seen O C last → All Fits C
  tour_fits tour_end = All-nil Fits
  tour_fits (tour_unique {p = p} {t = t} {C = C} {D = D} e l i j) = around C (region_of s p t) D (tour_fits i) l.fits (tour_fits j)
  tour_fits (tour_new {p = p} {t = t} {C = C} {D = D} e none l i j) = around C (region_of s p t) D (tour_fits i) l.fits (tour_fits j)
  tour_fits (tour_again e t known free j) = tour_fits j

  accepted_fits : {root : ℕ} {X : Shape} (a : Accepted s bytes root X) → All Fits (regions_of a)
  accepted_fits {root = root} {X = X} a = around a.regions (root_region s root X) [] (tour_fits a.tour) a.flat.fits (All-nil Fits)

  same_size : {P Q : Pointee} (n : ℕ) → P ≡ Q → pointee_size s P n ≡ pointee_size s Q n
  same_size n e = rw e refl

  part_fits : LaidOut s → {r : Region} {q : ℕ} {P : Pointee} {n : ℕ} → PartOfRegion s bytes r q P n → Fits r → q + pointee_size s P n ≤ length bytes
  part_fits laid whole_region f = f
  part_fits laid {r = r} (in_one e w) f = omega (arith, within_inside s laid w, same_size r.length e, f)
  part_fits laid {r = r} (in_run {k = k} {X = X} e below w) f =
      let more : (k + 1) * size_of s.layouts X ≤ r.length * size_of s.layouts X = mul-le-mul_right (size_of s.layouts X) (omega arith) in
      omega (arith, within_inside s laid w, same_size r.length e, more, f)
  part_fits laid (in_string {q = q} i inline) f = omega (arith, part_fits laid i f, before_end_le (bytes_at bytes q 8), bytes_few bytes q 8)

  pub lies_fits : LaidOut s → {q n : ℕ} {P : Pointee} → Lies s bytes q P n → q + pointee_size s P n ≤ length bytes
  lies_fits laid l = let (r, c, i) = l.part in part_fits laid i (All-contains Fits (regions_of l.accepted) r (accepted_fits l.accepted) c)

  -- what is read there, with its value
  pub lies_reached : {q n : ℕ} {P : Pointee} (l : Lies s bytes q P n) → (w : Value) × Reached s bytes l.root l.shape q P n w
  lies_reached l = part_reached s bytes l.accepted l.part

  unfoldable pub reached_lies : {root : ℕ} {X : Shape} {q n : ℕ} {P : Pointee} {w : Value} → Reached s bytes root X q P n w → Lies s bytes q P n
  reached_lies {root = root} {X = X} r = record { root = root; shape = X; accepted = r.accepted; part = r.part }

  pub lies_reads : {q n : ℕ} {P : Pointee} → Lies s bytes q P n → (v : Value) × Contents s bytes q P n v
  lies_reads l = let r = lies_reached l in (r.1.value, r.1.reads)

  -- a pointer that is read there leads to what lies in the buffer too
  pub lies_leads : {q n : ℕ} {P : Pointee} {v : Value} → Lies s bytes q P n → Contents s bytes q P n v → (p : Pointer) → Contains (pointers v) p → (t : ℕ) × (p.target ≡ pos t) × Lies s bytes t p.pointee p.length
  lies_leads {v = v} l c p h =
      let r = (lies_reached l).1 in
      let same : v ≡ r.value = contents_one_value c r.reads in
      let (t, e, u, k) = pointer_reached s bytes r p (rw same at h) in
      (t, e, reached_lies k)

  -- and that is in its order
  pub lies_followed : {q n : ℕ} {P : Pointee} {v : Value} → Lies s bytes q P n → Contents s bytes q P n v → (p : Pointer) → Contains (pointers v) p → (t : ℕ) × (u : Value) × Leads s bytes p t u
  lies_followed {v = v} l c p h =
      let r = (lies_reached l).1 in
      let same : v ≡ r.value = contents_one_value c r.reads in pointer_leads s bytes r p (rw same at h)

  unfoldable pub root_lies : {root : ℕ} {X : Shape} → Accepted s bytes root X → Lies s bytes root (one X) 0
  root_lies {root = root} {X = X} a = record { root = root; shape = X; accepted = a; part = (root_region s root X, Contains-push a.regions (root_region s root X), whole_region) }

-- of views

-- what is said of a part is what is reached there
pub reached_says : (D : Definitions) (bytes : List ℕ) (q : ℕ) (P : Pointee) (n : ℕ) (w : Value) (s : SchemaTable) (u : Value) {root : ℕ} {X : Shape} → Says D bytes q P n w → Knows s D → Reached s bytes root X q P n u → u ≡ w
reached_says D bytes q P n w s u h k r = fills_one s bytes r.filled (h.fills s r.value k (reached_lies s bytes r) r.reads)

-- so what a whole buffer's root says is what the buffer denotes
pub root_says : (D : Definitions) (bytes : List ℕ) (root : ℕ) (X : Shape) (w : Value) (s : SchemaTable) (m : Meaning) → Says D bytes root (one X) 0 w → Knows s D → Denotes s bytes root X m → m.value ≡ w
root_says D bytes root X w s m h k d = reached_says D bytes root (one X) 0 w s m.value h k (root_reached s bytes d)
