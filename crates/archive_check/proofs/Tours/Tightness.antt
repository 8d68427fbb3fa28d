-- Tight lists of clean regions.
use Rattle.std.proofs.Common.{ℕ, ◌+◌, ◌-◌, ◌/◌, ◌≤◌, List, [], ◌∷◌, ◌++◌, refl, arith}
use Rattle.std.proofs.Math.Nat.{mul-mod_left}
use Rattle.archive_check.specs.Shape.{Pointee, one, run, text}
use Rattle.archive_check.specs.Value.{Pointer}
use Rattle.archive_check.specs.Reads.{SchemaTable, LaidOut}
use Rattle.archive_check.specs.Tour.{Region, Seen, Tour, tour_end, tour_unique, tour_new, tour_again, Rising, region_of, pointee_align}
use Rattle.archive_check.specs.Tightness.{after, Tight}
use Rattle.archive_check.specs.CleanRegions.{CleanRegions}
use Rattle.archive_check.proofs.Names.PositiveAlignments.{align_pos}
use Rattle.archive_check.proofs.Tours.PartsInside.{up_le}
use Rattle.archive_check.proofs.Tours.CleanRegions.{AreSized}

pub tight_append : (a : ℕ) (C : List Region) (b : ℕ) (D : List Region) (c : ℕ) → Tight a C b → Tight b D c → Tight a (C ++ D) c
tight_append a [] b D c h k = rw h at k
tight_append a (r ∷ C) b D c h k = (h.0, tight_append (after r) C b D c h.1 k)

pub clean_regions_append : (s : SchemaTable) (bytes : List ℕ) (a : ℕ) (C : List Region) (b : ℕ) (D : List Region) → Tight a C b → CleanRegions s bytes a C → CleanRegions s bytes b D → CleanRegions s bytes a (C ++ D)
clean_regions_append s bytes a [] b D h i k = rw h at k
clean_regions_append s bytes a (r ∷ C) b D h i k = (i.0, i.1, i.2, clean_regions_append s bytes (after r) C b D h.1 i.3 k)

abbrev pub ArePositive : List Region → Type 0
ArePositive [] = Unit {0}
ArePositive (r ∷ C) = (1 ≤ r.align) × ArePositive C

pub positive_append : (C D : List Region) → ArePositive C → ArePositive D → ArePositive (C ++ D)
positive_append [] D h k = k
positive_append (r ∷ C) D h k = (h.0, positive_append C D h.1 k)

pub sized_append : (s : SchemaTable) (C D : List Region) → AreSized s C → AreSized s D → AreSized s (C ++ D)
sized_append s [] D h k = k
sized_append s (r ∷ C) D h k = (h.0, sized_append s C D h.1 k)

-- the regions of a tour

module _ (s : SchemaTable) (laid_out : LaidOut s) where
  pub pointee_positive : (P : Pointee) → 1 ≤ pointee_align s P
  pointee_positive (one X) = align_pos s.layouts laid_out.aligned X
  pointee_positive (run X) = align_pos s.layouts laid_out.aligned X
  pointee_positive text = omega arith

  pub tour_positive : {bytes pending : List ℕ} {seen last : Seen} {O : List Pointer} {C : List Region} → Tour s bytes pending seen O C last → ArePositive C
  tour_positive tour_end = tt
  tour_positive (tour_unique {p = p} {t = t} {C = C} {D = E} e h i j) = positive_append C (region_of s p t ∷ E) (tour_positive i) (pointee_positive p.pointee, tour_positive j)
  tour_positive (tour_new {p = p} {t = t} {C = C} {D = E} e none h i j) = positive_append C (region_of s p t ∷ E) (tour_positive i) (pointee_positive p.pointee, tour_positive j)
  tour_positive (tour_again e t known free j) = tour_positive j

pub tour_sized : (s : SchemaTable) {bytes pending : List ℕ} {seen last : Seen} {O : List Pointer} {C : List Region} → Tour s bytes pending seen O C last → AreSized s C
tour_sized s tour_end = tt
tour_sized s (tour_unique {p = p} {t = t} {C = C} {D = E} e h i j) = sized_append s C (region_of s p t ∷ E) (tour_sized s i) (refl, tour_sized s j)
tour_sized s (tour_new {p = p} {t = t} {C = C} {D = E} e none h i j) = sized_append s C (region_of s p t ∷ E) (tour_sized s i) (refl, tour_sized s j)
tour_sized s (tour_again e t known free j) = tour_sized s j

-- a tight list rises

pub rising_lower : (a b : ℕ) (C : List Region) (c : ℕ) → a ≤ b → Rising b C c → Rising a C c
rising_lower a b [] c le h = omega arith
rising_lower a b (r ∷ C) c le h = (omega arith, h.1, h.2)

after_ends : (r : Region) → r.begin + r.size ≤ after r
after_ends r = grind arith

pub tight_rises : (a : ℕ) (C : List Region) (c : ℕ) → ArePositive C → Tight a C c → Rising a C c
tight_rises a [] c p h = omega (arith, h)
tight_rises a (r ∷ C) c p h = (
  omega (arith, h.0, up_le a r.align p.0),
  rw (h.0) (mul-mod_left ((a + (r.align - 1)) / r.align) r.align),
  rising_lower (r.begin + r.size) (after r) C c (after_ends r) (tight_rises (after r) C c p.1 h.1),
)
