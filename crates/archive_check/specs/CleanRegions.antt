-- Clean bytes, region by region and format by format: padding and the rest of a choice are 0, unused bytes of a string 0xff, a null's length 0.
use Rattle.std.specs.Prelude.{◌≡◌, ◌≢◌, ℕ, zero, suc, ◌+◌, ◌<◌, ◌≤◌, pos, List, [], ◌∷◌, ◌++◌, length, slice_index, Some}
use Rattle.archive_check.specs.Shape.{Name, Kind, Key, Flavor, Shape, leaf, parts, choice, array, boxed, vec, sorted_map, str, shared, weak, named, Pointee, one, run, text, Parts, no_part, part, Variants, definition, variant_at}
use Rattle.archive_check.specs.Layout.{up, size_of, align_of}
use Rattle.archive_check.specs.Reads.{SchemaTable, bytes_at, i32_at, length_at, before_end, IsOutOfLine}
use Rattle.archive_check.specs.Tour.{Region}
use Rattle.archive_check.specs.Tightness.{after}

-- These bytes stand in the buffer at p.
pub record Occurs (bytes : List ℕ) (p : ℕ) (a : List ℕ) : Type 0 where
  pub before : List ℕ
  pub behind : List ℕ
  pub is : bytes ≡ before ++ (a ++ behind)
  pub at : length before ≡ p

-- The buffer's bytes from i up to j are 0.
pub record AreZero (bytes : List ℕ) (i j : ℕ) : Type 0 where
  pub zero_at : (k : ℕ) → i ≤ k → k < j → slice_index bytes k ≡ 0

-- Each of these bytes is 0.
pub record IsZeroed (a : List ℕ) : Type 0 where
  pub zero_at : (i : ℕ) → i < length a → slice_index a i ≡ 0

-- The unused bytes of the inline string at p are 0xff.
pub record IsFilled (bytes : List ℕ) (p : ℕ) : Type 0 where
  pub filled : (i : ℕ) → length (before_end (bytes_at bytes p 8)) ≤ i → i < 8 → slice_index bytes (p + i) ≡ 0xff

-- What is read as X at p is clean. A rule for each format.
mutual
  pub data CleanValue (s : SchemaTable) (bytes : List ℕ) : ℕ → Shape → Type 0 where
    clean_leaf : {p : ℕ} {kind : Kind} → CleanValue s bytes p (leaf kind)
    clean_parts : {p : ℕ} {ps : Parts} → CleanParts s bytes p 0 ps (p + size_of s.layouts (parts ps)) → CleanValue s bytes p (parts ps)
    clean_choice : {p : ℕ} {name : Name} {variants : Variants} {ps : Parts}
        → variant_at variants (slice_index bytes p) ≡ Some ps
        → CleanParts s bytes p 1 ps (p + size_of s.layouts (choice name variants))
        → CleanValue s bytes p (choice name variants)
    clean_array : {p n : ℕ} {X : Shape} → CleanRun s bytes p n X → CleanValue s bytes p (array n X)
    clean_boxed : {p : ℕ} {P : Pointee} → CleanValue s bytes p (boxed P)
    clean_vec : {p : ℕ} {X : Shape} → CleanValue s bytes p (vec X)
    clean_map : {p : ℕ} {K : Key} {V : Shape} → CleanValue s bytes p (sorted_map K V)
    clean_inline : {p : ℕ} → (IsOutOfLine bytes p → ⊥) → IsFilled bytes p → CleanValue s bytes p str
    clean_out_of_line : {p : ℕ} → IsOutOfLine bytes p → CleanValue s bytes p str
    clean_shared : {p : ℕ} {flavor : Flavor} {P : Pointee} → CleanValue s bytes p (shared flavor P)
    clean_null : {p : ℕ} {flavor : Flavor} {P : Pointee} → i32_at bytes p ≡ pos 1 → length_at bytes p P ≡ 0 → CleanValue s bytes p (weak flavor P)
    clean_weak : {p : ℕ} {flavor : Flavor} {P : Pointee} → i32_at bytes p ≢ pos 1 → CleanValue s bytes p (weak flavor P)
    clean_named : {p : ℕ} {name : Name} {X : Shape} → definition s.table name ≡ Some X → CleanValue s bytes p X → CleanValue s bytes p (named name)

  -- The parts from an offset on, and what is behind them, up to a stop.
  pub data CleanParts (s : SchemaTable) (bytes : List ℕ) : ℕ → ℕ → Parts → ℕ → Type 0 where
    clean_no_part : {p at stop : ℕ} → AreZero bytes (p + at) stop → CleanParts s bytes p at no_part stop
    clean_part : {p at stop : ℕ} {X : Shape} {ps : Parts}
        → AreZero bytes (p + at) (p + up at (align_of s.layouts X))
        → CleanValue s bytes (p + up at (align_of s.layouts X)) X
        → CleanParts s bytes p (up at (align_of s.layouts X) + size_of s.layouts X) ps stop
        → CleanParts s bytes p at (part X ps) stop

  pub data CleanRun (s : SchemaTable) (bytes : List ℕ) : ℕ → ℕ → Shape → Type 0 where
    clean_none : {p : ℕ} {X : Shape} → CleanRun s bytes p zero X
    clean_element : {p n : ℕ} {X : Shape} → CleanValue s bytes p X → CleanRun s bytes (p + size_of s.layouts X) n X → CleanRun s bytes p (suc n) X

pub data CleanPointee (s : SchemaTable) (bytes : List ℕ) (t : ℕ) : Pointee → ℕ → Type 0 where
  clean_one : {n : ℕ} {X : Shape} → CleanValue s bytes t X → CleanPointee s bytes t (one X) n
  clean_run : {n : ℕ} {X : Shape} → CleanRun s bytes t n X → CleanPointee s bytes t (run X) n
  clean_text : {n : ℕ} → CleanPointee s bytes t text n

-- From start on each region is clean, and so are the bytes between them.
abbrev pub CleanRegions : SchemaTable → List ℕ → ℕ → List Region → Type 0
CleanRegions s bytes start [] = Unit {0}
CleanRegions s bytes start (r ∷ C) = AreZero bytes start r.begin × CleanPointee s bytes r.begin r.pointee r.length × AreZero bytes (r.begin + r.size) (after r) × CleanRegions s bytes (after r) C
