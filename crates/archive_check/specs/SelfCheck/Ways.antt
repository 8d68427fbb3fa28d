-- What comes of a check that follows a type alone, with no schema at hand: the same under each schema that knows the type's definitions, whatever is
-- seen and pending.
use Rattle.std.specs.Prelude.{◌≡◌, ℕ, ◌+◌, ◌*◌, ◌<◌, ℤ, List, Option, Some, None}
use Rattle.archive_check.specs.declared.format.error.Error.{Error}
use Rattle.archive_check.specs.Shape.{Shape, Pointee, Parts, Variants, variant_at}
use Rattle.archive_check.specs.Value.{Pointer}
use Rattle.archive_check.specs.Reads.{SchemaTable}
use Rattle.archive_check.specs.context.Ranges.{RangeState}
use Rattle.archive_check.specs.Tour.{Seen}
use Rattle.archive_check.specs.Walk.{Walk, WalkParts, WalkRun, Enter}
use Rattle.archive_check.specs.Trail.{Fault, Trips, TripsParts, TripsRun, TripsEnter}
use Rattle.archive_check.specs.Words.Faults.{IsFor}
use Rattle.archive_check.specs.Definitions.{Definitions, Knows}
use Rattle.archive_check.specs.Outcomes.{Outcome, done, refused}
use Rattle.archive_check.specs.context.FreshContexts.{HasLevels}

-- A way through an archive, under a schema: by what is pending, the levels left, the range's end and start, what is seen, and the outcome.
abbrev pub Way : Type 1
Way = SchemaTable → List ℕ → Option ℕ → ℕ → ℕ → Seen → Outcome → Type 0

-- The X at p: the walk through it, or the trail to a fault in it.
abbrev pub shape_way : List ℕ → ℕ → Shape → Way
shape_way bytes p X s pending depth stop start seen (done later last) = Walk s bytes pending depth stop p X start seen later last
shape_way bytes p X s pending depth stop start seen (refused f) = Trips s bytes pending depth stop p X start seen f

-- The parts from an offset on, of what begins at p.
abbrev pub parts_way : List ℕ → ℕ → ℕ → Parts → Way
parts_way bytes p at ps s pending depth stop start seen (done later last) = WalkParts s bytes pending depth stop p at ps start seen later last
parts_way bytes p at ps s pending depth stop start seen (refused f) = TripsParts s bytes pending depth stop p at ps start seen f

-- n of X, the first at p.
abbrev pub run_way : List ℕ → ℕ → ℕ → Shape → Way
run_way bytes p n X s pending depth stop start seen (done later last) = WalkRun s bytes pending depth stop p n X start seen later last
run_way bytes p n X s pending depth stop start seen (refused f) = TripsRun s bytes pending depth stop p n X start seen f

-- A pointer to a region that is its own alone.
abbrev pub owned : ℤ → Pointee → ℕ → Pointer
owned z P n = record { target = z; sharing = None; order = None; pointee = P; length = n }

-- The region is entered that the pointer leads to.
abbrev pub enter_way : List ℕ → Pointer → Way
enter_way bytes p s pending depth stop start seen (done later last) = (t : ℕ) × Enter s bytes pending depth stop p t start seen later last
enter_way bytes p s pending depth stop start seen (refused f) = TripsEnter s bytes pending depth stop p start seen f

-- The way is gone, from one range to the next: regions may end where they might before, and as many levels are left.
pub record Goes (D : Definitions) (W : Way) (s s' : RangeState) : Type 0 where
  pub end : s'.end ≡ s.end
  pub depth : HasLevels s.depth → s'.depth ≡ s.depth
  pub runs : HasLevels s.depth → (t : SchemaTable) → Knows t D → (pending : List ℕ) (seen : Seen) → W t pending s.depth s.end s.start seen (done s'.start seen)

-- The way comes to a fault, the same one under each schema, with this refusal.
abbrev pub Halts : Definitions → Way → RangeState → Error → Type 0
Halts D W s e = HasLevels s.depth → (f : Fault) × IsFor f e × ((t : SchemaTable) → Knows t D → (pending : List ℕ) (seen : Seen) → W t pending s.depth s.end s.start seen (refused f))

-- The first n of these, z bytes apart from p on, are gone through wherever a check of them stands, and leave its range as it is.
abbrev pub AreGood : Definitions → List ℕ → ℕ → ℕ → Shape → ℕ → Type 0
AreGood D bytes p z X n = (k : ℕ) (s : RangeState) → k < n → Goes D (shape_way bytes (p + k * z) X) s s

-- The parts of the variant with this tag are gone through.
pub record VariantGoes (D : Definitions) (bytes : List ℕ) (base : ℕ) (vs : Variants) (tag : ℕ) (s s' : RangeState) : Type 0 where
  pub parts : Parts
  pub at : variant_at vs tag ≡ Some parts
  pub goes : Goes D (parts_way bytes base 1 parts) s s'

-- They come to a fault.
pub record VariantHalts (D : Definitions) (bytes : List ℕ) (base : ℕ) (vs : Variants) (tag : ℕ) (s : RangeState) (e : Error) : Type 0 where
  pub parts : Parts
  pub at : variant_at vs tag ≡ Some parts
  pub halts : Halts D (parts_way bytes base 1 parts) s e
