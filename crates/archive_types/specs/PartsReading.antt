-- Parts one after another, as they are viewed and read back.
use Rattle.std.specs.Prelude.{◌≡◌, ◌⊎◌, ℕ, ◌+◌, List, [], ◌++◌, Bool}
use Rattle.archive_check.specs.declared.format.error.Error.{Error}
use Rattle.archive_check.specs.declared.format.error.Error.TheVariants.{OutOfMemory, CyclicDeserialize}
use Rattle.archive_check.specs.Shape.{Shape, one, Parts, no_part, part}
use Rattle.archive_check.specs.Layout.{Layout, up}
use Rattle.archive_check.specs.Value.{Value, Values, no_value, value}
use Rattle.archive_check.specs.Reads.{SchemaTable}
use Rattle.archive_check.specs.Within.{IsPart}
use Rattle.archive_check.specs.Viewed.{Lies}
use Rattle.archive_check.specs.Denotes.{Naming}
use Rattle.archive_check.specs.Definitions.{Definitions, no_definition, both, Knows, HasLayout}
use Rattle.archive_check.specs.Pooled.{Entries}
use Rattle.archive_check.specs.Entries.{KeepsEntries, IsCyclic, ReadsBack}

-- Each of the parts, laid out from an offset on, of what begins at q, lies in an accepted buffer, under some schema that knows the definitions.
abbrev pub PartsViewed : Definitions → List ℕ → ℕ → ℕ → Parts → Type 0
PartsViewed D bytes q at ps = ∥ ((s : SchemaTable) × Knows s D × ((r : ℕ) (Y : Shape) → IsPart s q at ps r Y → Lies s bytes r (one Y) 0)) ∥₁

-- Each of them was read back at its place, at the next multiple of its alignment, one after another.
pub data PartsReadBack (keeps : Bool) (bytes : List ℕ) (q : ℕ) : Definitions → Parts → ℕ → Entries → Entries → Values → List Naming → Type 0 where
  no_part_read_back : {D : Definitions} {at : ℕ} {told : Entries} → PartsReadBack keeps bytes q D no_part at told told no_value []
  part_read_back : {D E : Definitions} {X : Shape} {ps : Parts} {L : Layout} {at : ℕ} {old mid new : Entries} {v : Value} {vs : Values} {ks ls : List Naming}
      → HasLayout D X L
      → ReadsBack keeps D bytes (q + up at L.align) (one X) 0 old mid v ks
      → PartsReadBack keeps bytes q E ps (up at L.align + L.size) mid new vs ls
      → PartsReadBack keeps bytes q (both D E) (part X ps) at old new (value v vs) (ks ++ ls)

-- One of them meets an open position, after those before it were read.
pub data PartsCyclic (bytes : List ℕ) (q : ℕ) : Definitions → Parts → ℕ → Entries → Type 0 where
  first_cyclic : {D E : Definitions} {X : Shape} {ps : Parts} {L : Layout} {at : ℕ} {told : Entries}
      → HasLayout D X L
      → IsCyclic D bytes told (q + up at L.align) (one X) 0
      → PartsCyclic bytes q (both D E) (part X ps) at told
  later_cyclic : {D E : Definitions} {X : Shape} {ps : Parts} {L : Layout} {at : ℕ} {old mid : Entries}
      → HasLayout D X L
      → KeepsEntries old mid
      → PartsCyclic bytes q E ps (up at L.align + L.size) mid
      → PartsCyclic bytes q (both D E) (part X ps) at old

-- Why they weren't read: memory was refused, or one of them meets an open position.
abbrev pub RefusesParts : Definitions → List ℕ → ℕ → Parts → ℕ → Entries → Error → Type 0
RefusesParts D bytes q ps at told e = (e ≡ OutOfMemory) ⊎ ((e ≡ CyclicDeserialize) × PartsCyclic bytes q D ps at told)
