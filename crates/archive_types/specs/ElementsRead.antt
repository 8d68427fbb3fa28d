-- What was read back of elements one behind another, whether they are a slice or an array.
use denote.Triple.Both.{Both}
use denote.Ref.{MutBor}
use Rattle.std.specs.Prelude.{◌≡◌, ◌⊎◌, ℕ, List}
use Rattle.archive_check.specs.Entries.{ReadsBack, RefusesReading}
use Rattle.archive_check.specs.Words.Formats.{FormatOf}
use Rattle.archive_check.specs.Shape.{Shape, Pointee, array, one, run}
use Rattle.archive_check.specs.Value.{list}
use Rattle.archive_check.specs.declared.format.error.Error.{Error}
use Rattle.archive_check.specs.declared.format.traits.Entries as Entries
use Rattle.archive_types.specs.Runs.{each_keys, each_meaning}
use Rattle.archive_types.specs.declared.traits.Archive as Archive
use Rattle.archive_types.specs.declared.view.RawView.{RawView}

-- n elements, one behind another, are this, of this length: a run, or an array.
abbrev pub AreAllOf : Shape → ℕ → Pointee → ℕ → Type 0
AreAllOf X n P m = ((P ≡ run X) × (m ≡ n)) ⊎ (P ≡ one (array n X))

-- What was read back of n, whichever they are, and why it wasn't.
abbrev pub ReadsEach : {M T A R N C D E : Type 0} → FormatOf M → ℕ → Both RawView E → Entries.Ghosts D → Both (MutBor D) (MutBor D) → Archive.Ghosts T A R C N → List T → Type 0
ReadsEach f n p d b a xs =
    (P : Pointee) (m : ℕ) → AreAllOf f.shape n P m → ReadsBack d.keeps f.definitions p.entry.bytes.now p.entry.pos P m (d.entry_of b.entry.now) (d.entry_of b.exit.now)
    (list (each_meaning a.meaning xs)) (each_keys a.keys xs)

abbrev pub RefusesEach : {M D E : Type 0} → FormatOf M → ℕ → Both RawView E → Entries.Ghosts D → Both (MutBor D) (MutBor D) → Error → Type 0
RefusesEach f n p d b e = (P : Pointee) (m : ℕ) → AreAllOf f.shape n P m → RefusesReading f.definitions p.entry.bytes.now p.entry.pos P m (d.entry_of b.entry.now) e
