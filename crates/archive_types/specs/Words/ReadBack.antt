-- What is said of what is read back as a source.
use denote.Triple.Both.{Both}
use denote.Ref.{MutBor}
use Rattle.std.specs.Prelude.{Result, IfOk, IfErr}
use Rattle.archive_check.specs.declared.format.error.Error.{Error}
use Rattle.archive_check.specs.declared.format.traits.ArchivePointee as ArchivePointee
use Rattle.archive_check.specs.declared.format.traits.Entries as Entries
use Rattle.archive_types.specs.Words.Seen.{ReadsPart, RefusesPart, ReadsView, RefusesView}
use Rattle.archive_types.specs.declared.traits.Archive as Archive
use Rattle.archive_types.specs.declared.view.RawView.{RawView}
use Rattle.archive_types.specs.declared.view.Ref.{Ref}

-- The part was read back as this value of the source.
abbrev pub Read : {P N T A R M C D E : Type 0} → ArchivePointee.Ghosts P N → Both RawView E → Entries.Ghosts D → Both (MutBor D) (MutBor D) → Archive.Ghosts T A R C M → T → Type 0
Read g p d b a t = ReadsPart g p d b (a.meaning t) (a.keys t)

-- Reading back: the part was read as a value of the source, or why it wasn't.
pub record ReadsAs {P N T A R M C D E : Type 0} (g : ArchivePointee.Ghosts P N) (p : Both RawView E) (d : Entries.Ghosts D) (b : Both (MutBor D) (MutBor D)) (a : Archive.Ghosts T A R M C) (result : Result T Error) : Type 0 where
  pub read : IfOk result (Read g p d b a)
  pub refused : IfErr result (RefusesPart g p d b)

-- The same of what a view shows.
pub record ViewReadsAs {P N T A R M C D : Type 0} {g : ArchivePointee.Ghosts P N} (v : Ref P N g) (d : Entries.Ghosts D) (b : Both (MutBor D) (MutBor D)) (a : Archive.Ghosts T A R M C) (result : Result T Error) : Type 0 where
  pub read : IfOk result (λ t. ReadsView v d b (a.meaning t) (a.keys t))
  pub refused : IfErr result (RefusesView v d b)
