-- What calls of whole archives come to: one word for each kind, over its result. `Both` is a parameter as a clause names it: what it was as the call began,
-- and what it is at the return.
use denote.Triple.Both.{Both}
use denote.Ref.{MutBor}
use Rattle.std.specs.Prelude.{◌≡◌, ◌⊎◌, ℕ, List, [], Option, Result, OnOk, IfOk, IfErr}
use Rattle.archive_check.specs.Archives.{Answers, IsArchive, ReadsWhole, RefusesWhole, RefusesAsCheck, root_in, ExplainsNoSchema}
use Rattle.archive_check.specs.Defined.{WellFormed}
use Rattle.archive_check.specs.Definitions.{listed}
use Rattle.archive_check.specs.Shape.{one}
use Rattle.archive_check.specs.Unshared.{IsNeverOpen}
use Rattle.archive_check.specs.WriterState.{WriterState}
use Rattle.archive_check.specs.declared.format.error.Error.{Error}
use Rattle.archive_check.specs.declared.format.error.Error.TheVariants.{OutOfMemory}
use Rattle.archive_check.specs.declared.format.traits.Entries as Entries
use Rattle.archive_check.specs.declared.format.traits.Keys as Keys
use Rattle.archive_types.specs.Causes.{HindersRegion, IsRegionRefused}
use Rattle.archive_check.specs.Words.Formats.{FormatOf}
use Rattle.archive_types.specs.Plans.{at_start, unshared}
use Rattle.archive_types.specs.Writing.{Archives}
use Rattle.archive_types.specs.declared.traits.Archive as Archive
use Rattle.archive_write.specs.Written.{GoesOn}

-- Behind the writer's bytes, which stay, an archive of the value was written with its root at the
-- returned position, or the error says why not.
pub record AppendsArchive {T A R M C : Type 0} (a : Archive.Ghosts T A R C M) (f : FormatOf M) (v : T) (old new : WriterState) (result : Result ℕ Error) : Type 0 where
  pub archived : IfOk result (λ root. Archives f.definitions old.bytes new.bytes root f.shape f.layout.size (a.keys v) (a.meaning v))
  pub goes_on : GoesOn (unshared old) (unshared new)
  pub refused : IfErr result (IsRegionRefused f.definitions (one f.shape) 0 (a.keys v) (a.meaning v) (unshared old) (unshared new))

-- The same as `AppendsArchive`, with a writer that the call takes and returns; an error is
-- explained by what some writer held in the end.
pub record AppendsTaken {T A R M C W : Type 0} (a : Archive.Ghosts T A R C M) (f : FormatOf M) (v : T) (k : Keys.Ghosts W) (old : W) (result : Result W Error) : Type 0 where
  pub archived : IfOk result (λ new. (root : ℕ) × Archives f.definitions (k.state old).bytes (k.state new).bytes root f.shape f.layout.size (a.keys v) (a.meaning v))
  pub goes_on : IfOk result (λ new. GoesOn (unshared (k.state old)) (unshared (k.state new)))
  pub refused : IfErr result (λ e. (end : W) × GoesOn (unshared (k.state old)) (unshared (k.state end))
      × IsRegionRefused f.definitions (one f.shape) 0 (a.keys v) (a.meaning v) (unshared (k.state old)) (unshared (k.state end)) e)

-- The returned bytes are an archive of the value, or the error says why not.
pub record MakesArchive {T A R M C B : Type 0} (a : Archive.Ghosts T A R C M) (f : FormatOf M) (v : T) (bytes_of : B → List ℕ) (result : Result B Error) : Type 0 where
  pub archived : IfOk result (λ b. (root : ℕ) × Archives f.definitions [] (bytes_of b) root f.shape f.layout.size (a.keys v) (a.meaning v))
  pub refused : IfErr result (λ e. (e ≡ OutOfMemory) ⊎ HindersRegion f.definitions (one f.shape) 0 (a.keys v) (a.meaning v) at_start e)

-- The value was read from an archive with its root at the end, or the error says why not: as the
-- check does, if no reading can meet an open position.
pub record ReadsArchive {M D T A R N C : Type 0} (f : FormatOf M) (bytes : List ℕ) (d : Entries.Ghosts D) (b : Both (MutBor D) (MutBor D)) (a : Archive.Ghosts T A R C N) (result : Result T Error) : Type 0 where
  pub accepted : OnOk result (IsArchive f.definitions bytes (root_in bytes f.layout) f.shape)
  pub read : IfOk result (λ t. ReadsWhole d.keeps f.definitions bytes (root_in bytes f.layout) f.shape (d.entry_of b.entry.now) (d.entry_of b.exit.now) (a.meaning t) (a.keys t))
  pub refused : IfErr result (RefusesWhole f.definitions bytes (root_in bytes f.layout) f.shape (d.entry_of b.entry.now))
  pub never_open : IsNeverOpen f.definitions f.shape (d.entry_of b.entry.now) → IfErr result (RefusesAsCheck f.definitions bytes (root_in bytes f.layout) f.shape)

-- A type has no schema, and why, or it is well formed and something else was refused.
abbrev pub LacksSchema : {M : Type 0} → FormatOf M → Error → Type 0
LacksSchema f e = ExplainsNoSchema f.shape f.definitions e ⊎ WellFormed (listed f.definitions) f.shape

-- The result of a check of the root at the end.
abbrev pub AnswersRoot : {M T : Type 0} → FormatOf M → List ℕ → Option ℕ → Result T Error → Type 0
AnswersRoot f bytes depth result = Answers f.definitions bytes depth (root_in bytes f.layout) f.shape result
