-- What calls over a source come to, by what the source tells: one word for each kind of call, over its result. `Both` is a parameter as a clause names it: what
-- it was as the call began, and what it is at the return.
use denote.Triple.Both.{Both}
use denote.Ref.{MutBor}
use Rattle.std.specs.Prelude.{◌≡◌, ◌+◌, ℕ, length, Result, IfOk, IfErr}
use Rattle.archive_check.specs.Words.Formats.{FormatOf}
use Rattle.archive_check.specs.Shape.{one}
use Rattle.archive_check.specs.declared.format.error.Error.{Error}
use Rattle.archive_check.specs.declared.format.traits.ArchivePointee as ArchivePointee
use Rattle.archive_check.specs.declared.format.traits.Keys as Keys
use Rattle.archive_check.specs.declared.self_check.parts.CheckedParts as CheckedParts
use Rattle.archive_types.specs.Causes.{IsOfWriting, IsRegionRefused}
use Rattle.archive_types.specs.Inner.{IsBoxed, IsPutAt, IsNotBoxed}
use Rattle.archive_types.specs.Outcomes.{SerializesTo, WritesRegion}
use Rattle.archive_types.specs.Parts.{SerializedParts, ArePartsRefused}
use Rattle.archive_types.specs.Plans.{SerializedRegion}
use Rattle.archive_types.specs.declared.parts.SourceParts as SourceParts
use Rattle.archive_types.specs.declared.traits.Archive as Archive
use Rattle.archive_types.specs.declared.traits.ArchiveUnsized as ArchiveUnsized
use Rattle.archive_write.specs.Written.{GoesOn}

-- Serializing a source, in a format.
abbrev pub Serializes : {T A R M C S : Type 0} → Archive.Ghosts T A R C M → FormatOf M → T → Keys.Ghosts S → Both (MutBor S) (MutBor S) → Result R Error → Type 0
Serializes a f v k w result =
    SerializesTo f.definitions f.shape (a.keys v) (a.meaning v) (a.flat v) (a.belongs v) (k.state w.entry.now) (k.state w.exit.now) result

-- The same of a source's parts.
pub record SerializesParts {P M T A R S : Type 0} (g : CheckedParts.Ghosts P) (s : SourceParts.Ghosts M T A R) (v : T) (k : Keys.Ghosts S) (w : Both (MutBor S) (MutBor S)) (result : Result R Error) : Type 0 where
  pub serialized : IfOk result (λ r. SerializedParts g.definitions g.parts (s.keys v) (s.meanings v) (s.flats v r) (k.state w.entry.now) (k.state w.exit.now))
  pub same_values : IfOk result (s.belongs v)
  pub goes_on : GoesOn (k.state w.entry.now) (k.state w.exit.now)
  pub refused : IfErr result (ArePartsRefused g.definitions g.parts (s.keys v) (s.meanings v) (k.state w.entry.now) (k.state w.exit.now))

-- Laying out a source in a region of its own; and one value, which is then the last that the writer holds.
abbrev pub WritesUnsized : {T A M S : Type 0} → ArchiveUnsized.Ghosts T A M → ArchivePointee.Ghosts A M → T → Keys.Ghosts S → Both (MutBor S) (MutBor S) → Result ℕ Error → Type 0
WritesUnsized u g v k w result =
    WritesRegion g.definitions g.pointee (u.source_length v) (u.keys v) (u.meaning v) (k.state w.entry.now) (k.state w.exit.now) result

pub record WritesOne {T A R M C S : Type 0} (a : Archive.Ghosts T A R C M) (f : FormatOf M) (v : T) (k : Keys.Ghosts S) (w : Both (MutBor S) (MutBor S)) (result : Result ℕ Error) : Type 0 where
  pub serialized : IfOk result (λ p. SerializedRegion f.definitions (one f.shape) 0 (a.keys v) (a.meaning v) p (k.state w.entry.now) (k.state w.exit.now))
  pub ends : IfOk result (λ p. p + f.layout.size ≡ length (k.state w.exit.now).bytes)
  pub goes_on : GoesOn (k.state w.entry.now) (k.state w.exit.now)
  pub refused : IfErr result (IsRegionRefused f.definitions (one f.shape) 0 (a.keys v) (a.meaning v) (k.state w.entry.now) (k.state w.exit.now))

-- Boxing a value, from whatever it was serialized: its region stands at t, behind zeros, and a box of it is serialized, too; or why not.
pub record BoxesInner {T A R M C S : Type 0} (a : Archive.Ghosts T A R C M) (f : FormatOf M) (v : T) (r : R) (k : Keys.Ghosts S) (w : Both (MutBor S) (MutBor S)) (result : Result ℕ Error) : Type 0 where
  pub boxed : IfOk result (λ t. IsBoxed f.definitions f.shape (a.keys v) (a.meaning v) (a.flat v r) t (k.state w.entry.now) (k.state w.exit.now))
  pub put : IfOk result (λ t. IsPutAt f.definitions f.shape f.layout (a.flat v r) t (k.state w.entry.now) (k.state w.exit.now))
  pub goes_on : GoesOn (k.state w.entry.now) (k.state w.exit.now)
  pub refused : IfErr result (IsNotBoxed f.definitions f.shape (a.keys v) (a.meaning v) (a.flat v r) (k.state w.entry.now) (k.state w.exit.now))
  pub number : IfErr result IsOfWriting
