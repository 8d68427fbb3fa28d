-- What is said of a check's context, in its own words. `Both` is a parameter as a clause names it: what it was as the call began, and what it is at the
-- return.
use denote.Triple.Both.{Both}
use denote.Ref.{MutBor}
use Rattle.std.specs.Prelude.{ℕ, List, Result, OnOk, IfErr}
use Rattle.archive_check.specs.declared.context.Context as Context
use Rattle.archive_check.specs.declared.format.error.Error.{Error}
use Rattle.archive_check.specs.Words.Formats.{FormatOf}
use Rattle.archive_check.specs.Archives.{IsArchiveWithin, IsRefusal, ExplainsNoArchive}
use Rattle.archive_check.specs.context.FreshContexts.{IsWholeIn}

module _ {C M : Type 0} (f : FormatOf M) (k : Context.Ghosts C) (c : Both (MutBor C) (MutBor C)) where
  -- In such a context: what is accepted is an archive of the type, with its root at p.
  abbrev pub AcceptsIn : List ℕ → ℕ → Result (Unit {0}) Error → Type 0
  AcceptsIn bytes p result = OnOk result (IsWholeIn k c.entry.now bytes → IsArchiveWithin f.definitions bytes (k.state c.entry.now).depth p f.shape)

  -- What is refused has a fault, and the refusal says the first.
  abbrev pub RefusesIn : List ℕ → ℕ → Result (Unit {0}) Error → Type 0
  RefusesIn bytes p result = IfErr result (λ e. IsWholeIn k c.entry.now bytes → IsRefusal f.definitions bytes (k.state c.entry.now).depth p f.shape e)

  -- And is no archive, want of memory aside.
  abbrev pub IsExactIn : List ℕ → ℕ → Result (Unit {0}) Error → Type 0
  IsExactIn bytes p result = IfErr result (λ e. IsWholeIn k c.entry.now bytes → ExplainsNoArchive f.definitions bytes (k.state c.entry.now).depth p f.shape e)
