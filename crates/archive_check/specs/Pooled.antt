-- What a pool knows of the positions that are read.
use Rattle.std.specs.Prelude.{ℕ, List, Option, Some, None}
use Rattle.archive_check.specs.Value.{Value}
use Rattle.archive_check.specs.Tour.{Entry}
use Rattle.archive_check.specs.Denotes.{Naming}

-- What is kept of a shared value that was read: name, flavor, pointee, length, value, and what the
-- names in that lead to.
pub record Kept : Type 0 where
  pub name : ℕ
  pub entry : Entry
  pub value : Value
  pub keys : List Naming

-- The state of a position: unknown, pending, or finished with what is kept of it.
abbrev pub EntryState : Type 0
EntryState = Option (Option Kept)

-- What a pool knows of each position.
abbrev pub Entries : Type 0
Entries = ℕ → EntryState

-- A start leaves a new position pending, and others as they are.
abbrev pub pooled : EntryState → EntryState
pooled None = Some None
pooled (Some known) = Some known
