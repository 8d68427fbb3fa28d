-- What is said of values that are copied to a writer in bulk. `Both` is a parameter as a clause names it: what it was as the call began, and what it is at the
-- return.
use denote.Triple.Both.{Both}
use denote.Ref.{MutBor}
use Rattle.std.specs.Prelude.{◌≡◌, ℕ, ◌*◌, ◌^◌, ◌<◌, ◌≤◌, List, length, Bool, IsTrue, Option, IfSome, IsSome, Result, IsOk, OnOk, IfOk, IfErr, IsErrOf}
use Rattle.archive_check.specs.Layout.{Layout}
use Rattle.archive_check.specs.WriterState.{WriterState}
use Rattle.archive_check.specs.declared.format.error.Error.{Error}
use Rattle.archive_check.specs.declared.format.error.Error.TheVariants.{OutOfMemory}
use Rattle.archive_check.specs.declared.format.traits.Keys as Keys
use Rattle.archive_types.specs.Copies.{each_bytes, copies_from, copies_to, behind_zeros, IsSliceRefused, AreCopiesRefused, TakesCopy}

-- Zeros came up to the values' alignment, and then these bytes.
abbrev pub AddedAligned : {S : Type 0} → Layout → List ℕ → Keys.Ghosts S → Both (MutBor S) (MutBor S) → Type 0
AddedAligned L bytes k w = (k.state w.exit.now).bytes ≡ behind_zeros L (k.state w.entry.now).bytes bytes

-- Values were copied, or not: zeros came up to their alignment and then the bytes of each, and memory is refused only where the writer takes some.
pub record CopiesAll {T : Type 0} (bytes : T → List ℕ) (L : Layout) (xs : List T) (old new : WriterState) (takes_memory : Bool) (result : Result (Option ℕ) Error) : Type 0 where
  pub answered : IfOk result IsSome
  pub copied : OnOk result (new.bytes ≡ behind_zeros L old.bytes (each_bytes bytes xs))
  pub memory : IsErrOf result OutOfMemory → IsTrue takes_memory

-- So it is where their type is written in bulk, if `together` of them have 1,024 bytes at most, and the bytes of all can be counted.
abbrev pub CopiesInBulk : {T S : Type 0} → Option (T → List ℕ) → ℕ → Layout → List T → Keys.Ghosts S → Both (MutBor S) (MutBor S) → Bool → Result (Option ℕ) Error → Type 0
CopiesInBulk in_bulk together L xs k w takes_memory result = IfSome in_bulk (λ bytes.
    together * L.size ≤ 1024 → length xs * L.size < 2 ^ 64 → CopiesAll bytes L xs (k.state w.entry.now) (k.state w.exit.now) takes_memory result)

-- These values were written in bulk by a writer at position p, or not: zeros came up to their alignment, and then these bytes, where the call returns.
-- Memory is refused only where the writer takes some, and else for one of these causes; where nothing refuses it, and a pointer can say what it has to, it is
-- written.
pub record WritesInBulk (L : Layout) (bytes : List ℕ) (count p : ℕ) (old new : WriterState) (takes_memory : Bool) (refused : Error → Type 0) (said : Type 0) (result : Result ℕ Error) : Type 0 where
  pub copied : OnOk result (new.bytes ≡ behind_zeros L old.bytes bytes)
  pub stands : IfOk result (λ t. t ≡ copies_from L p)
  pub cause : IfErr result refused
  pub memory : IsErrOf result OutOfMemory → IsTrue takes_memory
  pub succeeds : TakesCopy (IsTrue takes_memory) (copies_to L count p) old new → said → IsOk result

-- So are the values of a slice whose type is written in bulk, if each has 1,024 bytes at most, and a pointer can say their number;
abbrev pub SliceWritesInBulk : {T : Type 0} → Option (T → List ℕ) → Layout → List T → ℕ → WriterState → WriterState → Bool → Result ℕ Error → Type 0
SliceWritesInBulk in_bulk L xs p old new takes_memory result = IfSome in_bulk (λ bytes. L.size ≤ 1024
    → WritesInBulk L (each_bytes bytes xs) (length xs) p old new takes_memory (IsSliceRefused L (length xs) p old new) (length xs ≤ 4294967295) result)

-- And the elements of an owner, if it can say their position, too.
abbrev pub OwnerWritesInBulk : {T : Type 0} → Option (T → List ℕ) → Layout → List T → ℕ → WriterState → WriterState → Bool → Result ℕ Error → Type 0
OwnerWritesInBulk in_bulk L xs p old new takes_memory result = IfSome in_bulk (λ bytes. L.size ≤ 1024
    → WritesInBulk L (each_bytes bytes xs) (length xs) p old new takes_memory (AreCopiesRefused L (length xs) p old new)
    ((length xs ≤ 4294967295) × (copies_from L p ≤ 4294967295)) result)
