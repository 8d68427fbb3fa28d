-- Calls on the states of shared keys.
use Rattle.std.specs.Prelude.{◌≡◌, ◌≢◌, ℕ, Option, Some, None, Result, Ok, Err, nat_eq}
use Rattle.std.specs.Map.{update}
use Rattle.archive_check.specs.WriterState.{KeyState}
use Rattle.archive_check.specs.declared.format.error.Error.{Error}
use Rattle.archive_check.specs.declared.format.error.Error.TheVariants.{CyclicSerialize, NotStarted, AlreadyFinished}
use Rattle.archive_write.specs.declared.sharing.SharingState.{SharingState}
use Rattle.archive_write.specs.declared.sharing.SharingState.TheVariants.{Started, Pending, Finished}

-- The result of starting a key.
abbrev pub start_answer : KeyState → SharingState
start_answer None = Started
start_answer (Some None) = Pending
start_answer (Some (Some pos)) = Finished pos

-- The state that it leaves: an unknown key is then pending, a known one stays.
abbrev pub started_key : KeyState → KeyState
started_key None = Some None
started_key (Some s) = Some s

-- The states are those of before, but that this key has that state.
abbrev pub IsSet : (ℕ → KeyState) → ℕ → KeyState → (ℕ → KeyState) → Type 0
IsSet before key state after = (k : ℕ) → after k ≡ update nat_eq before key state k

-- No key is known.
abbrev pub KnowsNone : (ℕ → KeyState) → Type 0
KnowsNone states = (k : ℕ) → states k ≡ None

-- Each known key keeps its state.
abbrev pub KeepsKnown : (ℕ → KeyState) → (ℕ → KeyState) → Type 0
KeepsKnown before after = (k : ℕ) (s : Option ℕ) → before k ≡ Some s → after k ≡ Some s

-- The result of writing the value of a known key: a pending one fails, a finished one has its position already.
abbrev pub known_answer : Option ℕ → Result ℕ Error
known_answer None = Err CyclicSerialize
known_answer (Some pos) = Ok pos

-- A refusal other than those of a finish that has no pending key.
abbrev pub IsNoMisuse : Error → Type 0
IsNoMisuse e = (e ≢ NotStarted) × (e ≢ AlreadyFinished)
