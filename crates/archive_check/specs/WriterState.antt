-- What a writer tells of itself: what it holds, and the states of the shared keys. Zeros up to a multiple.
use Rattle.std.specs.Prelude.{◌≡◌, ℕ, List, [], ◌++◌, length, Option, None}
use Rattle.archive_check.specs.Layout.{up}
use Rattle.archive_check.specs.CleanRegions.{IsZeroed}

-- The state of a shared key: unknown, pending, or finished at a position.
abbrev pub KeyState : Type 0
KeyState = Option (Option ℕ)

-- The state of each shared key.
abbrev pub KeyStates : Type 0
KeyStates = ℕ → KeyState

-- The bytes that a writer holds, how many more it can take, how often its device failed, and the
-- states of the shared keys.
pub record WriterState : Type 0 where
  pub bytes : List ℕ
  pub room : Option ℕ
  pub failures : ℕ
  pub states : KeyStates

-- No key is known.
abbrev pub no_keys : KeyStates
no_keys k = None

-- Of what holds no bytes.
abbrev pub only_keys : KeyStates → WriterState
only_keys states = record { bytes = []; room = None; failures = 0; states = states }

-- Of what holds these bytes, without a limit, a device or a key.
abbrev pub only_bytes : List ℕ → WriterState
only_bytes bytes = record { bytes = bytes; room = None; failures = 0; states = no_keys }

-- No key changes its state.
abbrev pub KeepsKeys : KeyStates → KeyStates → Type 0
KeepsKeys f g = (k : ℕ) → g k ≡ f k

-- Nothing changes but states of keys.
abbrev pub KeepsBytes : WriterState → WriterState → Type 0
KeepsBytes old new = (new.bytes ≡ old.bytes) × (new.room ≡ old.room) × (new.failures ≡ old.failures)

-- Zeros were appended up to the next multiple.
pub record Pads (align : ℕ) (old new : WriterState) : Type 0 where
  pub zeros : List ℕ
  pub grown : new.bytes ≡ old.bytes ++ zeros
  pub zeroed : IsZeroed zeros
  pub aligned : length new.bytes ≡ up (length old.bytes) align
  pub states : new.states ≡ old.states
