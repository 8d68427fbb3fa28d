-- What a write does to a writer, and to a buffer of fixed length, whose first bytes are those that it holds. `Both` is a parameter as a clause names it: what
-- it was as the call began, and what it is at the return.
use denote.Triple.Both.{Both}
use denote.Ref.{MutBor}
use Rattle.std.specs.Prelude.{◌≡◌, ℕ, ◌-◌, List, ◌++◌, length, take, Some, replicate}
use Rattle.archive_check.specs.WriterState.{WriterState, KeyState}
use Rattle.archive_check.specs.declared.format.error.Error.{Error}
use Rattle.archive_write.specs.Sharing.{started_key, IsSet}
use Rattle.archive_write.specs.Written.{RoomFalls, ExplainsRefusal, padding}

module _ {W : Type 0} (state : W → WriterState) (w : Both (MutBor W) (MutBor W)) where
  -- The room has fallen by as many bytes as came.
  abbrev pub SpendsRoom : Type 0
  SpendsRoom = RoomFalls (state w.entry.now).room (state w.exit.now).room (state w.entry.now).bytes (state w.exit.now).bytes

  -- Why a write of n bytes was refused, where the writer stood at its position.
  abbrev pub ExplainsWrite : (W → ℕ) → ℕ → Error → Type 0
  ExplainsWrite position n =
      ExplainsRefusal n (position w.entry.now) (length (state w.exit.now).bytes) (state w.entry.now).room (state w.entry.now).failures (state w.exit.now).failures

  -- Zeros came up to the next multiple of a; why they didn't.
  abbrev pub Padded : (W → ℕ) → ℕ → Type 0
  Padded position a = (state w.exit.now).bytes ≡ (state w.entry.now).bytes ++ replicate (padding a (position w.entry.now)) 0

  abbrev pub ExplainsPadding : (W → ℕ) → ℕ → Error → Type 0
  ExplainsPadding position a = ExplainsWrite position (padding a (position w.entry.now))

-- The state of a key that is started, the others as they were.
abbrev pub IsStarted : (ℕ → KeyState) → ℕ → (ℕ → KeyState) → Type 0
IsStarted before key after = IsSet before key (started_key (before key)) after

-- These came behind them.
abbrev pub HoldsMore : ℕ → List ℕ → ℕ → List ℕ → List ℕ → Type 0
HoldsMore n xs m ys more = take m ys ≡ take n xs ++ more

-- The room behind them has fallen by as many.
abbrev pub SpendsRest : ℕ → List ℕ → ℕ → List ℕ → Type 0
SpendsRest n xs m ys = RoomFalls (Some (length xs - n)) (Some (length ys - m)) (take n xs) (take m ys)

-- Why bytes don't fit behind them.
abbrev pub ExplainsFull : List ℕ → ℕ → List ℕ → ℕ → List ℕ → Error → Type 0
ExplainsFull bytes n xs m ys = ExplainsRefusal (length bytes) n (length (take m ys)) (Some (length xs - n)) 0 0
