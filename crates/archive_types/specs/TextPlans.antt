-- Why a text, or the text of a string, isn't written, by the one write that it takes.
use Rattle.std.specs.Prelude.{◌≡◌, ◌⊎◌, ℕ, ◌<◌, List, length}
use Rattle.archive_check.specs.WriterState.{WriterState}
use Rattle.archive_check.specs.declared.format.error.Error.{Error}
use Rattle.archive_check.specs.declared.format.error.Error.TheVariants.{PositionTooLarge, LengthTooLarge, StringTooLong}
use Rattle.archive_write.specs.Written.{ExplainsRefusal}
use Rattle.archive_num.specs.Offsets.{distance, IsTooFar}

-- The text has more bytes than a pointer can say.
abbrev pub HindersText : List ℕ → Error → Type 0
HindersText bytes e = (e ≡ LengthTooLarge) × (4294967295 < length bytes)

-- It has more than a string can, or isn't inline and stands above 4,294,967,295.
abbrev pub HindersString : List ℕ → ℕ → Error → Type 0
HindersString bytes t e = ((e ≡ StringTooLong) × (1073741823 < length bytes)) ⊎ ((e ≡ PositionTooLarge) × (8 < length bytes) × (4294967295 < t))

-- The offset from the string at p to its text at t, which isn't inline, doesn't fit.
abbrev pub HindersStringAt : List ℕ → ℕ → ℕ → Error → Type 0
HindersStringAt bytes t p e = (8 < length bytes) × IsTooFar e (distance p t)

-- Why a text isn't written: it is too long, or the writer, which stands at t, refuses the one write that it takes.
abbrev pub ExplainsTextRefusal : List ℕ → ℕ → WriterState → WriterState → Error → Type 0
ExplainsTextRefusal bytes t old new e = HindersText bytes e ⊎ ExplainsRefusal (length bytes) t (length new.bytes) old.room old.failures new.failures e

-- And why a string's isn't: it is too long for a string, it stands too far behind, or the writer refuses.
abbrev pub ExplainsStringRefusal : List ℕ → ℕ → WriterState → WriterState → Error → Type 0
ExplainsStringRefusal bytes t old new e = HindersString bytes t e ⊎ ExplainsRefusal (length bytes) t (length new.bytes) old.room old.failures new.failures e
