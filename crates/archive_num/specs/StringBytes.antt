-- The eight bytes of a string: of one with its text in place, and of one whose text stands elsewhere.
use Rattle.std.specs.Prelude.{◌≡◌, ℕ, ◌+◌, ◌-◌, ◌*◌, ◌/◌, ◌%◌, ℤ, List, ◌++◌, length, replicate, Result, MatchResult, FitsSigned}
use Rattle.std.specs.Int.{w32, to_le_bytes, cast_unsigned}
use Rattle.archive_check.specs.declared.format.error.Error.{Error}
use Rattle.archive_num.specs.Offsets.{IsTooFar}

-- The number that codes the length of a text that stands elsewhere.
abbrev pub coded_length : ℕ → ℕ
coded_length n = n % 64 + 128 + n / 64 * 256

-- Of an inline string.
abbrev pub inline_bytes : List ℕ → List ℕ
inline_bytes bytes = bytes ++ replicate (8 - length bytes) 0xff

-- Of a string whose text has n bytes and stands so far away.
abbrev pub out_of_line_bytes : ℕ → ℤ → List ℕ
out_of_line_bytes n offset = to_le_bytes w32 (coded_length n) ++ to_le_bytes w32 (cast_unsigned w32 offset)

-- The bytes are those of a string out of line, z away from its text of n bytes, or nothing was written where z doesn't fit.
abbrev pub OutOfLineWritten : {T : Type 0} → ℕ → ℤ → List ℕ → List ℕ → Result T Error → Type 0
OutOfLineWritten n z old new result = MatchResult result (λ _. FitsSigned w32 z × (new ≡ out_of_line_bytes n z)) (λ e. (new ≡ old) × IsTooFar e z)
