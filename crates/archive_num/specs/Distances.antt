-- The result of a distance, as a native number.
use Rattle.std.specs.Prelude.{◌≡◌, ℕ, ℤ, Result, MatchResult, FitsSigned}
use Rattle.std.specs.Int.{Width, w64}
use Rattle.archive_check.specs.Shape.{Sign}
use Rattle.archive_check.specs.declared.format.error.Error.{Error}
use Rattle.archive_check.specs.declared.format.error.Error.TheVariants.{IsizeOverflow, OffsetOverflow}
use Rattle.archive_num.specs.Offsets.{distance, Fits}

-- The result is the distance, or `IsizeOverflow` if it doesn't fit `isize`.
abbrev pub GivesDistance : ℕ → ℕ → Result ℤ Error → Type 0
GivesDistance from to result = MatchResult result (λ z. z ≡ distance from to) (λ e. (e ≡ IsizeOverflow) × ¬ FitsSigned w64 (distance from to))

-- The result is z as a number of this sign and width, or `OffsetOverflow` if z doesn't fit.
abbrev pub GivesNumber : {N : Type 0} → (N → ℤ) → Sign → Width → ℤ → Result N Error → Type 0
GivesNumber value_of sign width z result = MatchResult result (λ n. value_of n ≡ z) (λ e. (e ≡ OffsetOverflow) × ¬ Fits sign width z)
