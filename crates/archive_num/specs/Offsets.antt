-- Offsets between positions.
use Rattle.std.specs.Prelude.{◌≡◌, ◌⊎◌, ℕ, ℤ, pos, ◌-ℤ◌, List, FitsSigned}
use Rattle.std.specs.Int.{Width, w32, w64, byte_len, FitsUnsigned, from_le_bytes, cast_signed, cast_unsigned}
use Rattle.archive_check.specs.Shape.{Sign, unsigned, signed}
use Rattle.archive_check.specs.LittleEndian.{little_bytes}
use Rattle.archive_check.specs.Reads.{bytes_at, with_sign}
use Rattle.archive_check.specs.declared.format.error.Error.{Error}
use Rattle.archive_check.specs.declared.format.error.Error.TheVariants.{IsizeOverflow, OffsetOverflow}

-- How far it is from one position to another.
abbrev pub distance : ℕ → ℕ → ℤ
distance from to = pos to -ℤ pos from

-- The error of a difference that doesn't fit `isize`, or fits it but not 32 bits.
abbrev pub IsTooFar : Error → ℤ → Type 0
IsTooFar e z = ((e ≡ IsizeOverflow) × ¬ FitsSigned w64 z) ⊎ ((e ≡ OffsetOverflow) × FitsSigned w64 z × ¬ FitsSigned w32 z)

-- A number of this sign and width can be z.
abbrev pub Fits : Sign → Width → ℤ → Type 0
Fits unsigned width z = FitsUnsigned width z
Fits signed width z = FitsSigned width z

-- The refusal of a difference that doesn't fit `isize`, or fits it and not a number of this sign and width.
abbrev pub IsBeyond : Sign → Width → Error → ℤ → Type 0
IsBeyond sign width e z = ((e ≡ IsizeOverflow) × ¬ FitsSigned w64 z) ⊎ ((e ≡ OffsetOverflow) × FitsSigned w64 z × ¬ Fits sign width z)

-- The bytes of z as a number of this width, the lowest first, in two's complement.
abbrev pub offset_bytes : Width → ℤ → List ℕ
offset_bytes width z = little_bytes (byte_len width) (cast_unsigned width z)

-- z as `isize`: what is above it wraps.
abbrev pub as_isize : ℤ → ℤ
as_isize z = cast_signed w64 (cast_unsigned w64 z)

-- How far the offset that stands at p says that it is.
abbrev pub offset_at : Sign → Width → List ℕ → ℕ → ℤ
offset_at sign width bytes p = as_isize (with_sign sign width (from_le_bytes width (bytes_at bytes p (byte_len width))))
