-- The bytes of what points to a region: an offset of four bytes, and behind it a length of four, where there is one.
use Rattle.std.specs.Prelude.{◌≡◌, ◌⊎◌, ℕ, ℤ, ◌+◌, ◌^◌, ◌<◌, ◌≤◌, Bool, true, false, List, ◌++◌}
use Rattle.std.specs.Int.{w32, to_le_bytes, cast_unsigned}
use Rattle.archive_check.specs.declared.format.error.Error.{Error}
use Rattle.archive_check.specs.declared.format.error.Error.TheVariants.{LengthTooLarge, LayoutTooLarge}
use Rattle.archive_num.specs.Offsets.{distance, IsTooFar}

abbrev pub owner_bytes : Bool → ℤ → ℕ → List ℕ
owner_bytes false offset n = to_le_bytes w32 (cast_unsigned w32 offset)
owner_bytes true offset n = to_le_bytes w32 (cast_unsigned w32 offset) ++ to_le_bytes w32 n

-- What hinders a pointer of this size at p to n elements or bytes at t: there are too many, it would end too far behind, or its offset doesn't fit.
abbrev pub HindersPointerAt : ℕ → ℕ → ℕ → ℕ → Error → Type 0
HindersPointerAt n size p t e = ((e ≡ LengthTooLarge) × (4294967295 < n)) ⊎ ((e ≡ LayoutTooLarge) × (2 ^ 64 ≤ p + size)) ⊎ IsTooFar e (distance p t)
