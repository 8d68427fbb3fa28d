-- What is said of offsets that are written. `Both` is a parameter as a clause names it: what it was as the call began, and what it is at the
-- return.
use denote.Triple.Both.{Both}
use denote.Ref.{MutBor}
use Rattle.std.specs.Prelude.{◌≡◌, ℕ, ℤ, pos, Bool, List, Result, MatchResult}
use Rattle.std.specs.Int.{Width}
use Rattle.archive_check.specs.Shape.{Sign}
use Rattle.archive_check.specs.declared.format.error.Error.{Error}
use Rattle.archive_check.specs.declared.format.error.Error.TheVariants.{OffsetOverflow}
use Rattle.archive_num.specs.Offsets.{distance, Fits, IsBeyond, offset_bytes}
use Rattle.archive_types.specs.RelativePointers.{rel_bytes}
use Rattle.archive_types.specs.declared.place.Place.{Place}

-- The bytes are the offset z, or nothing was written where it doesn't fit.
abbrev pub OffsetWritten : {T : Type 0} → Sign → Width → ℤ → List ℕ → List ℕ → Result T Error → Type 0
OffsetWritten sign width z old new result =
    MatchResult result (λ _. Fits sign width z × (new ≡ offset_bytes width z)) (λ e. (new ≡ old) × (e ≡ OffsetOverflow) × ¬ Fits sign width z)

-- The same of a pointer with a length, or without.
abbrev pub RelWritten : {T : Type 0} → Sign → Width → Bool → ℤ → ℕ → List ℕ → List ℕ → Result T Error → Type 0
RelWritten sign width is_long z n old new result =
    MatchResult result (λ _. Fits sign width z × (new ≡ rel_bytes width is_long z n old)) (λ e. (new ≡ old) × (e ≡ OffsetOverflow) × ¬ Fits sign width z)

-- The bytes of the place are the offset from there to a position, or as they were where it doesn't fit.
abbrev pub OffsetPut : {F R T : Type 0} → Sign → Width → ℕ → Both (Place F) (MutBor (List ℕ) × R) → Result T Error → Type 0
OffsetPut sign width to p result =
    MatchResult result (λ _. Fits sign width (distance p.entry.pos to) × (p.exit.0.now ≡ offset_bytes width (distance p.entry.pos to)))
    (λ e. (p.exit.0.now ≡ p.entry.bytes.now) × IsBeyond sign width e (distance p.entry.pos to))

abbrev pub RelPut : {F R T : Type 0} → Sign → Width → Bool → ℕ → ℕ → Both (Place F) (MutBor (List ℕ) × R) → Result T Error → Type 0
RelPut sign width is_long n to p result =
    MatchResult result (λ _. Fits sign width (distance p.entry.pos to) × (p.exit.0.now ≡ rel_bytes width is_long (distance p.entry.pos to) n p.entry.bytes.now))
    (λ e. (p.exit.0.now ≡ p.entry.bytes.now) × IsBeyond sign width e (distance p.entry.pos to))
