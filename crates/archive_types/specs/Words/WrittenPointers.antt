-- What is said of a place that was written, and of what a call did to a writer. `Both` is a parameter as a clause names it: what it was as the call began,
-- and what it is at the return.
use denote.Triple.Both.{Both}
use denote.Ref.{MutBor}
use Rattle.std.specs.Prelude.{◌≡◌, ◌++◌, ℕ, Bool, List, Result, IsErrOf}
use Rattle.archive_check.specs.Layout.{has_length}
use Rattle.archive_check.specs.Shape.{Pointee}
use Rattle.archive_check.specs.declared.format.error.Error.{Error}
use Rattle.archive_check.specs.declared.format.traits.Keys as Keys
use Rattle.archive_num.specs.Offsets.{distance, IsTooFar}
use Rattle.archive_num.specs.OwnerBytes.{owner_bytes}
use Rattle.archive_types.specs.declared.place.Place.{Place}

-- The place is as it was: the offset from there to t doesn't fit.
abbrev pub IsTooFarFrom : {F R : Type 0} → Both (Place F) (MutBor (List ℕ) × R) → ℕ → Error → Type 0
IsTooFarFrom p t e = (p.exit.0.now ≡ p.entry.bytes.now) × IsTooFar e (distance p.entry.pos t)

-- The bytes of the place are an offset to t, and the length n behind it where there is one.
abbrev pub PointsTo : {F R : Type 0} → Both (Place F) (MutBor (List ℕ) × R) → Bool → ℕ → ℕ → Type 0
PointsTo p is_long t n = p.exit.0.now ≡ owner_bytes is_long (distance p.entry.pos t) n

-- Refused so, before anything was written: the writer tells what it told before.
abbrev pub AtOnce : {T S : Type 0} → Result T Error → Error → Keys.Ghosts S → Both (MutBor S) (MutBor S) → Type 0
AtOnce result e k w = IsErrOf result e × (k.state w.exit.now ≡ k.state w.entry.now)

-- These bytes alone were appended.
abbrev pub BytesAdded : {S : Type 0} → List ℕ → Keys.Ghosts S → Both (MutBor S) (MutBor S) → Type 0
BytesAdded bytes k w = (k.state w.exit.now).bytes ≡ (k.state w.entry.now).bytes ++ bytes

-- A pointer to such a pointee of n elements or bytes at t was appended, at the writer's position.
abbrev pub Pointed : {S : Type 0} → Pointee → ℕ → ℕ → (S → ℕ) → Keys.Ghosts S → Both (MutBor S) (MutBor S) → Type 0
Pointed P n t position k w = (k.state w.exit.now).bytes ≡ (k.state w.entry.now).bytes ++ owner_bytes (has_length P) (distance (position w.entry.now) t) n
