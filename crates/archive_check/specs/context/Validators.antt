-- What the validators hold.
use Rattle.std.specs.Prelude.{ℕ, Option, None, Some, Box}
use Rattle.std.specs.HashMap.{get, spare}
use Rattle.std.specs.Ordering.{int_eq}
use Rattle.archive_check.specs.declared.context.positions.SharedValidator.{SharedValidator}
use Rattle.archive_check.specs.declared.context.validator.Validator.{Validator}
use Rattle.archive_check.specs.declared.context.first.FirstPosition.{FirstPosition}
use Rattle.archive_check.specs.context.PositionStates.{Positions, nothing_met}
use Rattle.archive_check.specs.context.SharedPositions.{positions_in, HasType, IsType}
use Rattle.archive_check.specs.context.FirstPositions.{first_met}
use Rattle.archive_check.specs.Shape.{Flavor, Pointee}

-- The positions that a validator of shared ones met.
abbrev pub positions_of : {A : Type 0} → SharedValidator A → Positions
positions_of v = positions_in v.shared_types.items (get int_eq v.positions)

-- Those that were met: the first is kept alone until there is another, for which a list is made.
abbrev pub positions_met : {A B : Type 0} → Option FirstPosition → Option (Box (SharedValidator A) B) → Positions
positions_met first (Some v) = positions_of v.value
positions_met (Some first) None = first_met first
positions_met None None = nothing_met

-- Its number of a flavor and a pointee: where they stand in its list.
abbrev pub numbered_of : {A : Type 0} → SharedValidator A → ℕ → Flavor → Pointee → Type 0
numbered_of v = HasType v.shared_types.items

-- Where the first position is kept alone, its type has every number.
abbrev pub numbered_met : {A B : Type 0} → Option FirstPosition → Option (Box (SharedValidator A) B) → ℕ → Flavor → Pointee → Type 0
numbered_met first (Some v) number flavor pointee = numbered_of v.value number flavor pointee
numbered_met (Some first) None number flavor pointee = IsType first.shared_type flavor pointee
numbered_met None None number flavor pointee = ⊥

-- How many more it can keep without taking memory for them.
abbrev pub room_of : {A : Type 0} → SharedValidator A → ℕ
room_of v = spare v.positions

-- The two contexts of a validator of both.
abbrev pub archive_of : {A S : Type 0} → Validator A S → A
archive_of v = v.archive

abbrev pub shared_of : {A S : Type 0} → Validator A S → S
shared_of v = v.shared
